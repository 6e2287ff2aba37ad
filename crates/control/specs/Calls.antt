-- What a call ensures.
use Rattle.std.specs.Prelude.{◌≡◌, List, ℕ, length}
use Rattle.language.specs.Limits.{max_calls}
use Rattle.operands.specs.declared.Frame.{Frame}
use Rattle.operands.specs.declared.Machine.{Machine}
use Rattle.operands.specs.Loop.{Turn}
use Rattle.operands.specs.Held.{Held, called}
use Rattle.operands.specs.Turns.{Turns}

-- From the machine's numbers m and the open calls f to r and g, over the used-cell counts u and the permissions k, for a caller with the role c: the turn
-- `next`, and as many open calls as there is room for.
pub record Called (next : Held → Turn) (u k : List ℕ) (c : ℕ) (m : Machine) (f : List Frame) (r : Machine) (g : List Frame) : Type 0 where
  pub turns : Turns next (called m u k c f) (called r u k c g)
  pub size : length g ≡ max_calls
