-- What a turn requires and ensures.
use Rattle.std.specs.Prelude.{◌≡◌, List, ℕ, ◌≤◌, ◌<◌, length}
use Rattle.language.specs.Limits.{max_letters, max_cells, max_height, max_calls}
use Rattle.language.specs.Layout.{code_start}
use Rattle.operands.specs.declared.Machine.{Machine}
use Rattle.operands.specs.declared.Frame.{Frame}
use Rattle.operands.specs.declared.cells.Code.{Code}
use Rattle.operands.specs.Held.{Held, outcome}
use Rattle.operands.specs.Turns.{due_at}
use Rattle.operands.specs.Ready.{Placed}

-- A turn can be made with the machine's numbers m over the table at the place p, the open calls f and the output o. Whose table it is, is not asked.
pub record Turning (p : Code) (m : Machine) (f : List Frame) (o : List ℕ) : Type 0 where
  pub placed : Placed p
  pub letter : m.letter < max_letters
  pub first : code_start ≤ m.at
  pub cell : m.at ≤ max_cells
  pub height : m.height ≤ max_height
  pub depth : m.depth ≤ max_calls
  pub written : m.written ≤ length o
  pub size : length f ≡ max_calls

-- the turn at the due cell of that table is made, and there is room for as many open calls as before
pub record Turned (p : Code) (before after : Held) : Type 0 where
  pub turns : outcome after ≡ due_at before.cells p before
  pub size : length after.frames ≡ max_calls
