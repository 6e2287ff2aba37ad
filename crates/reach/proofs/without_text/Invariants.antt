-- `reach::without_text` meets its contract.
use mathlib.Core.Bool.{false, ◌&&◌}
use lib.ListN.{get_or}
use lib.Dec.{eqb}
use Rattle.reach.proofs.Flags.{Flagging}
use Rattle.reach.proofs.without_text.Given as goal

abbrev pub invariant-loop-b : goal.invariant-loop-b
invariant-loop-b l = Flagging false (λ b. get_or l.reached b false && eqb (get_or l.used b 0) 0) l.missing l.b
