-- `reach::with_row` meets its contract.
use mathlib.Core.Bool.{false, ◌||◌}
use Prim.Native.Nat.{◌+◌}
use lib.ListN.{get_or}
use Rattle.reach.specs.Reach.{is_flagged}
use Rattle.reach.proofs.Flags.{Flagging}
use Rattle.reach.proofs.with_row.Given as goal

abbrev pub invariant-loop-b : goal.invariant-loop-b
invariant-loop-b l = Flagging false (λ b. get_or l.reached b false || is_flagged l.calls (l.from + b)) l.next l.b
