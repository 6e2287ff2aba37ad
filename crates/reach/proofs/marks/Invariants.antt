-- `reach::marks` meets its contract.
use mathlib.Core.Bool.{false}
use lib.ListN.{get_or}
use Rattle.reach.proofs.Flags.{flag, Flagging}
use Rattle.reach.proofs.marks.Given as goal

abbrev pub invariant-loop-b : goal.invariant-loop-b
invariant-loop-b l = Flagging 0 (λ b. flag (get_or l.letters b false)) l.marks l.b
