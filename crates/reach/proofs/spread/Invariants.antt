-- `reach::spread` meets its contract.
use Rattle.reach.specs.Rounds.{marks_of}
use Rattle.reach.proofs.Rounds.{Spreading}
use Rattle.reach.proofs.spread.Given as goal

abbrev pub invariant-loop-a : goal.invariant-loop-a
invariant-loop-a l = Spreading l.calls (marks_of l.reached) (marks_of l.next) l.a
