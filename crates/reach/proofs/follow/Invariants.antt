-- `reach::follow` meets its contract.
use Rattle.reach.specs.Rounds.{in_array, marks_of}
use Rattle.reach.proofs.Rounds.{Following}
use Rattle.reach.proofs.follow.Given as goal

abbrev pub invariant-loop-n : goal.invariant-loop-n
invariant-loop-n l = Following (in_array l.calls) (marks_of l.fn.start) (marks_of l.reached) l._n
