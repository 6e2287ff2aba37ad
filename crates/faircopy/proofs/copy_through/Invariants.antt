-- `copy_through` meets its contract. The loop's invariant: the bytes before those that are left are copied.
use lib.ListN.{length}
use Rattle.faircopy.proofs.StepsParts.{Through}
use Rattle.faircopy.proofs.copy_through.Given as goal

abbrev pub invariant-loop-left : goal.invariant-loop-left
invariant-loop-left l = Through l.close l.text l.initial.out l.at l.left l.end l.out

abbrev pub decreases-loop-left : goal.decreases-loop-left
decreases-loop-left l = length l.left
