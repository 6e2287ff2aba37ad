-- `interpreter::cycle::drive` meets its contract. The loops come to what the run comes to. The measure: steps left twice, and open calls.
use Rattle.operands.specs.Held.{held}
use Rattle.book.specs.Store.{store_of}
use Rattle.interpreter.specs.Runs.{ran}
use Rattle.interpreter.proofs.Runs.{Entering, Stretch, left_over}
use Rattle.interpreter.proofs.cycle.drive.Given as goal

abbrev pub invariant-loop-m : goal.invariant-loop-m
invariant-loop-m l =
    Entering l.allowance l.initial.output
    (ran (store_of l.cells l.used l.permissions l.initial.vars) (record { letter = l.letter; role = l.role; allowance = l.allowance; inputs = l.inputs; output = l.initial.output }))
    (held l.m l.cells l.used l.permissions l.role l.inputs l.frames l.counts l.vars l.slots l.output)

abbrev pub decreases-loop-m : goal.decreases-loop-m
decreases-loop-m l = left_over l.m

abbrev pub invariant-loop-m-2 : goal.invariant-loop-m-2
invariant-loop-m-2 l =
    Stretch
    (held l.initial.m l.cells l.used l.permissions l.role l.inputs l.initial.frames l.initial.counts l.initial.vars l.initial.slots l.initial.output)
    l.pair
    (held l.m l.cells l.used l.permissions l.role l.inputs l.frames l.counts l.vars l.slots l.output)

abbrev pub decreases-loop-m-2 : goal.decreases-loop-m-2
decreases-loop-m-2 l = left_over l.m
