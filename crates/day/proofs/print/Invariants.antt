-- `day::print` meets its contract. The loop's invariant: what was printed is a beginning of the day.
use lib.ListN.{length}
use Rattle.engine.specs.Stored.{stored}
use Rattle.console.specs.Places.{progress}
use Rattle.day.proofs.Played.{Turning}
use Rattle.day.proofs.print.Given as goal

abbrev pub invariant-loop-rest : goal.invariant-loop-rest
invariant-loop-rest l = Turning l.input l.initial.output (progress (stored l.store) l.place l.line) l.rest l.count l.output l.line l.paper

abbrev pub decreases-loop-rest : goal.decreases-loop-rest
decreases-loop-rest l = length l.rest
