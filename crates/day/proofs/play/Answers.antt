-- `day::play` meets its contract.
use native.Mathlib.Omega.{arith}
use Rattle.console.specs.Day.{day_of}
use Rattle.day.proofs.Played.{too_short, long-enough}
use Rattle.day.proofs.play.Goals as goal

pub returns-then-output-count : goal.returns-then-output-count
returns-then-output-count c =
    too_short _ c.print-count.new.output (day_of c.args.input.now) _ (omega (arith, c.print-count.auto.output)) c.print-count.ensures.count c.if-output-count.true

pub returns : goal.returns
returns c =
    long-enough _ c.print-count.new.output _ _ (omega (arith, c.print-count.auto.output)) c.print-count.ensures.count _ _ c.if-output-count.false c.print.ensures
