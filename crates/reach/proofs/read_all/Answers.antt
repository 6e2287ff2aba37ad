-- `reach::read_all` meets its contract.
use mathlib.Core.Path.{refl, sym, ◌∙◌}
use native.Mathlib.Omega.{arith}
use Rattle.reach.specs.Rounds.{rows}
use Rattle.reach.proofs.Rounds.{sound-at, gathering-more, gathering-damaged, gathering-done}
use Rattle.reach.proofs.read_all.Goals as goal

pub loop-letter-init : goal.loop-letter-init
unfolding rows
loop-letter-init c = record { counts = c.requires.counts; few = omega arith; sound = refl; array = c.requires.array }

pub read_one-requires : goal.read_one-requires
read_one-requires c = record { letter = omega arith; count = sound-at _ _ c.loop-letter.invariant.counts }

pub returns-then-not-read_one : goal.returns-then-not-read_one
returns-then-not-read_one c = gathering-damaged _ _ _ _ c.loop-letter.invariant _ (omega arith) (sym c.read_one.ensures.sound ∙ c.if-not-read_one.true)

pub loop-letter-preserved : goal.loop-letter-preserved
loop-letter-preserved c = gathering-more _ _ _ _ c.loop-letter.invariant _ (omega arith) (sym c.read_one.ensures.sound ∙ c.if-not-read_one.false) c.read_one.ensures.calls

pub returns : goal.returns
returns c = gathering-done _ _ _ _ c.loop-letter.invariant (omega arith)
