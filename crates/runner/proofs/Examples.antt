-- The figures of a run for C, by computation.
use mathlib.Core.Path.{refl}
use Rattle.runner.specs.Examples.{FiguresHold}

pub figures-hold : FiguresHold
figures-hold = (refl, refl)
