-- The examples hold, by computation.
use mathlib.Core.Path.{refl}
use Rattle.day.specs.Examples.{OutputsHold}

pub outputs-hold : OutputsHold
outputs-hold = refl
