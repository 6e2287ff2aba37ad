-- The worked examples of desk lines hold, by computation.
use mathlib.Core.Path.{refl}
use Rattle.lines.specs.Lines.{request}
use Rattle.lines.specs.Examples.{Hold, forms}

pub forms-hold : Hold forms
unfolding request
forms-hold = refl
