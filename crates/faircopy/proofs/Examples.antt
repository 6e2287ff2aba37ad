-- The examples hold, by computation.
use mathlib.Core.Path.{refl}
use Rattle.language.specs.Reading.{read}
use Rattle.language.specs.Decimals.{decimal}
use Rattle.faircopy.specs.Examples.{TrialsHold, PapersHold}

pub trials-hold : TrialsHold
unfolding read decimal
trials-hold = refl

pub papers-hold : PapersHold
unfolding read decimal
papers-hold = refl
