-- The worked examples hold, by computation.
use mathlib.Core.Path.{refl}
use Rattle.language.specs.Reading.{read}
use Rattle.language.specs.Values.{is_value}
use Rattle.language.specs.Roles.{bars}
use Rattle.language.specs.Money.{read_money}
use Rattle.language.specs.Effects.{start, perform, ask}
use Rattle.language.specs.Meaning.{meaning}
use Rattle.language.specs.Machine.{decode, arrive, run}
use Rattle.language.specs.Trials.{text_at, permission_in, Hold}
use Rattle.language.specs.Examples.{starred, faults, limits, layouts, decodings, effects, slips, control, stops, guardings}

-- document 01's starred examples
pub starred-hold : Hold starred
unfolding read text_at permission_in start is_value perform ask bars meaning decode arrive run
starred-hold = refl

pub faults-hold : Hold faults
unfolding read
faults-hold = refl

pub limits-hold : Hold limits
unfolding read
limits-hold = refl

pub layouts-hold : Hold layouts
unfolding read
layouts-hold = refl

pub decodings-hold : Hold decodings
unfolding decode
decodings-hold = refl

pub effects-hold : Hold effects
unfolding read text_at permission_in start is_value perform ask bars meaning decode arrive run
effects-hold = refl

pub slips-hold : Hold slips
unfolding read_money
slips-hold = refl

pub control-hold : Hold control
unfolding read text_at permission_in start is_value perform ask bars meaning decode arrive run
control-hold = refl

pub stops-hold : Hold stops
unfolding read text_at permission_in start is_value perform ask bars meaning decode arrive run
stops-hold = refl

pub guardings-hold : Hold guardings
unfolding read text_at permission_in start is_value perform ask bars meaning decode arrive run
guardings-hold = refl
