-- The worked run holds, by computation.
use mathlib.Core.Path.{refl}
use Rattle.language.specs.Roles.{bars}
use Rattle.language.specs.Effects.{start, on_call}
use Rattle.language.specs.Machine.{decode, pick}
use Rattle.interpreter.specs.Fetching.{course, goes_on}
use Rattle.interpreter.specs.Examples.{Hold, courses, stretches}

pub courses-hold : Hold courses
unfolding course decode on_call bars pick start
courses-hold = (refl, (refl, (refl, (refl, (refl, (refl, (refl, (refl, (refl, (refl, (refl, tt)))))))))))

pub stretches-hold : Hold stretches
unfolding goes_on decode on_call pick start
stretches-hold = (refl, (refl, (refl, (refl, (refl, (refl, tt))))))
