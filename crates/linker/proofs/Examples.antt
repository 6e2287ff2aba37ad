-- The examples of texts linked into lent places, by computation.
use mathlib.Core.Path.{refl}
use Rattle.language.specs.Reading.{read}
use Rattle.linker.specs.Examples.{LinksHold, LinkOfMore}

pub links-hold : LinksHold
unfolding read
links-hold = refl

pub link-of-more : LinkOfMore
unfolding read
link-of-more = (refl, refl)
