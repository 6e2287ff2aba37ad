-- `write_bytes` meets its contract.
use mathlib.Core.Path.{refl, sym, ◌∙◌}
use borrow.Author.Tests.{leb-true}
use Rattle.numerals.proofs.Numerals.{written-no-room, placed}
use Rattle.numerals.proofs.write_bytes.Goals as goal

pub returns-then-not-fits : goal.returns-then-not-fits
returns-then-not-fits c = written-no-room _ _ _ (sym c.fits.ensures ∙ c.if-not-fits.true)

pub returns : goal.returns
returns c = placed _ _ _ _ _ refl c.copy_from_slice.ensures.after (leb-true _ _ (sym c.fits.ensures ∙ c.if-not-fits.false))
