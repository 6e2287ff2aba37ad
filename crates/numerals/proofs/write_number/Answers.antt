-- `write_number` meets its contract.
use mathlib.Core.Path.{◌≡◌, sym, ap, ◌∙◌}
use mathlib.Core.List.{append-nil}
use Prim.Native.Nat.{◌+◌, ◌-◌, ◌≤◌}
use native.Mathlib.Omega.{arith}
use lib.ListN.{length, take, drop, replicate, length-replicate}
use borrow.Author.Tests.{leb-true}
use Rattle.language.specs.Bytes.{blank_byte}
use Rattle.language.specs.Decimals.{decimals}
use Rattle.numerals.proofs.Numerals.{ends-part, placed, place-length, number-no-room, number-written}
use Rattle.numerals.proofs.write_number.Goals as goal

pub returns-then-not-fits : goal.returns-then-not-fits
returns-then-not-fits c =
    let k = c.column_of-column.result in
    let p : take (length k.text - k.start) (drop k.start k.text) ≡ decimals c.args.minus c.args.number = ends-part _ _ _ (rw append-nil at c.column_of-column.ensures) in
    number-no-room _ _ _ _ _ (rw p at c.saturating_sub-blanks.ensures) (sym (rw p at c.fits.ensures) ∙ c.if-not-fits.true)

pub returns : goal.returns
returns c =
    let k = c.column_of-column.result in
    let p : take (length k.text - k.start) (drop k.start k.text) ≡ decimals c.args.minus c.args.number = ends-part _ _ _ (rw append-nil at c.column_of-column.ensures) in
    let b = c.saturating_sub-blanks.result in
    let h : c.args.at + (b + length (decimals c.args.minus c.args.number)) ≤ length c.args.out.now = leb-true _ _ (sym (rw p at c.fits.ensures) ∙ c.if-not-fits.false) in
    number-written _ _ _ _ _ (rw p at c.saturating_sub-blanks.ensures) (sym (rw p at c.fits.ensures) ∙ c.if-not-fits.false)
    (placed _ _ b (replicate b blank_byte) _ (sym (length-replicate b blank_byte)) (c.fill.ensures.after (λ y e. e) ∙ ap (λ n. replicate n blank_byte) (place-length _ _ b (omega arith))) (omega arith))
    (rw p at c.write_bytes.ensures)
