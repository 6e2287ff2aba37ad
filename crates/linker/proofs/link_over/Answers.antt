-- `link_over` meets its contract.
use mathlib.Core.Path.{sym, ap, ◌∙◌}
use native.Mathlib.Omega.{arith}
use Rattle.linker.specs.Into.{linked_over}
use Rattle.linker.proofs.LinkedText.{link-long, link-unskipped, link-empty, link-stray, link-inside}
use Rattle.linker.proofs.link_over.Goals as goal

pub returns-then-text-gt-TEXT : goal.returns-then-text-gt-TEXT
returns-then-text-gt-TEXT c = ap (linked_over c.args.places.now) (link-long c.args.text.now c.if-text-gt-TEXT.true)

pub returns-in_err-at : goal.returns-in_err-at
returns-in_err-at c =
    let e = link-unskipped c.args.text.now c.if-text-gt-TEXT.false c.in_err-at.field-0.0 c.in_err-at.ensures.skips in
    grind (arith, e)

pub returns-in-None : goal.returns-in-None
returns-in-None c =
    ap (linked_over c.args.places.now)
    (link-empty c.args.text.now c.if-text-gt-TEXT.false c.in_ok-at.at c.in_ok-at.ensures.skips c.in-None.ensures.lookup.3)

pub returns-in-Some-eq40 : goal.returns-in-Some-eq40
returns-in-Some-eq40 c =
    let b = c.in-Some-eq40.ensures.lookup.3 in
    c.link_from.ensures
    ∙ ap (linked_over c.args.places.now)
    (link-inside c.args.text.now c.if-text-gt-TEXT.false c.in_ok-at.at c.in_ok-at.ensures.skips b.0 (omega (arith, c.type_inv.text c.in_ok-at.at))
    c.in_ok-at.ensures.settles (sym (b.1 0) ∙ c.in-Some-eq40.field-0-test))

pub returns-in-Some : goal.returns-in-Some
returns-in-Some c =
    let b = c.in-Some.ensures.lookup.3 in
    ap (linked_over c.args.places.now)
    (link-stray c.args.text.now c.if-text-gt-TEXT.false c.in_ok-at.at c.in_ok-at.ensures.skips b.0 (omega (arith, c.type_inv.text c.in_ok-at.at))
    c.in_ok-at.ensures.settles (λ e. c.in-Some.field-0-test.1 (b.1 0 ∙ e)))
