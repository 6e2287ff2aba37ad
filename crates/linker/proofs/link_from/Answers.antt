-- `link_from` meets its contract.
use mathlib.Core.Path.{ap}
use native.Mathlib.Omega.{arith}
use borrow.Author.Rules.{rules}
use Rattle.linker.specs.Into.{linked_over}
use Rattle.linker.proofs.LinkedText.{link-unskipped-after, link-stray-after, link-whole, link-unfilled, link-counts}
use Rattle.linker.proofs.link_from.Goals as goal

pub returns-in_err-end : goal.returns-in_err-end
returns-in_err-end c =
    let e = link-unskipped-after c.args.text.now c.args.from _ _ c.in_ok-next.ensures c.in_err-end.field-0.0 c.in_err-end.ensures.skips in
    grind (arith, e)

pub returns-then-end-text : goal.returns-then-end-text
returns-then-end-text c =
    ap (linked_over c.args.places.now)
    (link-stray-after c.args.text.now c.args.from _ _ c.in_ok-next.ensures c.in_ok-end.end c.in_ok-end.ensures.skips c.if-end-text.true
    (omega (arith, c.type_inv.text c.in_ok-end.end)) c.in_ok-end.ensures.settles)

pub returns-then-is_empty : goal.returns-then-is_empty
returns-then-is_empty c =
    let e = link-unfilled c.args.text.now c.args.from _ _ c.in_ok-next.ensures c.in_ok-end.end c.in_ok-end.ensures.skips c.if-end-text.false in
    rw (← e) grind arith

pub returns : goal.returns
returns c =
    let e = link-whole c.args.text.now c.args.from _ _ c.in_ok-next.ensures c.in_ok-end.end c.in_ok-end.ensures.skips c.if-end-text.false _ c.fill.ensures in
    let u = link-counts c.args.text.now c.args.from _ _ c.in_ok-next.ensures _ c.fill.ensures in
    rw (← e, u) search rules
