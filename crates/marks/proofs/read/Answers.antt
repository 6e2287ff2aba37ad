-- `marks::read` meets its contract.
use mathlib.Core.Path.{◌≡◌, sym, ap, ◌∙◌}
use mathlib.Core.List.{[]}
use native.Mathlib.Omega.{arith}
use mir.Syntax.{w32}
use mir.Val.{to_z, of_z}
use borrow.Author.Rules.{rules}
use Rattle.marks.specs.Formats.{called_of, ticked}
use Rattle.marks.proofs.Marks.{reading-none, reading-broken, reading-further, reading-more, reading-unclosed, reading-tested}
use Rattle.marks.proofs.read.Goals as goal

pub loop-at-init : goal.loop-at-init
loop-at-init c = reading-none _ _ _ c.requires.low

pub returns-in_default : goal.returns-in_default
returns-in_default c =
    let p = c.args.code in
    reading-broken c.args.cells.now p.base p.end c.requires.placed.used _ _ _ c.loop-at.at c.loop-at.invariant (omega arith) c.in_default.ensures

pub loop-at-smaller : goal.loop-at-smaller
loop-at-smaller c =
    let p = c.args.code in
    let i = c.loop-at.invariant in
    let h = reading-further c.args.cells.now p.base p.end c.requires.placed.used _ _ _ c.loop-at.at i (omega arith) c.in-Some.next c.in-Some.ensures in
    omega (arith, h, i.high)

pub loop-at-preserved : goal.loop-at-preserved
loop-at-preserved c =
    let p = c.args.code in
    let i = c.loop-at.invariant in
    reading-more c.args.cells.now p.base p.end c.requires.placed.used _ _ _ c.loop-at.at i (omega arith) c.in-Some.next c.in-Some.ensures _
    (c.tick.ensures ∙ ap (λ d. ticked c.loop-at.calls c.args.from (called_of d [])) c.byte_at-due.ensures)

pub returns-then-cell-ne0 : goal.returns-then-cell-ne0
returns-then-cell-ne0 c =
    let p = c.args.code in
    let i = c.loop-at.invariant in
    reading-unclosed c.args.cells.now p.base p.end c.requires.placed.used _ _ _ c.loop-at.at i (omega (arith, i.high))
    (λ e. c.if-cell-ne0.true (ap (of_z w32) (c.cell.ensures ∙ e)))

pub returns : goal.returns
returns c =
    let p = c.args.code in
    let i = c.loop-at.invariant in
    let back : to_z w32 (of_z w32 c.cell.result) ≡ c.cell.result = search rules in
    let back-2 : to_z w32 (of_z w32 c.cell-2.result) ≡ c.cell-2.result = search rules in
    reading-tested c.args.cells.now p.base p.end c.requires.placed.used _ _ _ c.loop-at.at i (omega (arith, i.high))
    (sym c.cell.ensures ∙ sym back ∙ ap (to_z w32) c.if-cell-ne0.false) c.cell-2.result back-2 c.cell-2.ensures
