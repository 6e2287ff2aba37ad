-- `marks::next_cell` meets its contract.
use mathlib.Core.Path.{◌≡◌, sym, ◌∙◌}
use mir.Syntax.{w32}
use mir.Val.{to_z, of_z}
use borrow.Author.Rules.{rules}
use Rattle.marks.proofs.Marks.{mark-ends, transfer-ends, none-ends}
use Rattle.marks.proofs.next_cell.Goals as goal

pub returns-in-Mark : goal.returns-in-Mark
returns-in-Mark c =
    let r = c.requires in
    rw (c.mark_end.ensures, c.format_of.ensures)
    (mark-ends c.args.cells.now c.args.code c.args.at r.inside.first r.inside.early r.inside.placed.used c.in-Mark.b (sym r.byte ∙ c.in-Mark.is))

pub returns-in_err-target-in-Transfer : goal.returns-in_err-target-in-Transfer
returns-in_err-target-in-Transfer c =
    let r = c.requires in
    let back : to_z w32 (of_z w32 c.cell.result) ≡ c.cell.result = search rules in
    let none = rw (back, c.cell.ensures) at c.in_err-target-in-Transfer.ensures in
    rw (c.from_residual.ensures, ← transfer-ends c.args.cells.now c.args.code c.args.at r.inside.first r.inside.early r.inside.placed.used (sym r.byte ∙ c.in-Transfer.is), ← none)

pub returns-in_ok-target-in-Transfer : goal.returns-in_ok-target-in-Transfer
returns-in_ok-target-in-Transfer c =
    let r = c.requires in
    let back : to_z w32 (of_z w32 c.cell.result) ≡ c.cell.result = search rules in
    let some = rw (back, c.cell.ensures) at c.in_ok-target-in-Transfer.ensures in
    rw (← transfer-ends c.args.cells.now c.args.code c.args.at r.inside.first r.inside.early r.inside.placed.used (sym r.byte ∙ c.in-Transfer.is), ← some)

pub returns-in-End : goal.returns-in-End
returns-in-End c =
    let r = c.requires in
    none-ends c.args.cells.now c.args.code c.args.at r.inside.first r.inside.early r.inside.placed.used (sym r.byte ∙ c.in-End.is)
