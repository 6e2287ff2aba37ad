-- `control::transfer` meets its contract.
use borrow.Author.Tests.{eq-eqb, ne_eqb}
use Rattle.control.proofs.Readings.{transfer-read}
use Rattle.control.proofs.transfer.Goals as goal

pub returns-in_default : goal.returns-in_default
returns-in_default c = λ h.
    let e = transfer-read c.args.cells.now c.args.code c.args.m.at c.requires.byte c.cell.ensures (record { sfits = c.cell.type_inv }) c.target.ensures in
    rw (c.stop.ensures, e, c.in_default.is)

pub returns-then-m-eq0 : goal.returns-then-m-eq0
returns-then-m-eq0 c = λ h.
    let e = transfer-read c.args.cells.now c.args.code c.args.m.at c.requires.byte c.cell.ensures (record { sfits = c.cell.type_inv }) c.target.ensures in
    rw (c.stop-then-m-eq0.ensures, e, c.in-Some.is, eq-eqb _ _ c.if-m-eq0.true)

pub returns : goal.returns
returns c = λ h.
    let e = transfer-read c.args.cells.now c.args.code c.args.m.at c.requires.byte c.cell.ensures (record { sfits = c.cell.type_inv }) c.target.ensures in
    rw (c.go.ensures, e, c.in-Some.is, ne_eqb _ _ c.if-m-eq0.false)
