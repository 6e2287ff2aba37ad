-- `paper::output::print` meets its contract. The length and the form of the bytes are the decoding of the mark.
use mathlib.Core.Path.{sym, ◌∙◌}
use native.Mathlib.Omega.{arith}
use borrow.Author.Tests.{eq-eqb, ne_eqb}
use Rattle.language.specs.Effects.{perform}
use Rattle.operands.specs.Held.{state_of, printing}
use Rattle.operands.specs.Operands.{prints_from, bytes_index}
use Rattle.operands.proofs.Operands.{length-prints, print-good}
use Rattle.paper.proofs.Copies.{print-due}
use Rattle.paper.proofs.Effects.{emitted-fits, emitted-out}
use Rattle.paper.proofs.output.print.Goals as goal

pub copy_cells-requires : goal.copy_cells-requires
copy_cells-requires c =
    let p = print-good c.args.cells.now c.args.code c.args.m.at c.in-Some.n (sym c.print_at.ensures ∙ c.in-Some.is) in
    record { room = omega arith; cells = omega (arith, p.early); form = p.form }

pub returns-in_default : goal.returns-in_default
returns-in_default c = λ h.
    let none = print-due c.args.cells.now c.args.code c.args.m.at c.requires.inside.placed.used c.print_at.ensures in
    rw (c.stop.ensures, none, c.in_default.is)

pub returns-then-m-eq0 : goal.returns-then-m-eq0
returns-then-m-eq0 c = λ h.
    let spent = print-due c.args.cells.now c.args.code c.args.m.at c.requires.inside.placed.used c.print_at.ensures in
    rw (c.stop-then-m-eq0.ensures, spent, c.in-Some.is, eq-eqb _ _ c.if-m-eq0.true)

pub returns-then-output-w : goal.returns-then-output-w
unfolding perform
returns-then-output-w c = λ h.
    let a = c.args in
    let n = c.in-Some.n in
    let from = bytes_index a.code a.m.at in
    let full = print-due a.cells.now a.code a.m.at c.requires.inside.placed.used c.print_at.ensures in
    let out = emitted-out (state_of (printing a.m a.output.now h)) (prints_from a.cells.now from n) n (length-prints a.cells.now from n) (omega arith) in
    rw (c.stop-then-output-w.ensures, full, c.in-Some.is, ne_eqb _ _ c.if-m-eq0.false, out)

pub returns : goal.returns
unfolding perform
returns c = λ h.
    let a = c.args in
    let n = c.in-Some.n in
    let from = bytes_index a.code a.m.at in
    let done = print-due a.cells.now a.code a.m.at c.requires.inside.placed.used c.print_at.ensures in
    let fits = emitted-fits (state_of (printing a.m a.output.now h)) (prints_from a.cells.now from n) n (length-prints a.cells.now from n) (omega arith) in
    rw (c.go.ensures, c.copy_cells.ensures, done, c.in-Some.is, ne_eqb _ _ c.if-m-eq0.false, fits)
