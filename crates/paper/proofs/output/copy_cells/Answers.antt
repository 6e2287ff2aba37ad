-- `paper::output::copy_cells` meets its contract.
use mathlib.Core.Path.{◌≡◌, refl}
use Prim.Native.Nat.{◌+◌}
use native.Mathlib.Omega.{arith}
use lib.IntN.{ℤ, pos}
use lib.ListN.{get_or}
use mir.Syntax.{w32}
use mir.Val.{to_z, of_z}
use borrow.Author.Rules.{rules}
use Rattle.language.proofs.Copies.{pasting-none, pasting-more, pasting-done}
use Rattle.operands.proofs.Operands.{length-prints, get_or-prints, prints-castable}
use Rattle.paper.proofs.output.copy_cells.Goals as goal

pub loop-i-init : goal.loop-i-init
loop-i-init c = pasting-none _ _ _ _ (omega arith) (omega (arith, length-prints c.args.cells.now c.args.from c.args.n))

pub overflow_cast-output : goal.overflow_cast-output
overflow_cast-output c =
    let cell : ℤ = get_or c.args.cells.now (c.args.from + c.loop-i.i) (pos 0) in
    let back : to_z w32 (of_z w32 cell) ≡ cell = search rules in
    rw back (prints-castable c.args.cells.now c.args.from c.args.n c.loop-i.i c.requires.form (omega arith))

pub loop-i-preserved : goal.loop-i-preserved
loop-i-preserved c =
    let cell : ℤ = get_or c.args.cells.now (c.args.from + c.loop-i.i) (pos 0) in
    let back : to_z w32 (of_z w32 cell) ≡ cell = search rules in
    let k = get_or-prints c.args.cells.now c.args.from c.args.n c.loop-i.i (omega arith) in
    pasting-more _ _ _ _ 0 _ _ _ _ c.loop-i.invariant (omega arith) refl (rw back k)

pub returns : goal.returns
returns c = pasting-done _ _ _ _ _ _ c.loop-i.invariant (omega arith)
