-- `operands::cells::prints` meets its contract. The loop's invariant: what is left to scan decides.
use mathlib.Core.Path.{◌≡◌, sym, ◌∙◌}
use Prim.Native.Nat.{◌+◌, ◌-◌}
use native.Mathlib.Omega.{arith}
use lib.IntN.{pos}
use lib.ListN.{get_or}
use mir.Syntax.{w32}
use mir.Val.{to_z, of_z}
use borrow.Author.Rules.{rules}
use Rattle.operands.proofs.Operands.{printable-step}
use Rattle.operands.proofs.cells.prints.Goals as goal

pub loop-i-preserved : goal.loop-i-preserved
loop-i-preserved c =
    let z = get_or c.args.cells.now c.loop-i.i (pos 0) in
    let e : to_z w32 (of_z w32 z) ≡ z = search rules in
    let good = sym (rw e at c.holds_print_byte.ensures) ∙ c.if-not-holds_print_byte.false in
    let less : c.args.from + c.args.n - (c.loop-i.i + 1) ≡ c.args.from + c.args.n - c.loop-i.i - 1 = omega arith in
    rw less (sym (printable-step c.args.cells.now c.loop-i.i (c.args.from + c.args.n - c.loop-i.i) (omega arith) good) ∙ c.loop-i.invariant)
