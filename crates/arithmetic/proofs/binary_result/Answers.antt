-- `arithmetic::binary_result` meets its contract.
use mathlib.Core.Path.{◌≡◌, sym, ◌∙◌}
use lib.IntN.{◌+ℤ◌, ◌-ℤ◌, ◌*ℤ◌}
use mir.Syntax.{w64}
use mir.Val.{to_z, of_z}
use mir.Facts.{to_z-of_z}
use borrow.Author.Rules.{rules}
use Rattle.operands.proofs.Ints.{wide_back, sum_fits, difference-fits, product-fits}
use Rattle.arithmetic.proofs.Results.{divided-ranged}
use Rattle.arithmetic.proofs.binary_result.Goals as goal

pub returns-in-Add : goal.returns-in-Add
returns-in-Add c =
    rw (c.in-Add.is, c.ranged.ensures, c.from-a.ensures, c.from-b.ensures, wide_back ◌+ℤ◌ c.args.x c.args.y c.ranges.x c.ranges.y (sum_fits _ _ c.ranges.x c.ranges.y))

pub returns-in-Subtract : goal.returns-in-Subtract
returns-in-Subtract c =
    rw (c.in-Subtract.is, c.ranged-in-Subtract.ensures, c.from-a.ensures, c.from-b.ensures, wide_back ◌-ℤ◌ c.args.x c.args.y c.ranges.x c.ranges.y (difference-fits _ _ c.ranges.x c.ranges.y))

pub returns-in-Multiply : goal.returns-in-Multiply
returns-in-Multiply c =
    rw (c.in-Multiply.is, c.ranged-in-Multiply.ensures, c.from-a.ensures, c.from-b.ensures, wide_back ◌*ℤ◌ c.args.x c.args.y c.ranges.x c.ranges.y (product-fits _ _ c.ranges.x c.ranges.y))

pub returns-in_ok-divided-in-Divide : goal.returns-in_ok-divided-in-Divide
returns-in_ok-divided-in-Divide c =
    let q = c.in_ok-divided-in-Divide.field-0 in
    let back : to_z w64 (of_z w64 q) ≡ q = search rules in
    let read = rw (to_z-of_z c.ranges.x, to_z-of_z c.ranges.y) at c.divided.ensures in
    rw (c.in-Divide.is, c.ranged-in-Divide.ensures, back, divided-ranged c.args.x c.args.y q (sym read ∙ c.in_ok-divided-in-Divide.was))
