-- `arithmetic::unary_result` meets its contract.
use mathlib.Core.Path.{ap, ◌∙◌}
use lib.IntN.{ℤ, pos, nat_abs, ◌-ℤ◌}
use mir.Syntax.{w64}
use mir.Facts.{to_z-of_z}
use Rattle.language.proofs.Ints.{opposite-fits, less}
use Rattle.operands.proofs.Ints.{wide_back}
use Rattle.arithmetic.specs.Results.{value_of}
use Rattle.arithmetic.proofs.unary_result.Goals as goal

pub returns-in-Absolute : goal.returns-in-Absolute
returns-in-Absolute c =
    let wide = to_z-of_z {w = w64} (record { sfits = c.from-z.type_inv }) ∙ c.from-z.ensures ∙ to_z-of_z c.ranges.x in
    let size = to_z-of_z {w = w64} (record { sfits = c.abs.type_inv }) ∙ c.abs.ensures.value ∙ ap (λ (z : ℤ). pos (nat_abs z)) wide in
    rw c.in-Absolute.is (c.ranged.ensures ∙ ap (λ (z : ℤ). value_of z) size)

pub returns-in-Negate : goal.returns-in-Negate
returns-in-Negate c =
    rw (
      c.in-Negate.is,
      c.ranged-in-Negate.ensures,
      c.from-z.ensures,
      wide_back (λ a b. pos 0 -ℤ a) c.args.x c.args.x c.ranges.x c.ranges.x (opposite-fits _ c.ranges.x),
      less c.args.x,
    )
