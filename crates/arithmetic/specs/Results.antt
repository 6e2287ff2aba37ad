-- What an operator makes of the values on the stack.
use Rattle.std.specs.Prelude.{cond, ℤ, pos, nat_abs, neg_ℤ, ◌+ℤ◌, ◌-ℤ◌, ◌*ℤ◌, eqb, Result, Ok, Err}
use Rattle.language.specs.declared.Ending.{Ending}
use Rattle.language.specs.declared.Ending.TheVariants.{Range, ZeroDivisor}
use Rattle.language.specs.Syntax.{Operator, absolute, negate, add, subtract, multiply, divide}
use Rattle.language.specs.Values.{is_value}
use Rattle.language.specs.Division.{quotient}
use Rattle.arithmetic.specs.declared.UnaryOperator.{UnaryOperator}
use Rattle.arithmetic.specs.declared.UnaryOperator.TheVariants.{Absolute, Negate}
use Rattle.arithmetic.specs.declared.BinaryOperator.{BinaryOperator}
use Rattle.arithmetic.specs.declared.BinaryOperator.TheVariants.{Add, Subtract, Multiply, Divide}

-- "range: result outside the values"
abbrev pub value_of : ℤ → Result ℤ Ending
value_of z = cond (is_value z) (Ok z) (Err Range)

-- ── `A` and `M` ─────────────────────────────────────────────────────────────────────────────────

-- which operator it is
abbrev pub unary_of : UnaryOperator → Operator
unary_of Absolute = absolute
unary_of Negate = negate

-- its result on the top
abbrev pub unary_result : UnaryOperator → ℤ → Result ℤ Ending
unary_result Absolute x = value_of (pos (nat_abs x))
unary_result Negate x = value_of (neg_ℤ x)

-- ── `+ - * /` ───────────────────────────────────────────────────────────────────────────────────

-- which operator it is
abbrev pub binary_of : BinaryOperator → Operator
binary_of Add = add
binary_of Subtract = subtract
binary_of Multiply = multiply
binary_of Divide = divide

-- "zero divisor", or the quotient
abbrev pub divided : ℤ → ℤ → Result ℤ Ending
divided x y = cond (eqb (nat_abs y) 0) (Err ZeroDivisor) (Ok (quotient x y))

-- its result on second and top: "24 before 23"
abbrev pub binary_result : BinaryOperator → ℤ → ℤ → Result ℤ Ending
binary_result Add x y = value_of (x +ℤ y)
binary_result Subtract x y = value_of (x -ℤ y)
binary_result Multiply x y = value_of (x *ℤ y)
binary_result Divide x y = cond (eqb (nat_abs y) 0) (Err ZeroDivisor) (value_of (quotient x y))
