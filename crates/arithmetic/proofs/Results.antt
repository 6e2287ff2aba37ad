-- An operator's effect, of its result. Each is `needs`, then what the result does.
use mathlib.Core.Path.{◌≡◌, refl, ap}
use mathlib.Core.Bool.{Bool, true, false, cond}
use lib.IntN.{ℤ, nat_abs}
use lib.Dec.{eqb}
use Rattle.std.specs.Prelude.{Result, Ok, Err}
use Rattle.language.specs.declared.Ending.{Ending}
use Rattle.language.specs.declared.Ending.TheVariants.{Range, ZeroDivisor}
use Rattle.language.specs.Syntax.{operator}
use Rattle.language.specs.Values.{is_value}
use Rattle.language.specs.Division.{quotient}
use Rattle.language.specs.Effects.{State, Effect, goes, stops, top, second, needs, replaced, combined, ranged, perform}
use Rattle.arithmetic.specs.declared.UnaryOperator.{UnaryOperator}
use Rattle.arithmetic.specs.declared.UnaryOperator.TheVariants.{Absolute, Negate}
use Rattle.arithmetic.specs.declared.BinaryOperator.{BinaryOperator}
use Rattle.arithmetic.specs.declared.BinaryOperator.TheVariants.{Add, Subtract, Multiply, Divide}
use Rattle.arithmetic.specs.Results.{value_of, unary_of, unary_result, binary_of, divided, binary_result}

-- what a result does: a value makes a state, and an ending stops the run
abbrev pub done : (State → ℤ → State) → Result ℤ Ending → State → Effect
done f (Ok z) s = goes (f s z)
done f (Err e) s = stops e

-- a result in range has the effect of its value
ranged-done : (f : State → ℤ → State) (s : State) (z : ℤ) → ranged z (f s z) ≡ done f (value_of z) s
ranged-done f s z = go (is_value z)
  where
    go : (u : Bool) → cond u (goes (f s z)) (stops Range) ≡ done f (cond u (Ok z) (Err Range)) s
    go true = refl
    go false = refl

-- so has one that may have no divisor
divided-done : (f : State → ℤ → State) (s : State) (u : Bool) (z : ℤ)
    → cond u (stops ZeroDivisor) (ranged z (f s z)) ≡ done f (cond u (Err ZeroDivisor) (value_of z)) s
divided-done f s true z = refl
divided-done f s false z = ranged-done f s z

-- `A` and `M`
pub unary-operated : (o : UnaryOperator) (s : State) → perform (operator (unary_of o)) s ≡ needs 1 s (done replaced (unary_result o (top s)) s)
unfolding perform
unary-operated Absolute s = ap (λ (e : Effect). needs 1 s e) (ranged-done replaced s _)
unary-operated Negate s = ap (λ (e : Effect). needs 1 s e) (ranged-done replaced s _)

-- `+ - * /`
pub binary-operated : (o : BinaryOperator) (s : State)
    → perform (operator (binary_of o)) s ≡ needs 2 s (done combined (binary_result o (second s) (top s)) s)
unfolding perform
binary-operated Add s = ap (λ (e : Effect). needs 2 s e) (ranged-done combined s _)
binary-operated Subtract s = ap (λ (e : Effect). needs 2 s e) (ranged-done combined s _)
binary-operated Multiply s = ap (λ (e : Effect). needs 2 s e) (ranged-done combined s _)
binary-operated Divide s = ap (λ (e : Effect). needs 2 s e) (divided-done combined s (eqb (nat_abs (top s)) 0) _)

-- a quotient is tested for the range
pub divided-ranged : (x y q : ℤ) → divided x y ≡ Ok q → binary_result Divide x y ≡ value_of q
divided-ranged x y q e = go (eqb (nat_abs y) 0) e
  where
    go : (u : Bool) → cond u (Err ZeroDivisor) (Ok (quotient x y)) ≡ Ok q → cond u (Err ZeroDivisor) (value_of (quotient x y)) ≡ value_of q
    go true i = absurd cc
    go false i = let k : quotient x y ≡ q = cc in ap (λ (z : ℤ). value_of z) k
