-- Signed machine numbers: a bound on `nat_abs` says that a number fits, and what it is in 32 bits and in 64.
use mathlib.Core.Path.{◌≡◌, refl, sym, ap, ◌∙◌}
use mathlib.Core.Bool.{Bool, true, false, cond}
use Prim.Native.Nat.{ℕ, zero, suc, ◌+◌, ◌*◌, ◌-◌, ◌≤◌}
use native.Mathlib.Nat.{le_refl, div-le_self, mul-le-mul}
use native.Mathlib.Omega.{arith}
use lib.Dec.{ltb, eqb}
use lib.IntN.{ℤ, pos, negsuc, neg_ℤ, nat_abs, ◌+ℤ◌, ◌-ℤ◌, ◌*ℤ◌, +ℤ_idl, +ℤ_invr, -ℤ-+ℤ_cancel}
use lib.Signed.{quot_z}
use mir.Syntax.{w32, w64}
use mir.Val.{SFits, to_z, of_z}
use mir.Facts.{to_z-of_z}
use borrow.Author.Tests.{ltb-true, eq-eqb, ne_eqb, eqb-true, eqb-false}
use Rattle.language.proofs.Ints.{fits32, fits64, bound32, widened, widened_is, abs-opposite, abs-zero}

-- what a local holds of a value is the value
pub back32 : (z : ℤ) → nat_abs z ≤ 2147483647 → to_z w32 (of_z w32 z) ≡ z
back32 z h = to_z-of_z (fits32 z h)

-- the same in 64 bits
pub back64 : (z : ℤ) → nat_abs z ≤ 9223372036854775807 → to_z w64 (of_z w64 z) ≡ z
back64 z h = to_z-of_z (fits64 z h)

-- how far results are from 0
pub abs_neg : (n : ℕ) → nat_abs (neg_ℤ (pos n)) ≡ n
abs_neg zero = refl
abs_neg (suc n) = refl

abs-sub : (a b : ℕ) (t : Bool) → ltb a b ≡ t → nat_abs (cond t (negsuc (b - suc a)) (pos (a - b))) ≤ a + b
abs-sub a b true e = omega (arith, ltb-true a b e)
abs-sub a b false e = omega arith

-- a sum
pub abs-add : (x y : ℤ) → nat_abs (x +ℤ y) ≤ nat_abs x + nat_abs y
abs-add (pos a) (pos b) = le_refl (a + b)
abs-add (pos a) (negsuc b) = abs-sub a (suc b) (ltb a (suc b)) refl
abs-add (negsuc a) (pos b) = let h = abs-sub b (suc a) (ltb b (suc a)) refl in omega arith
abs-add (negsuc a) (negsuc b) = omega arith

-- a product
pub abs-mul : (x y : ℤ) → nat_abs (x *ℤ y) ≡ nat_abs x * nat_abs y
abs-mul (pos a) (pos b) = refl
abs-mul (pos a) (negsuc b) = abs_neg (a * suc b)
abs-mul (negsuc a) (pos b) = abs_neg (suc a * b)
abs-mul (negsuc a) (negsuc b) = refl

-- a quotient
pub abs-quot : (x y : ℤ) → nat_abs (quot_z x y) ≤ nat_abs x
abs-quot (pos a) (pos b) = div-le_self a b
abs-quot (pos a) (negsuc b) = rw abs_neg (div-le_self a (suc b))
abs-quot (negsuc a) (pos b) = rw abs_neg (div-le_self (suc a) b)
abs-quot (negsuc a) (negsuc b) = div-le_self (suc a) (suc b)

-- ── through 64 bits ─────────────────────────────────────────────────────────────────────────────

-- an operation on two widened values, whose result fits 64 bits
module _ (op : ℤ → ℤ → ℤ) (x y : ℤ) (fx : SFits w32 x) (fy : SFits w32 y) (fit : SFits w64 (op x y)) where
  -- it fits
  pub wide_fits : SFits w64 (op (widened x) (widened y))
  wide_fits = rw (widened_is x fx, widened_is y fy) fit

  -- and its local holds it
  pub wide_back : to_z w64 (of_z w64 (op (widened x) (widened y))) ≡ op x y
  wide_back = rw (widened_is x fx, widened_is y fy) (to_z-of_z fit)

-- a sum
pub sum_fits : (x y : ℤ) → SFits w32 x → SFits w32 y → SFits w64 (x +ℤ y)
sum_fits x y fx fy = fits64 (x +ℤ y) (omega (arith, bound32 x fx, bound32 y fy, abs-add x y))

-- a difference
pub difference-fits : (x y : ℤ) → SFits w32 x → SFits w32 y → SFits w64 (x -ℤ y)
difference-fits x y fx fy = fits64 (x -ℤ y) (omega (arith, bound32 x fx, bound32 y fy, abs-add x (neg_ℤ y), abs-opposite y))

-- a product
pub product-fits : (x y : ℤ) → SFits w32 x → SFits w32 y → SFits w64 (x *ℤ y)
product-fits x y fx fy =
    let h : nat_abs x * nat_abs y ≤ 2147483648 * 2147483648 = mul-le-mul (bound32 x fx) (bound32 y fy) in
    fits64 (x *ℤ y) (omega (arith, h, abs-mul x y))

-- a quotient
pub quotient_fits : (x y : ℤ) → SFits w32 x → SFits w64 (quot_z x y)
quotient_fits x y fx = fits64 (quot_z x y) (omega (arith, bound32 x fx, abs-quot x y))

-- ── equality ───────────────────────────────────────────────────────────────────────────────────────

-- equal values have the difference 0
pub same-difference : (x y : ℤ) → x ≡ y → nat_abs (x -ℤ y) ≡ 0
same-difference x y e = rw e (ap nat_abs (+ℤ_invr y))

-- and only they
pub zero-difference : (x y : ℤ) → nat_abs (x -ℤ y) ≡ 0 → x ≡ y
zero-difference x y e = sym (-ℤ-+ℤ_cancel x y) ∙ ap (λ (z : ℤ). z +ℤ y) (abs-zero (x -ℤ y) e) ∙ +ℤ_idl y

-- a divisor that is not 0 is none in 64 bits
pub wide-nonzero : (y : ℤ) → SFits w32 y → (y ≡ pos 0 → ⊥) → of_z w64 (to_z w32 (of_z w32 y)) ≡ 0 → ⊥
wide-nonzero y f n e = n (sym (widened_is y f) ∙ ap (to_z w64) e)

-- the machine's test of equality with 0, and of two values, which their locals hold
pub zero_test : (x : ℤ) → to_z w32 (of_z w32 x) ≡ x → eqb (of_z w32 x) 0 ≡ eqb (nat_abs x) 0
zero_test x f = go (eqb (of_z w32 x) 0) refl
  where
    go : (u : Bool) → eqb (of_z w32 x) 0 ≡ u → u ≡ eqb (nat_abs x) 0
    go true e = sym (eq-eqb (nat_abs x) 0 (ap nat_abs (sym f ∙ ap (to_z w32) (eqb-true (of_z w32 x) 0 e))))
    go false e = sym (ne_eqb (nat_abs x) 0 (λ z. eqb-false (of_z w32 x) 0 e (ap (of_z w32) (abs-zero x z))))

-- the test of two values
pub same_test : (x y : ℤ) → to_z w32 (of_z w32 x) ≡ x → to_z w32 (of_z w32 y) ≡ y → eqb (of_z w32 x) (of_z w32 y) ≡ eqb (nat_abs (x -ℤ y)) 0
same_test x y fx fy = go (eqb (of_z w32 x) (of_z w32 y)) refl
  where
    go : (u : Bool) → eqb (of_z w32 x) (of_z w32 y) ≡ u → u ≡ eqb (nat_abs (x -ℤ y)) 0
    go true e = sym (eq-eqb (nat_abs (x -ℤ y)) 0 (same-difference x y (sym fx ∙ ap (to_z w32) (eqb-true (of_z w32 x) (of_z w32 y) e) ∙ fy)))
    go false e = sym (ne_eqb (nat_abs (x -ℤ y)) 0 (λ z. eqb-false (of_z w32 x) (of_z w32 y) e (ap (of_z w32) (zero-difference x y z))))
