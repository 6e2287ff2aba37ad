-- The range of the values as the machine tests it: two comparisons of a signed number.
use mathlib.Core.Path.{◌≡◌, sym, subst}
use mathlib.Core.Bool.{true, false}
use Prim.Native.Nat.{suc, ◌-◌, ◌≤◌}
use native.Mathlib.Omega.{arith}
use lib.Dec.{T}
use lib.IntN.{ℤ, pos, negsuc, nat_abs}
use lib.Signed.{lt_z}
use borrow.Author.Tests.{ltb-true, ltb-false, le-leb, lt-leb}
use Rattle.language.specs.Limits.{max_value}
use Rattle.language.specs.Values.{is_value}

-- below it
pub value-below : (z : ℤ) → lt_z z (negsuc (max_value - 1)) ≡ true → is_value z ≡ false
unfolding is_value
value-below (pos n) e = absurd (subst T (sym e) tt)
value-below (negsuc n) e = let h = ltb-true (max_value - 1) n e in lt-leb (suc n) max_value (omega arith)

-- above it
pub value-above : (z : ℤ) → lt_z (pos max_value) z ≡ true → is_value z ≡ false
unfolding is_value
value-above (pos n) e = lt-leb n max_value (ltb-true max_value n e)
value-above (negsuc n) e = absurd (subst T (sym e) tt)

-- inside it
pub inside : (z : ℤ) → lt_z z (negsuc (max_value - 1)) ≡ false → lt_z (pos max_value) z ≡ false → nat_abs z ≤ max_value
inside (pos n) e f = ltb-false max_value n f
inside (negsuc n) e f = let h = ltb-false (max_value - 1) n e in omega arith

-- inside it, as the test
pub value-inside : (z : ℤ) → lt_z z (negsuc (max_value - 1)) ≡ false → lt_z (pos max_value) z ≡ false → is_value z ≡ true
unfolding is_value
value-inside z e f = le-leb (nat_abs z) max_value (inside z e f)
