-- Signed machine numbers: a bound on their distance from 0 says that they fit, and 32 bits fit in 64.
use mathlib.Core.Path.{◌≡◌, refl, ap, subst}
use mathlib.Core.Bool.{true, false}
use Prim.Native.Nat.{zero, suc, ◌≤◌}
use native.Mathlib.Nat.{le_refl}
use native.Mathlib.Omega.{arith}
use lib.Dec.{T}
use lib.IntN.{ℤ, pos, negsuc, neg_ℤ, nat_abs, ◌-ℤ◌, +ℤ_idl}
use lib.Signed.{mag, lt_z, nat_abs-le}
use mir.Syntax.{w32, w64}
use mir.Val.{SFits, to_z, of_z}
use mir.Facts.{to_z-of_z}
use borrow.Author.Tests.{ltb-true}

-- a signed number's size is at most its distance from 0
pub mag-le : (z : ℤ) → mag z ≤ nat_abs z
mag-le (pos n) = le_refl n
mag-le (negsuc n) = omega arith

-- a small number fits
pub fits32 : (z : ℤ) → nat_abs z ≤ 2147483647 → SFits w32 z
fits32 z h = let m = mag-le z in record { sfits = omega arith }

-- the same in 64 bits
pub fits64 : (z : ℤ) → nat_abs z ≤ 9223372036854775807 → SFits w64 z
fits64 z h = let m = mag-le z in record { sfits = omega arith }

-- ── through 64 bits ─────────────────────────────────────────────────────────────────────────────

-- how far 32 bits reach
pub bound32 : (x : ℤ) → SFits w32 x → nat_abs x ≤ 2147483648
bound32 x f = nat_abs-le x f.sfits

-- 32 bits fit in 64
pub wide : (x : ℤ) → SFits w32 x → SFits w64 x
wide x f = fits64 x (omega (arith, bound32 x f))

-- a value as it was widened
abbrev pub widened : ℤ → ℤ
widened x = to_z w64 (of_z w64 (to_z w32 (of_z w32 x)))

-- which is the value itself
pub widened_is : (x : ℤ) → SFits w32 x → widened x ≡ x
widened_is x f = rw (to_z-of_z f) (to_z-of_z (wide x f))

-- ── signs ───────────────────────────────────────────────────────────────────────────────────────

-- a number and its opposite are as far from 0
pub abs-opposite : (x : ℤ) → nat_abs (neg_ℤ x) ≡ nat_abs x
abs-opposite (pos zero) = refl
abs-opposite (pos (suc n)) = refl
abs-opposite (negsuc n) = refl

-- what is at no distance from 0 is 0
pub abs-zero : (x : ℤ) → nat_abs x ≡ 0 → x ≡ pos 0
abs-zero (pos n) e = ap pos e
abs-zero (negsuc n) e = absurd (omega arith)

-- 0 less a number is the number negated
pub less : (x : ℤ) → pos 0 -ℤ x ≡ neg_ℤ x
less x = +ℤ_idl (neg_ℤ x)

-- the opposite of 32 bits fits in 64
pub opposite-fits : (x : ℤ) → SFits w32 x → SFits w64 (pos 0 -ℤ x)
opposite-fits x f = rw less (fits64 (neg_ℤ x) (omega (arith, bound32 x f, abs-opposite x)))

-- a negative number is minus its distance
pub below-zero : (x : ℤ) → lt_z x (pos 0) ≡ true → pos 0 -ℤ x ≡ pos (nat_abs x)
below-zero (pos n) e = let h = ltb-true n 0 e in absurd (omega arith)
below-zero (negsuc n) e = less (negsuc n)

-- any other is its distance
pub not-below : (x : ℤ) → lt_z x (pos 0) ≡ false → x ≡ pos (nat_abs x)
not-below (pos n) e = refl
not-below (negsuc n) e = absurd (subst T e tt)
