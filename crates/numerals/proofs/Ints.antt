-- Signed numbers of 32 bits: a value by its sign and its digits' number.
use mathlib.Core.Path.{◌≡◌, sym, ap, ◌∙◌}
use mathlib.Core.Bool.{Bool, true, false}
use Prim.Native.Nat.{ℕ, zero, suc, ◌≤◌}
use native.Mathlib.Omega.{arith}
use lib.IntN.{pos, neg_ℤ, ◌-ℤ◌}
use mir.Syntax.{w32}
use mir.Val.{SFits, to_z, of_z}
use mir.Facts.{to_z-of_z, to_z_pos}
use borrow.Author.Tests.{le-leb}
use Rattle.language.specs.Limits.{max_value}
use Rattle.language.specs.Tokens.{signed}
use Rattle.numerals.specs.Numerals.{value_of}
use Rattle.language.proofs.Ints.{less}

-- a number within the values, as a signed number
pub small : (n : ℕ) → n ≤ max_value → to_z w32 n ≡ pos n
small n h = to_z_pos w32 (omega arith)

negative_fits : (n : ℕ) → n ≤ max_value → SFits w32 (neg_ℤ (pos n))
negative_fits zero h = record { sfits = omega arith }
negative_fits (suc n) h = record { sfits = omega arith }

-- A number within the values has its value.
pub value-near : (m : Bool) (n : ℕ) → n ≤ max_value → value_of m n ≡ signed m n
value-near m n h = rw (le-leb n max_value h)

-- its negative fits in 32 bits
pub minus-fits : (n : ℕ) → n ≤ max_value → SFits w32 (pos 0 -ℤ to_z w32 n)
minus-fits n h = rw (small n h, less (pos n)) (negative_fits n h)

-- and is its value after a `-`
pub minus_is : (n : ℕ) → n ≤ max_value → to_z w32 (of_z w32 (pos 0 -ℤ to_z w32 n)) ≡ value_of true n
minus_is n h = to_z-of_z (minus-fits n h) ∙ ap (λ z. pos 0 -ℤ z) (small n h) ∙ less (pos n) ∙ sym (value-near true n h)

-- itself is its value without
pub plain-is : (n : ℕ) → n ≤ max_value → to_z w32 n ≡ value_of false n
plain-is n h = small n h ∙ sym (value-near false n h)
