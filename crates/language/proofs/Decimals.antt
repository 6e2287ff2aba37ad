-- Decimal digits of a number: one by one from the right, and how many.
use mathlib.Core.Path.{◌≡◌}
use mathlib.Core.Bool.{Bool, true, false, cond}
use mathlib.Core.List.{List, [], ◌∷◌, ◌++◌}
use Prim.Native.Nat.{ℕ, zero, suc, ◌/◌, ◌%◌, ◌^◌, ◌≤◌, ◌<◌}
use native.Mathlib.Omega.{arith}
use lib.Dec.{ltb}
use lib.ListN.{length, length-append, length-replicate}
use borrow.Author.Tests.{lt-ltb, le-ltb}
use Rattle.language.specs.Bytes.{digit_byte}
use Rattle.language.specs.Decimals.{digits, decimals, max_decimals, justified}

-- ── one by one ──────────────────────────────────────────────────────────────────────────────────

-- with 10 or more there are two digits at least
pub room_for : (n f : ℕ) → 9 < n → n < 10 ^ suc f → 1 ≤ f
room_for n zero h s = absurd (omega arith)
room_for n (suc f) h s = omega arith

pub many : (f n : ℕ) → 9 < n → digits (suc f) n ≡ digits f (n / 10) ++ (digit_byte (n % 10) ∷ [])
unfolding digits
many f n h = rw (le-ltb n 10 h)

pub few : (f n : ℕ) → n < 10 → digits (suc f) n ≡ digit_byte n ∷ []
unfolding digits
few f n h = rw (lt-ltb n 10 h)

-- ── how many ────────────────────────────────────────────────────────────────────────────────────

length_digits : (f n : ℕ) → length (digits f n) ≤ f
unfolding digits
length_digits zero n = omega arith
length_digits (suc f) n = go (ltb n 10) (length_digits f (n / 10))
  where
    go : (u : Bool) → length (digits f (n / 10)) ≤ f → length (cond u (digit_byte n ∷ []) (digits f (n / 10) ++ (digit_byte (n % 10) ∷ []))) ≤ suc f
    go true h = omega arith
    go false h = omega (arith, length-append (digits f (n / 10)) (digit_byte (n % 10) ∷ []))

pub length-decimals : (m : Bool) (n : ℕ) → length (decimals m n) ≤ max_decimals
length-decimals true n = omega (arith, length_digits 10 n)
length-decimals false n = omega (arith, length_digits 10 n)

-- Bytes that are no more than a width take that width.
pub length-justified : (w : ℕ) (d : List ℕ) → length d ≤ w → length (justified w d) ≡ w
unfolding justified
length-justified w d h = simp (length-append, length-replicate) (omega arith)
