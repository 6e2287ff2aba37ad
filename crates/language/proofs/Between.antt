-- The test of a range, against the order of numbers.
use mathlib.Core.Path.{◌≡◌, refl}
use Prim.Native.Nat.{ℕ, ◌≤◌, ◌<◌}
use mathlib.Core.Bool.{Bool, true, false, ◌&&◌}
use lib.Dec.{leb}
use borrow.Author.Tests.{leb-true, le-leb, lt-leb}
use Rattle.language.specs.Between.{between}
use Rattle.language.proofs.Tests.{first-true, second-true}

-- a number within the range
pub between-true : (a b n : ℕ) → a ≤ n → n ≤ b → between a b n ≡ true
between-true a b n h k = rw (le-leb a n h, le-leb n b k)

-- a number below the range
pub between-low : (a b n : ℕ) → n < a → between a b n ≡ false
between-low a b n h = simp (lt-leb a n h)

-- a number above it
pub between-high : (a b n : ℕ) → b < n → between a b n ≡ false
between-high a b n h = go (leb a n)
  where
    go : (t : Bool) → (t && leb n b) ≡ false
    go true = lt-leb n b h
    go false = refl

-- what passes the test is within the range
pub between-bounds : (a b n : ℕ) → between a b n ≡ true → (a ≤ n) × (n ≤ b)
between-bounds a b n h = (leb-true a n (first-true (leb a n) (leb n b) h), leb-true n b (second-true (leb a n) (leb n b) h))
