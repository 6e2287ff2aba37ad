-- Tests, and what they say.
use mathlib.Core.Path.{◌≡◌, refl, sym}
use mathlib.Core.Bool.{Bool, true, false, ◌&&◌}
use Prim.Native.Nat.{ℕ, ◌≤◌, ◌<◌}
use lib.Dec.{leb, ltb}
use borrow.Author.Tests.{le-leb, lt-leb, leb-true, leb-false, ltb-true, ltb-false}

-- two tests hold together
pub both_true : (u v : Bool) → u ≡ true → v ≡ true → (u && v) ≡ true
both_true u v h k = rw (h, k)

-- the first of two that hold
pub first-true : (u v : Bool) → (u && v) ≡ true → u ≡ true
first-true true v h = refl
first-true false true h = h
first-true false false h = h

-- the second of two that hold
pub second-true : (u v : Bool) → (u && v) ≡ true → v ≡ true
second-true true v h = h
second-true false true h = refl
second-true false false h = h

-- by cases on the test of an order, with the fact that it tells
pub by-ltb : (a b : ℕ) (P : Bool → Type 0) → (a < b → P true) → (b ≤ a → P false) → P (ltb a b)
by-ltb a b P h k = go (ltb a b) refl
  where
    go : (u : Bool) → ltb a b ≡ u → P u
    go true e = h (ltb-true a b e)
    go false e = k (ltb-false a b e)

-- two tests that hold together
pub leb-same : (a b c d : ℕ) → (a ≤ b → c ≤ d) → (b < a → d < c) → leb a b ≡ leb c d
leb-same a b c d f g = go (leb a b) refl
  where
    go : (u : Bool) → leb a b ≡ u → u ≡ leb c d
    go true e = sym (le-leb c d (f (leb-true a b e)))
    go false e = sym (lt-leb c d (g (leb-false a b e)))
