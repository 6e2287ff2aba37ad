-- A copy into a list, one element after another: the invariant of its loop, and its turns.
use mathlib.Core.Path.{◌≡◌, refl, ap, ◌∙◌}
use mathlib.Core.List.{List, ◌++◌, append-nil}
use Prim.Native.Nat.{ℕ, ◌+◌, ◌≤◌, ◌<◌}
use native.Mathlib.Numerals.{add-one}
use native.Mathlib.Omega.{arith}
use lib.ListN.{length, get_or, set, take, length-set, drop_of_length-le}
use lib.Seq.{paste, paste-zero, paste-suc, take_all}

-- of the n elements of b that go to place `at` of the list o, the first i are there: the list is `out`
pub record Pasting {A : Type 0} (o : List A) (at : ℕ) (b : List A) (n : ℕ) (out : List A) (i : ℕ) : Type 0 where
  pub room : at + n ≤ length o
  pub source : n ≤ length b
  pub within : i ≤ n
  pub size : length out ≡ length o
  pub elements : out ≡ paste o at b i

module _ {A : Type 0} (o : List A) (at : ℕ) (b : List A) (n : ℕ) where
  -- before the first turn
  pub pasting-none : at + n ≤ length o → n ≤ length b → Pasting o at b n o 0
  pasting-none h k = record { room = h; source = k; within = omega arith; size = refl; elements = paste-zero o at b }

  -- a turn: the next element x, which b has at i, goes to place p
  pub pasting-more : (d : A) (out : List A) (i p : ℕ) (x : A) → Pasting o at b n out i → i < n → p ≡ at + i → get_or b i d ≡ x
      → Pasting o at b n (set out p x) (i + 1)
  pasting-more d out i p x h lt e g =
      record {
        room = h.room;
        source = h.source;
        within = omega arith;
        size = length-set out p x ∙ h.size;
        elements = rw (← g, h.elements, e, add-one i) (paste-suc o at b i d (omega (arith, h.room)) (omega (arith, h.source)));
      }

  -- after the last turn
  pub pasting-done : (out : List A) (i : ℕ) → Pasting o at b n out i → n ≤ i → out ≡ paste o at b n
  pasting-done out i h k = let e : i ≡ n = omega (arith, h.within) in h.elements ∙ ap (paste o at b) e

-- a list that is pasted over whole
pub paste-whole : {A : Type 0} (o b : List A) (n : ℕ) → length o ≡ n → length b ≡ n → paste o 0 b n ≡ b
paste-whole o b n h k =
    ap (λ l. take n b ++ l) (drop_of_length-le o {i = 0 + n} (omega arith)) ∙ append-nil (take n b) ∙ take_all n b (omega arith)
