-- Laws of the rounds, and of the calls of all letters.
use mathlib.Core.Path.{◌≡◌, refl, sym, ap, ◌∙◌, subst}
use mathlib.Core.Bool.{Bool, true, false, beq, ◌&&◌, ◌||◌, false≢true}
use mathlib.Core.List.{List, [], ◌∷◌}
use Prim.Native.Nat.{ℕ, zero, suc, ◌+◌, ◌*◌, ◌≤◌, ◌<◌}
use native.Mathlib.Omega.{arith}
use native.Mathlib.Numerals.{add-one}
use lib.ListN.{get_or}
use lib.Dec.{eqb}
use lib.Pointwise.{pointwise}
use Rattle.std.specs.Cmp.{booleans_Decides}
use Rattle.std.proofs.lemmas.Slice.Eq.{slice_eq-Decides}
use borrow.Author.Tests.{ne_eqb, eqb-true, eqb-false}
use Rattle.language.specs.Limits.{max_letters, max_cells}
use Rattle.language.specs.Tables.{sound_count, sound_used}
use Rattle.language.proofs.Between.{between-bounds}
use Rattle.language.proofs.Tests.{both_true, first-true, second-true}
use Rattle.book.specs.Store.{Store}
use Rattle.marks.specs.Formats.{ticked}
use Rattle.reach.specs.Reach.{called_by, flags_by, is_flagged, any_of, each_of, spread, spread_by, most_calls, readable}
use Rattle.reach.specs.Rounds.{rows, in_array, Flags, ReadsAll, with_row}
use Rattle.reach.proofs.Flags.{flagged-by, flags-same, flags_of}

-- ── counts ──────────────────────────────────────────────────────────────────────────────────────

-- a sound count that is not 0
pub count-bounds : (n : ℕ) → sound_count n ≡ true → (n ≡ 0 → ⊥) → (3 ≤ n) × (n ≤ max_cells)
unfolding sound_count
count-bounds n h z = between-bounds 3 max_cells n (rw (ne_eqb n 0 z) at h)

pub sound-at : (u : List ℕ) (a : ℕ) → sound_used u ≡ true → sound_count (get_or u a 0) ≡ true
unfolding sound_used
sound-at [] a h = refl
sound-at (n ∷ u) zero h = first-true (sound_count n) (sound_used u) h
sound-at (n ∷ u) (suc a) h = sound-at u a (second-true (sound_count n) (sound_used u) h)

-- ── all of the letters ──────────────────────────────────────────────────────────────────────────

-- where one fails, not each passes
pub each-fails : (n a : ℕ) (p : ℕ → Bool) → a < n → p a ≡ false → each_of n p ≡ false
each-fails zero a p h e = absurd (omega arith)
each-fails (suc n) a p h e = go (eqb a n) refl (λ k. each-fails n a p k e)
  where
    go : (u : Bool) → eqb a n ≡ u → (a < n → each_of n p ≡ false) → (each_of n p && p n) ≡ false
    go true q f = second (each_of n p) (sym (ap p (eqb-true a n q)) ∙ e)
      where
        second : (v : Bool) → p n ≡ false → (v && p n) ≡ false
        second true z = z
        second false z = refl
    go false q f = rw (f (let ne = eqb-false a n q in omega (arith, ne)))

-- what each passes, one does
pub each_at : (n a : ℕ) (p : ℕ → Bool) → a < n → each_of n p ≡ true → p a ≡ true
each_at n a p h e = go (p a) refl
  where
    go : (u : Bool) → p a ≡ u → u ≡ true
    go true q = refl
    go false q = absurd (false≢true (sym (each-fails n a p h q) ∙ e))

-- and the other way round
pub each_all : (n : ℕ) (p : ℕ → Bool) → ((a : ℕ) → p a ≡ true) → each_of n p ≡ true
each_all zero p h = refl
each_all (suc n) p h = both_true (each_of n p) (p n) (each_all n p h) (h n)

-- the letters before a are read, and undamaged
pub record Gathering (st : Store) (u c : List ℕ) (a : ℕ) : Type 0 where
  pub counts : sound_used u ≡ true
  pub few : a ≤ max_letters
  pub sound : each_of a (readable st) ≡ true
  pub array : c ≡ rows st a

module _ (st : Store) (u c : List ℕ) (a : ℕ) (g : Gathering st u c a) where
  pub gathering-more : (d : List ℕ) → a < max_letters → readable st a ≡ true → d ≡ ticked c (a * max_letters) (called_by st a) → Gathering st u d (a + 1)
  unfolding rows
  gathering-more d h e k =
      subst (Gathering st u d) (sym (add-one a))
      (record {
        counts = g.counts;
        few = omega arith;
        sound = both_true (each_of a (readable st)) (readable st a) g.sound e;
        array = k ∙ ap (λ x. ticked x (a * max_letters) (called_by st a)) g.array;
      })

  pub gathering-damaged : (d : List ℕ) → a < max_letters → readable st a ≡ false → ReadsAll st false d
  gathering-damaged d h e = record { sound = sym (each-fails max_letters a (readable st) h e); calls = λ z. absurd (false≢true z) }

  pub gathering-done : max_letters ≤ a → ReadsAll st true c
  gathering-done h =
      let e : a ≡ max_letters = let f = g.few in omega arith in
      record { sound = sym (subst (λ n. each_of n (readable st) ≡ true) e g.sound); calls = λ _. subst (λ n. c ≡ rows st n) e g.array }

-- ── a round ─────────────────────────────────────────────────────────────────────────────────────

-- tests joined
or-false : (u : Bool) → u ≡ (u || false)
or-false true = refl
or-false false = refl

pub or-true : (u : Bool) → (u || true) ≡ true
or-true true = refl
or-true false = refl

or_assoc : (u v w : Bool) → ((u || v) || w) ≡ (u || (v || w))
or_assoc true v w = refl
or_assoc false v w = refl

-- where one of them passes, one of them does
pub any-of : (n a : ℕ) (p : ℕ → Bool) → a < n → p a ≡ true → any_of n p ≡ true
any-of zero a p h e = absurd (omega arith)
any-of (suc n) a p h e = go (eqb a n) refl (λ k. any-of n a p k e)
  where
    go : (u : Bool) → eqb a n ≡ u → (a < n → any_of n p ≡ true) → (any_of n p || p n) ≡ true
    go true q f = ap (λ x. any_of n p || x) (sym (ap p (eqb-true a n q)) ∙ e) ∙ or-true (any_of n p)
    go false q f = rw (f (let ne = eqb-false a n q in omega (arith, ne)))

-- what is marked, and what the first n letters that are marked call
abbrev pub spread_to : ℕ → (ℕ → ℕ → Bool) → List ℕ → List ℕ
spread_to n f m = flags_by max_letters (λ b. is_flagged m b || any_of n (λ a. is_flagged m a && f a b))

-- the letters before a have been gone through
pub record Spreading (c m x : List ℕ) (a : ℕ) : Type 0 where
  pub few : a ≤ max_letters
  pub next : x ≡ spread_to a (in_array c) m

pub spreading-none : (c m : List ℕ) → Flags m → Spreading c m m 0
spreading-none c m h = record { few = omega arith; next = h ∙ flags-same max_letters (is_flagged m) _ (λ b _. or-false (is_flagged m b)) }

module _ (c m x : List ℕ) (a : ℕ) (s : Spreading c m x a) where
  -- a letter that is marked: its row
  pub spreading-row : (y : List ℕ) → a < max_letters → is_flagged m a ≡ true → y ≡ with_row c (a * max_letters) x → Spreading c m y (a + 1)
  unfolding with_row
  spreading-row y h q e =
      subst (Spreading c m y) (sym (add-one a))
      (record {
        few = omega arith;
        next = e ∙ ap (λ z. with_row c (a * max_letters) z) s.next
            ∙ flags-same max_letters _ _ (λ b h.
            ap (λ z. z || in_array c a b) (flagged-by (λ b. is_flagged m b || any_of a (λ k. is_flagged m k && in_array c k b)) b h)
            ∙ or_assoc (is_flagged m b) (any_of a (λ k. is_flagged m k && in_array c k b)) (in_array c a b)
            ∙ ap (λ z. is_flagged m b || (any_of a (λ k. is_flagged m k && in_array c k b) || (z && in_array c a b))) (sym q));
      })

  -- one that is not
  pub spreading-past : a < max_letters → is_flagged m a ≡ false → Spreading c m x (a + 1)
  spreading-past h q =
      subst (Spreading c m x) (sym (add-one a))
      (record {
        few = omega arith;
        next = s.next ∙ flags-same max_letters _ _ (λ b h.
            ap (λ z. is_flagged m b || z) (or-false (any_of a (λ k. is_flagged m k && in_array c k b)))
            ∙ ap (λ z. is_flagged m b || (any_of a (λ k. is_flagged m k && in_array c k b) || (z && in_array c a b))) (sym q));
      })

  pub spreading-done : max_letters ≤ a → x ≡ spread (in_array c) m
  unfolding spread
  spreading-done h = let e : a ≡ max_letters = let f = s.few in omega arith in s.next ∙ ap (λ n. spread_to n (in_array c) m) e

-- ── round after round ───────────────────────────────────────────────────────────────────────────

pub spread-flags : (f : ℕ → ℕ → Bool) (m : List ℕ) → Flags (spread f m)
unfolding spread
spread-flags f m = flags_of (λ b. is_flagged m b || any_of max_letters (λ a. is_flagged m a && f a b))

pub rounds-flags : (f : ℕ → ℕ → Bool) (n : ℕ) (m : List ℕ) → Flags m → Flags (spread_by f n m)
unfolding spread_by
rounds-flags f zero m h = h
rounds-flags f (suc n) m h = spread-flags f (spread_by f n m)

-- from marks that a round leaves as they are
pub rounds-still : (f : ℕ → ℕ → Bool) (n k : ℕ) (m : List ℕ) → spread f (spread_by f n m) ≡ spread_by f n m → n ≤ k → spread_by f k m ≡ spread_by f n m
unfolding spread_by
rounds-still f n zero m e h = ap (λ x. spread_by f x m) (let z : 0 ≡ n = omega arith in z)
rounds-still f n (suc k) m e h = go (eqb (suc k) n) refl (λ j. rounds-still f n k m e j)
  where
    go : (u : Bool) → eqb (suc k) n ≡ u → (n ≤ k → spread_by f k m ≡ spread_by f n m) → spread_by f (suc k) m ≡ spread_by f n m
    go true q g = ap (λ x. spread_by f x m) (eqb-true (suc k) n q)
    go false q g = ap (spread f) (g (let ne = eqb-false (suc k) n q in omega (arith, ne))) ∙ e

-- two lists of letters that `==` finds equal
pub equal : (l m : List Bool) → pointwise beq l m ≡ true → l ≡ m
equal l m e = (slice_eq-Decides booleans_Decides l m (pointwise beq l m) refl).0 e

-- n rounds are done
pub record Following (f : ℕ → ℕ → Bool) (start m : List ℕ) (n : ℕ) : Type 0 where
  pub few : n ≤ most_calls
  pub reached : m ≡ spread_by f n start

module _ (f : ℕ → ℕ → Bool) (start m : List ℕ) (n : ℕ) (g : Following f start m n) where
  pub following-more : (next : List ℕ) → n < most_calls → next ≡ spread f m → Following f start next (n + 1)
  unfolding spread_by
  following-more next h e = subst (Following f start next) (sym (add-one n)) (record { few = omega arith; reached = e ∙ ap (spread f) g.reached })

  pub following-still : (next : List ℕ) → next ≡ spread f m → next ≡ m → m ≡ spread_by f (most_calls) start
  following-still next e s =
      g.reached
      ∙ sym (rounds-still f n (most_calls) start (ap (spread f) (sym g.reached) ∙ sym e ∙ s ∙ g.reached) g.few)

  pub following-done : most_calls ≤ n → m ≡ spread_by f (most_calls) start
  following-done h = g.reached ∙ ap (λ k. spread_by f k start) (let k = g.few in let z : n ≡ most_calls = omega arith in z)
