-- The array of calls says what the tables call.
use mathlib.Core.Path.{◌≡◌, refl, sym, ap, ◌∙◌, subst}
use mathlib.Core.Bool.{Bool, true, false, cond, not, ◌&&◌, ◌||◌}
use mathlib.Core.List.{List, [], ◌∷◌}
use Prim.Native.Nat.{ℕ, zero, suc, ◌+◌, ◌*◌, ◌≤◌, ◌<◌}
use native.Mathlib.Omega.{arith}
use lib.ListN.{length, get_or, set, replicate, length-set, length-replicate}
use lib.Seq.{ext_get_or, get_or-set_same, get_or-set_other}
use lib.Dec.{eqb, ltb}
use borrow.Author.Tests.{eq-eqb, eqb-true, eqb-false, lt-ltb, le-ltb, ltb-true, ltb-false}
use Rattle.language.proofs.Tests.{by-ltb}
use Rattle.language.specs.Limits.{max_letters, max_cells}
use Rattle.language.specs.Tables.{sound_used}
use Rattle.language.proofs.EffectsLent.{replicate-at}
use Rattle.book.specs.Store.{Store, entry_at}
use Rattle.marks.specs.Marks.{marks, calls_in}
use Rattle.marks.specs.Formats.{call_places, ticked}
use Rattle.marks.proofs.Marks.{Letters, marks-letters}
use Rattle.reach.specs.Reach.{called_by, member, calls, flags_by, is_flagged, any_of, spread, spread_by}
use Rattle.std.proofs.lemmas.List.{map-set}
use Rattle.reach.specs.Rounds.{rows, in_array, marks_of}
use Rattle.reach.proofs.Flags.{flag, flag-back, length-flags, get_or-flags, flags-same}
use Rattle.reach.proofs.Rounds.{count-bounds, sound-at}

-- ── ticks ───────────────────────────────────────────────────────────────────────────────────────

length-ticked : (l m : List ℕ) (from : ℕ) → length (ticked m from l) ≡ length m
length-ticked [] m from = refl
length-ticked (a ∷ l) m from = length-ticked l (set m (from + a) 1) from ∙ length-set m (from + a) 1

-- within the row
ticked-at : (l m : List ℕ) (from b : ℕ) → Letters l → from + max_letters ≤ length m → b < max_letters
    → get_or (ticked m from l) (from + b) 0 ≡ cond (member b l) 1 (get_or m (from + b) 0)
ticked-at [] m from b h k j = refl
ticked-at (a ∷ l) m from b h k j =
    ticked-at l (set m (from + a) 1) from b h.1 (omega (arith, length-set m (from + a) 1)) j ∙ go (eqb a b) refl
  where
    same : (u : Bool) → ◌≡◌ {A = ℕ} (cond u 1 1) 1
    same true = refl
    same false = refl

    go : (u : Bool) → eqb a b ≡ u → cond (member b l) 1 (get_or (set m (from + a) 1) (from + b) 0) ≡ cond (u || member b l) 1 (get_or m (from + b) 0)
    go true q =
        let e : from + b ≡ from + a = ap (λ x. from + x) (sym (eqb-true a b q)) in
        ap (λ x. cond (member b l) 1 (get_or (set m (from + a) 1) x 0)) e
        ∙ ap (λ x. cond (member b l) 1 x) (get_or-set_same m (from + a) 1 0 (let n = h.0 in omega (arith, n)))
        ∙ same (member b l)
    go false q =
        let ne = eqb-false a b q in
        ap (λ x. cond (member b l) 1 x) (get_or-set_other m (from + a) (from + b) 1 0 (λ e. ne (omega arith)))

-- outside the row
ticked-other : (l m : List ℕ) (from j : ℕ) → Letters l → (b : Bool) → ltb j from ≡ b → (b ≡ false → from + max_letters ≤ j)
    → get_or (ticked m from l) j 0 ≡ get_or m j 0
ticked-other [] m from j h b e k = refl
ticked-other (a ∷ l) m from j h b e k =
    ticked-other l (set m (from + a) 1) from j h.1 b e k ∙ get_or-set_other m (from + a) j 1 0 (apart b e k)
  where
    apart : (b : Bool) → ltb j from ≡ b → (b ≡ false → from + max_letters ≤ j) → j ≡ from + a → ⊥
    apart true e k z = let w = ltb-true j from e in omega arith
    apart false e k z = let w = k refl in let n = h.0 in omega (arith, n)

-- ── rows ────────────────────────────────────────────────────────────────────────────────────────

-- the letters that a sound store's table calls
pub called-letters : (st : Store) (a : ℕ) → sound_used st.used ≡ true → Letters (called_by st a)
unfolding called_by
called-letters st a h = go (eqb (get_or st.used a 0) 0) refl
  where
    go : (u : Bool) → eqb (get_or st.used a 0) 0 ≡ u → Letters (cond (not u) (calls_in (marks (entry_at st a).table)) [])
    go true e = tt
    go false e = marks-letters st.cells (a * max_cells) (get_or st.used a 0) (count-bounds (get_or st.used a 0) (sound-at st.used a h) (eqb-false (get_or st.used a 0) 0 e)).1

module _ (st : Store) (sound : sound_used st.used ≡ true) where
  length-rows : (n : ℕ) → length (rows st n) ≡ call_places
  unfolding rows
  length-rows zero = length-replicate {A = ℕ} call_places 0
  length-rows (suc n) = length-ticked (called_by st n) (rows st n) (n * max_letters) ∙ length-rows n

  rows_at : (n a b : ℕ) → n ≤ max_letters → a < max_letters → b < max_letters
      → get_or (rows st n) (a * max_letters + b) 0 ≡ cond (ltb a n) (flag (calls st a b)) 0
  unfolding rows
  rows_at zero a b h i j = replicate-at {A = ℕ} 0 call_places (a * max_letters + b) ∙ (rw (le-ltb a 0 (omega arith)))
  rows_at (suc n) a b h i j = go (eqb a n) refl (rows_at n a b (omega arith) i j)
    where
      row : Letters (called_by st n)
      row = called-letters st n sound

      go : (u : Bool) → eqb a n ≡ u → get_or (rows st n) (a * max_letters + b) 0 ≡ cond (ltb a n) (flag (calls st a b)) 0
          → get_or (ticked (rows st n) (n * max_letters) (called_by st n)) (a * max_letters + b) 0 ≡ cond (ltb a (suc n)) (flag (calls st a b)) 0
      go true q ih =
          let e : a ≡ n = eqb-true a n q in
          let clear : get_or (rows st n) (n * max_letters + b) 0 ≡ 0 =
          subst (λ x. get_or (rows st n) (x * max_letters + b) 0 ≡ cond (ltb x n) (flag (calls st x b)) 0) e ih
          ∙ ap (λ u. cond u (flag (calls st n b)) 0) (le-ltb n n (omega arith)) in
          subst (λ x. get_or (ticked (rows st n) (n * max_letters) (called_by st n)) (x * max_letters + b) 0 ≡ cond (ltb x (suc n)) (flag (calls st x b)) 0) (sym e)
          (ticked-at (called_by st n) (rows st n) (n * max_letters) b row (omega (arith, length-rows n)) j
          ∙ ap (λ x. cond (calls st n b) 1 x) clear
          ∙ ap (λ u. cond u (flag (calls st n b)) 0) (sym (lt-ltb n (suc n) (omega arith))))
      go false q ih =
          let ne = eqb-false a n q in
          ticked-other (called_by st n) (rows st n) (n * max_letters) (a * max_letters + b) row (ltb (a * max_letters + b) (n * max_letters)) refl
          (λ e. let w = ltb-false (a * max_letters + b) (n * max_letters) e in omega (arith, ne))
          ∙ ih ∙ ap (λ u. cond u (flag (calls st a b)) 0) (by-ltb a n (λ u. u ≡ ltb a (suc n)) (λ k. sym (lt-ltb a (suc n) (omega arith))) (λ k. sym (le-ltb a (suc n) (omega (arith, ne)))))

  -- the whole array
  pub array-calls : (a b : ℕ) → a < max_letters → b < max_letters → in_array (rows st max_letters) a b ≡ calls st a b
  array-calls a b i j =
      ap (λ x. eqb x 1) (rows_at max_letters a b (omega arith) i j ∙ ap (λ u. cond u (flag (calls st a b)) 0) (lt-ltb a max_letters i)) ∙ flag-back (calls st a b)

-- ── the same calls ──────────────────────────────────────────────────────────────────────────────

-- two accounts of which letter calls which, the same for all letters
abbrev Alike : (ℕ → ℕ → Bool) → (ℕ → ℕ → Bool) → Type 0
Alike f g = (a b : ℕ) → a < max_letters → b < max_letters → f a b ≡ g a b

any_same : (n : ℕ) (p q : ℕ → Bool) → ((a : ℕ) → a < n → p a ≡ q a) → any_of n p ≡ any_of n q
any_same zero p q h = refl
any_same (suc n) p q h = λ i. any_same n p q (λ a l. h a (omega arith)) i || h n (omega arith) i

spread_same : (f g : ℕ → ℕ → Bool) (m : List ℕ) → Alike f g → spread f m ≡ spread g m
unfolding spread
spread_same f g m h =
    flags-same max_letters _ _ (λ b j. ap (λ u. is_flagged m b || u) (any_same max_letters _ _ (λ a i. ap (λ u. is_flagged m a && u) (h a b i j))))

pub rounds-same : (f g : ℕ → ℕ → Bool) (n : ℕ) (m : List ℕ) → Alike f g → spread_by f n m ≡ spread_by g n m
unfolding spread_by
rounds-same f g zero m h = refl
rounds-same f g (suc n) m h = spread_same f g (spread_by f n m) h ∙ ap (spread g) (rounds-same f g n m h)

-- one letter's mark alone
pub start-flags : (a : ℕ) → a < max_letters → set (replicate {A = ℕ} max_letters 0) a 1 ≡ flags_by max_letters (λ b. eqb a b)
start-flags a h =
    ext_get_or 0 _ _ (length-set (replicate {A = ℕ} max_letters 0) a 1 ∙ length-replicate {A = ℕ} max_letters 0 ∙ sym (length-flags max_letters (λ b. eqb a b)))
    (λ b k. let j : b < max_letters = subst (λ n. b < n) (length-set (replicate {A = ℕ} max_letters 0) a 1 ∙ length-replicate {A = ℕ} max_letters 0) k in
    go b (eqb a b) refl ∙ sym (get_or-flags max_letters (λ b. eqb a b) b j))
  where
    go : (b : ℕ) (u : Bool) → eqb a b ≡ u → get_or (set (replicate {A = ℕ} max_letters 0) a 1) b 0 ≡ flag (eqb a b)
    go b true q =
        let e : a ≡ b = eqb-true a b q in
        subst (λ x. get_or (set (replicate {A = ℕ} max_letters 0) a 1) x 0 ≡ flag (eqb a x)) e (get_or-set_same (replicate {A = ℕ} max_letters 0) a 1 0 h ∙ (rw (eq-eqb a a refl)))
    go b false q =
        get_or-set_other (replicate {A = ℕ} max_letters 0) a b 1 0 (λ e. eqb-false a b q (sym e)) ∙ replicate-at {A = ℕ} 0 max_letters b ∙ (rw q)

-- of a letter alone in a list
pub start-marks : (a : ℕ) → a < max_letters → marks_of (set (replicate max_letters false) a true) ≡ flags_by max_letters (λ b. eqb a b)
start-marks a h = map-set flag (replicate max_letters false) a true ∙ start-flags a h
