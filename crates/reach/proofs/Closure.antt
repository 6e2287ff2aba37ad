-- What 25 rounds mark is what chains of calls lead to.
use mathlib.Core.Path.{◌≡◌, refl, sym, ap, ◌∙◌, subst}
use mathlib.Core.Bool.{Bool, true, false, cond, ◌&&◌, ◌||◌, false≢true}
use mathlib.Core.Logic.{◌⊎◌, inl, inr}
use mathlib.Core.List.{List, [], ◌∷◌, ◌++◌}
use Prim.Native.Nat.{ℕ, zero, suc, ◌+◌, ◌-◌, ◌≤◌, ◌<◌}
use native.Mathlib.Omega.{arith}
use lib.Dec.{eqb}
use borrow.Author.Tests.{eq-eqb, eqb-true}
use Rattle.language.specs.Limits.{max_letters}
use Rattle.language.specs.Tables.{sound_used}
use Rattle.language.proofs.Tests.{both_true, first-true, second-true}
use Rattle.book.specs.Store.{Store}
use Rattle.marks.proofs.Marks.{Letters}
use Rattle.reach.specs.Reach.{called_by, member, calls, Chain, Reaches, flags_by, is_flagged, any_of, spread, spread_by, most_calls, reached_by}
use Rattle.reach.specs.Rounds.{Flags}
use Rattle.reach.proofs.Flags.{flagged-by, flagged-letter, flags_of}
use Rattle.reach.proofs.Rounds.{or-true, any-of, rounds-flags}
use Rattle.reach.proofs.Calls.{called-letters}

-- ── chains ──────────────────────────────────────────────────────────────────────────────────────

-- a call more
chain-call : (st : Store) (a : ℕ) (l : List ℕ) (k b : ℕ) → Chain st a l k → calls st k b ≡ true → Chain st a (l ++ b ∷ []) b
chain-call st a [] k b h e = (subst (λ x. calls st x b ≡ true) (sym h) e, refl)
chain-call st a (x ∷ l) k b h e = (h.0, chain-call st x l k b h.1 e)

pub reaches-call : (st : Store) (a k b : ℕ) → Reaches st a k → calls st k b ≡ true → Reaches st a b
reaches-call st a k b r e = record { via = r.via ++ b ∷ []; chain = chain-call st a r.via k b r.chain e }

pub reaches-itself : (st : Store) (a : ℕ) → Reaches st a a
reaches-itself st a = record { via = []; chain = refl }

-- ── one of the letters ──────────────────────────────────────────────────────────────────────────

either_true : (u v : Bool) (X : Type 0) → (u || v) ≡ true → (u ≡ true → X) → (v ≡ true → X) → X
either_true true v X e f g = f refl
either_true false v X e f g = g e

-- where one of them passes, there is one
any_some : (n : ℕ) (p : ℕ → Bool) (X : Type 0) → any_of n p ≡ true → ((a : ℕ) → p a ≡ true → X) → X
any_some zero p X e f = absurd (false≢true e)
any_some (suc n) p X e f = either_true (any_of n p) (p n) X e (λ k. any_some n p X k f) (λ k. f n k)

member-letter : (l : List ℕ) (b : ℕ) → Letters l → member b l ≡ true → b < max_letters
member-letter [] b h e = absurd (false≢true e)
member-letter (x ∷ l) b h e =
    either_true (eqb x b) (member b l) (b < max_letters) e (λ k. subst (λ z. z < max_letters) (eqb-true x b k) h.0) (λ k. member-letter l b h.1 k)

-- ── what is marked is reached ───────────────────────────────────────────────────────────────────

module _ (st : Store) where
  -- the marks after n rounds
  abbrev after : ℕ → ℕ → List ℕ
  after a n = spread_by (calls st) n (flags_by max_letters (λ b. eqb a b))

  -- a letter that a round marks was marked, or is called by one that was
  abbrev test : List ℕ → ℕ → Bool
  test m b = is_flagged m b || any_of max_letters (λ k. is_flagged m k && calls st k b)

  marked-reaches : (a n b : ℕ) → is_flagged (after a n) b ≡ true → Reaches st a b
  unfolding spread_by spread
  marked-reaches a zero b e =
      let k : eqb a b ≡ true = sym (flagged-by (λ x. eqb a x) b (flagged-letter (λ x. eqb a x) b e)) ∙ e in
      subst (Reaches st a) (eqb-true a b k) (reaches-itself st a)
  marked-reaches a (suc n) b e =
      let k : test (after a n) b ≡ true = sym (flagged-by (test (after a n)) b (flagged-letter (test (after a n)) b e)) ∙ e in
      either_true (is_flagged (after a n) b) (any_of max_letters (λ k. is_flagged (after a n) k && calls st k b)) (Reaches st a b) k (λ h. marked-reaches a n b h)
      (λ h. any_some max_letters _ (Reaches st a b) h (λ j i. reaches-call st a j b
      (marked-reaches a n j (first-true (is_flagged (after a n) j) (calls st j b) i)) (second-true (is_flagged (after a n) j) (calls st j b) i)))

  -- ── what is reached is marked, where a round changes nothing ──────────────────────────────────

  module _ (sound : sound_used st.used ≡ true) (m : List ℕ) (still : spread (calls st) m ≡ m) where
    still-test : (b : ℕ) → b < max_letters → is_flagged m b ≡ test m b
    unfolding spread
    still-test b h = ap (λ x. is_flagged x b) (sym still) ∙ flagged-by (test m) b h

    still-letter : (b : ℕ) → is_flagged m b ≡ true → b < max_letters
    unfolding spread
    still-letter b e = flagged-letter (test m) b (ap (λ x. is_flagged x b) still ∙ e)

    chain-marked : (l : List ℕ) (a b : ℕ) → is_flagged m a ≡ true → Chain st a l b → is_flagged m b ≡ true
    chain-marked [] a b e h = subst (λ x. is_flagged m x ≡ true) h e
    chain-marked (x ∷ l) a b e h =
        let k : x < max_letters = member-letter (called_by st a) x (called-letters st a sound) h.0 in
        let i = any-of max_letters a (λ k. is_flagged m k && calls st k x) (still-letter a e) (both_true (is_flagged m a) (calls st a x) e h.0) in
        chain-marked l x b (still-test x k ∙ ap (λ u. is_flagged m x || u) i ∙ or-true (is_flagged m x)) h.1

-- ── after 25 rounds nothing changes ─────────────────────────────────────────────────────────────

-- how many letters are marked
abbrev total : List ℕ → ℕ
total [] = 0
total (x ∷ l) = x + total l

total-most : (n : ℕ) (p : ℕ → Bool) → total (flags_by n p) ≤ n
total-most zero p = omega arith
total-most (suc n) p = go (p zero) (total-most n (λ b. p (suc b)))
  where
    go : (u : Bool) → total (flags_by n (λ b. p (suc b))) ≤ n → cond u 1 0 + total (flags_by n (λ b. p (suc b))) ≤ suc n
    go true h = omega (arith, h)
    go false h = omega (arith, h)

total-some : (n a : ℕ) (p : ℕ → Bool) → a < n → p a ≡ true → 1 ≤ total (flags_by n p)
total-some zero a p h e = absurd (omega arith)
total-some (suc n) zero p h e = rw e (omega arith)
total-some (suc n) (suc a) p h e = let k = total-some n a (λ b. p (suc b)) (omega arith) e in omega (arith, k)

-- marks that include others are the same, or are more
data Grown (n : ℕ) (p q : ℕ → Bool) : Type 0 where
  alike : flags_by n p ≡ flags_by n q → Grown n p q
  more : total (flags_by n p) < total (flags_by n q) → Grown n p q

total-le : (n : ℕ) (p q : ℕ → Bool) → Grown n p q → total (flags_by n p) ≤ total (flags_by n q)
total-le n p q (alike e) = subst (λ x. total (flags_by n p) ≤ total x) e (omega arith)
total-le n p q (more h) = omega (arith, h)

grown : (n : ℕ) (p q : ℕ → Bool) → ((b : ℕ) → p b ≡ true → q b ≡ true) → Grown n p q
grown zero p q h = alike refl
grown (suc n) p q h = go (p zero) (q zero) refl refl (grown n (λ b. p (suc b)) (λ b. q (suc b)) (λ b e. h (suc b) e))
  where
    level : (u : Bool) → p zero ≡ u → q zero ≡ u → Grown n (λ b. p (suc b)) (λ b. q (suc b)) → Grown (suc n) p q
    level u d e (alike z) = alike (λ i. cond ((d ∙ sym e) i) 1 0 ∷ z i)
    level u d e (more k) = more (let z : ◌≡◌ {A = ℕ} (cond (p zero) 1 0) (cond (q zero) 1 0) = ap (λ x. cond x 1 0) (d ∙ sym e) in omega (arith, k, z))

    go : (u v : Bool) → p zero ≡ u → q zero ≡ v → Grown n (λ b. p (suc b)) (λ b. q (suc b)) → Grown (suc n) p q
    go true true d e k = level true d e k
    go false false d e k = level false d e k
    go true false d e k = absurd (false≢true (sym e ∙ h zero d))
    go false true d e k =
        let le = total-le n (λ b. p (suc b)) (λ b. q (suc b)) k in
        more (rw (d, e) (omega (arith, le)))

-- a round changes nothing, or marks another letter
round-grown : (f : ℕ → ℕ → Bool) (m : List ℕ) → Flags m → (spread f m ≡ m) ⊎ (total m < total (spread f m))
unfolding spread
round-grown f m h = go (grown max_letters (is_flagged m) q (λ b e. left b e))
  where
    q : ℕ → Bool
    q b = is_flagged m b || any_of max_letters (λ a. is_flagged m a && f a b)

    left : (b : ℕ) → is_flagged m b ≡ true → q b ≡ true
    left b e = ap (λ u. u || any_of max_letters (λ a. is_flagged m a && f a b)) e

    go : Grown max_letters (is_flagged m) q → (flags_by max_letters q ≡ m) ⊎ (total m < total (flags_by max_letters q))
    go (alike z) = inl (sym z ∙ sym h)
    go (more k) = inr (subst (λ x. total x < total (flags_by max_letters q)) (sym h) k)

module _ (f : ℕ → ℕ → Bool) (start : List ℕ) (proper : Flags start) (some : 1 ≤ total start) where
  rounds-total : (n : ℕ) → (spread f (spread_by f n start) ≡ spread_by f n start) ⊎ (suc n ≤ total (spread_by f n start))
  unfolding spread_by
  rounds-total zero = inr some
  rounds-total (suc n) = go (rounds-total n) (round-grown f (spread_by f n start) (rounds-flags f n start proper))
    where
      M : List ℕ
      M = spread_by f n start

      go : (spread f (spread_by f n start) ≡ spread_by f n start) ⊎ (suc n ≤ total (spread_by f n start))
          → (spread f (spread_by f n start) ≡ spread_by f n start) ⊎ (total (spread_by f n start) < total (spread f (spread_by f n start)))
          → (spread f (spread f (spread_by f n start)) ≡ spread f (spread_by f n start)) ⊎ (suc (suc n) ≤ total (spread f (spread_by f n start)))
      go (inl e) g = inl (ap (spread f) e)
      go (inr k) (inl e) = inl (ap (spread f) e)
      go (inr k) (inr j) = inr (omega (arith, k, j))

  -- 25 rounds mark all that is marked ever
  rounds-over : spread f (spread_by f most_calls start) ≡ spread_by f most_calls start
  rounds-over = go (rounds-total most_calls) (round-grown f (spread_by f most_calls start) (rounds-flags f most_calls start proper))
    where
      go : (spread f (spread_by f most_calls start) ≡ spread_by f most_calls start) ⊎ (suc most_calls ≤ total (spread_by f most_calls start))
          → (spread f (spread_by f most_calls start) ≡ spread_by f most_calls start) ⊎ (total (spread_by f most_calls start) < total (spread f (spread_by f most_calls start)))
          → spread f (spread_by f most_calls start) ≡ spread_by f most_calls start
      go (inl e) g = e
      go (inr k) (inl e) = e
      go (inr k) (inr j) = absurd (let most = most-marked in omega (arith, k, j, most))
        where
          most-marked : total (spread f (spread_by f most_calls start)) ≤ max_letters
          most-marked = unfold spread in total-most max_letters (λ b. is_flagged (spread_by f most_calls start) b || any_of max_letters (λ a. is_flagged (spread_by f most_calls start) a && f a b))

-- the letter's own mark stays
flag-stays : (st : Store) (a : ℕ) → a < max_letters → (n : ℕ) → is_flagged (after st a n) a ≡ true
unfolding spread_by spread
flag-stays st a h zero = flagged-by (λ b. eqb a b) a h ∙ eq-eqb a a refl
flag-stays st a h (suc n) =
    flagged-by (test st (after st a n)) a h
    ∙ ap (λ u. u || any_of max_letters (λ k. is_flagged (after st a n) k && calls st k a)) (flag-stays st a h n)

-- ── both directions ─────────────────────────────────────────────────────────────────────────────

module _ (st : Store) (a : ℕ) (sound : sound_used st.used ≡ true) (letter : a < max_letters) where
  pub reached-sound : (b : ℕ) → is_flagged (reached_by st a) b ≡ true → Reaches st a b
  unfolding reached_by
  reached-sound b e = marked-reaches st a most_calls b e

  pub reached-complete : (b : ℕ) → Reaches st a b → is_flagged (reached_by st a) b ≡ true
  unfolding reached_by
  reached-complete b r =
      let start = flags_by max_letters (λ b. eqb a b) in
      let one : eqb a a ≡ true = eq-eqb a a refl in
      let still = rounds-over (calls st) start (flags_of (λ b. eqb a b)) (total-some max_letters a (λ b. eqb a b) letter one) in
      chain-marked st sound (spread_by (calls st) most_calls start) still r.via a b
      (flag-stays st a letter most_calls) r.chain

-- what is reached is a letter
pub reached-letter : (st : Store) (a b : ℕ) → is_flagged (reached_by st a) b ≡ true → b < max_letters
unfolding reached_by spread_by spread
reached-letter st a b e = flagged-letter (test st (after st a (most_calls - 1))) b e
