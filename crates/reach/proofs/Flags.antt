-- Laws of lists of marks.
use mathlib.Core.Path.{◌≡◌, refl, sym, ap, ◌∙◌, subst}
use mathlib.Core.Bool.{Bool, true, false, cond, not, false≢true}
use mathlib.Core.List.{List}
use Prim.Native.Nat.{ℕ, zero, suc, ◌+◌, ◌≤◌, ◌<◌}
use native.Mathlib.Omega.{arith}
use native.Mathlib.Nat.{le_of_suc-le-suc}
use lib.ListN.{length, get_or, set, length-set, get_or-map}
use Rattle.std.proofs.lemmas.List.{length-map}
use lib.Seq.{ext_get_or, get_or-set_same, get_or-set_other}
use lib.Dec.{eqb, ltb}
use borrow.Author.Tests.{eqb-true, eqb-false, ltb-true, ltb-false}
use Rattle.language.specs.Limits.{max_letters}
use Rattle.reach.specs.Reach.{flags_by, is_flagged}
use Rattle.reach.specs.Rounds.{Flags, marks_of}

-- a test as a flag
abbrev pub flag : Bool → ℕ
flag u = cond u 1 0

-- and back
pub flag-back : (u : Bool) → eqb (flag u) 1 ≡ u
flag-back true = refl
flag-back false = refl

pub length-flags : (n : ℕ) (p : ℕ → Bool) → length (flags_by n p) ≡ n
length-flags zero p = refl
length-flags (suc n) p = ap suc (length-flags n (λ b. p (suc b)))

pub get_or-flags : (n : ℕ) (p : ℕ → Bool) (b : ℕ) → b < n → get_or (flags_by n p) b 0 ≡ flag (p b)
get_or-flags zero p b h = absurd (omega arith)
get_or-flags (suc n) p zero h = refl
get_or-flags (suc n) p (suc b) h = get_or-flags n (λ b. p (suc b)) b (le_of_suc-le-suc h)

past-marks : (n : ℕ) (p : ℕ → Bool) (b : ℕ) → n ≤ b → get_or (flags_by n p) b 0 ≡ 0
past-marks zero p b h = refl
past-marks (suc n) p zero h = absurd (omega arith)
past-marks (suc n) p (suc b) h = past-marks n (λ b. p (suc b)) b (le_of_suc-le-suc h)

-- a letter is marked where the test holds of it
pub flagged-by : (p : ℕ → Bool) (b : ℕ) → b < max_letters → is_flagged (flags_by max_letters p) b ≡ p b
flagged-by p b h = ap (λ x. eqb x 1) (get_or-flags max_letters p b h) ∙ flag-back (p b)

-- nothing else is
pub flagged-letter : (p : ℕ → Bool) (b : ℕ) → is_flagged (flags_by max_letters p) b ≡ true → b < max_letters
flagged-letter p b e = go (ltb b max_letters) refl
  where
    go : (u : Bool) → ltb b max_letters ≡ u → b < max_letters
    go true k = ltb-true b max_letters k
    go false k =
        absurd (false≢true (sym (ap (λ x. eqb x 1) (past-marks max_letters p b (ltb-false b max_letters k))) ∙ e))

pub flags-same : (n : ℕ) (p q : ℕ → Bool) → ((b : ℕ) → b < n → p b ≡ q b) → flags_by n p ≡ flags_by n q
flags-same n p q h =
    ext_get_or 0 (flags_by n p) (flags_by n q) (length-flags n p ∙ sym (length-flags n q))
    (λ b k. let l : b < n = subst (λ m. b < m) (length-flags n p) k in get_or-flags n p b l ∙ ap flag (h b l) ∙ sym (get_or-flags n q b l))

-- marks are those of what they mark
pub flags_of : (p : ℕ → Bool) → Flags (flags_by max_letters p)
flags_of p = flags-same max_letters p (is_flagged (flags_by max_letters p)) (λ b h. sym (flagged-by p b h))

-- ── letters that a loop writes one by one ───────────────────────────────────────────────────────

-- a letter of the list is marked
pub marked : (l : List Bool) (b : ℕ) → is_flagged (marks_of l) b ≡ get_or l b false
marked l b = ap (λ x. eqb x 1) (get_or-map flag l b false) ∙ flag-back (get_or l b false)

-- the first i elements are those that p gives; d stands for what is past the list
pub record Flagging {A : Type 0} (d : A) (p : ℕ → A) (l : List A) (i : ℕ) : Type 0 where
  pub size : length l ≡ max_letters
  pub few : i ≤ max_letters
  pub done : (b : ℕ) → b < i → get_or l b d ≡ p b

pub flagging-more : {A : Type 0} (d : A) (p : ℕ → A) (l : List A) (i : ℕ) (v : A) → Flagging d p l i → i < max_letters → v ≡ p i
    → Flagging d p (set l i v) (i + 1)
flagging-more d p l i v k h e =
    record {
      size = length-set l i v ∙ k.size;
      few = omega arith;
      done = λ b j. go b j (eqb b i) refl;
    }
  where
    go : (b : ℕ) → b < i + 1 → (u : Bool) → eqb b i ≡ u → get_or (set l i v) b d ≡ p b
    go b j true q =
        let z : b ≡ i = eqb-true b i q in
        subst (λ x. get_or (set l i v) x d ≡ p x) (sym z) (get_or-set_same l i v d (omega (arith, k.size)) ∙ e)
    go b j false q =
        let ne = eqb-false b i q in
        get_or-set_other l i b v d ne ∙ k.done b (omega (arith, ne))

-- all of them
pub flagging-done : (p q : ℕ → Bool) (l : List Bool) (i : ℕ) → Flagging false p l i → max_letters ≤ i → ((b : ℕ) → b < max_letters → p b ≡ q b) → marks_of l ≡ flags_by max_letters q
flagging-done p q l n k m h =
    let size : length (marks_of l) ≡ max_letters = length-map l flag ∙ k.size in
    ext_get_or 0 (marks_of l) (flags_by max_letters q) (size ∙ sym (length-flags max_letters q))
    (λ b j. let i : b < max_letters = subst (λ n. b < n) size j in
    get_or-map flag l b false ∙ ap flag (k.done b (omega arith) ∙ h b i) ∙ sym (get_or-flags max_letters q b i))

-- the marks of a list as long as the letters
pub proper : (l : List Bool) → length l ≡ max_letters → Flags (marks_of l)
proper l e =
    flagging-done (λ b. get_or l b false) (is_flagged (marks_of l)) l max_letters (record { size = e; few = omega arith; done = λ b h. refl }) (omega arith)
    (λ b h. sym (marked l b))

pub not-not : (u : Bool) → u ≡ not (not u)
not-not true = refl
not-not false = refl
