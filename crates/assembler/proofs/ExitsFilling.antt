-- The second pass over the code's arrays is the reading of their cells from the last one back.
use mathlib.Core.Path.{◌≡◌, refl, ap, ◌∙◌}
use mathlib.Core.Bool.{Bool, true, false}
use mathlib.Core.List.{List, [], ◌∷◌, ◌++◌}
use Prim.Native.Nat.{ℕ, zero, suc, ◌+◌, ◌-◌, ◌≤◌, ◌<◌}
use native.Mathlib.Numerals.{unary_clauses}
use native.Mathlib.Omega.{arith}
use lib.IntN.{ℤ, pos}
use lib.ListN.{length, get_or, set, length-set}
use lib.Seq.{get_or-set_same, get_or-set_other}
use lib.Dec.{eqb}
use Rattle.language.specs.Limits.{max_levels}
use borrow.Author.Tests.{eqb-true, eqb-false}
use Rattle.assembler.specs.Exits.{Ahead, settled, filled, level_of}
use Rattle.emitter.specs.declared.pass.Open.{Open}
use Rattle.emitter.specs.declared.pass.Open.TheVariants.{Known, Exit, End, Close, Colon}
use Rattle.emitter.specs.Drafts.{Cell, cell, level_places}
use Rattle.assembler.proofs.ExitsLayout.{Back, with_at, stepped, before, backs}

-- ── a cell in the arrays ────────────────────────────────────────────────────────────────────────

-- what the first pass leaves in a cell
abbrev pub value_of : Cell → ℤ
value_of c = c.holds

-- what waits in it
abbrev pub waits_of : Cell → Open
waits_of c = c.waits

-- every level is one of document 01's
abbrev pub Low : List Cell → Type 0
Low [] = Unit {0}
Low (c ∷ l) = (level_of c.waits ≤ max_levels) × Low l

-- ── cells, last first ───────────────────────────────────────────────────────────────────────────

-- the cells of l, which stand last first, one by one before those of X
abbrev pub onto {ℓ} : {A : Type ℓ} → (Cell → A) → List Cell → List A → List A
onto f [] X = X
onto f (c ∷ l) X = onto f l (f c ∷ X)

set_on : {A : Type 0} (f : Cell → A) (l : List Cell) (Z : List A) (n : ℕ) (w : A) → set (onto f l Z) (length l + n) w ≡ onto f l (set Z n w)
set_on f [] Z n w = let e : 0 + n ≡ n = omega arith in simp e
set_on f (c ∷ l) Z n w = let e : suc (length l) + n ≡ length l + suc n = omega arith in rw e (set_on f l (f c ∷ Z) (suc n) w)

get-on : {A : Type 0} (f : Cell → A) (l : List Cell) (Z : List A) (n : ℕ) (d : A) → get_or (onto f l Z) (length l + n) d ≡ get_or Z n d
get-on f [] Z n d = let e : 0 + n ≡ n = omega arith in simp e
get-on f (c ∷ l) Z n d = let e : suc (length l) + n ≡ length l + suc n = omega arith in rw e (get-on f l (f c ∷ Z) (suc n) d)

pub set_next : {A : Type 0} (f : Cell → A) (l : List Cell) (z : A) (Z : List A) (w : A) → set (onto f l (z ∷ Z)) (length l) w ≡ onto f l (w ∷ Z)
set_next f l z Z w = let e : length l ≡ length l + 0 = omega arith in ap (λ n. set (onto f l (z ∷ Z)) n w) e ∙ set_on f l (z ∷ Z) 0 w

get-next : {A : Type 0} (f : Cell → A) (l : List Cell) (z : A) (Z : List A) (d : A) → get_or (onto f l (z ∷ Z)) (length l) d ≡ z
get-next f l z Z d = let e : length l ≡ length l + 0 = omega arith in ap (λ n. get_or (onto f l (z ∷ Z)) n d) e ∙ get-on f l (z ∷ Z) 0 d

-- ── one cell ────────────────────────────────────────────────────────────────────────────────────

-- the places of F are f's
pub record Agree (F : List ℤ) (f : ℕ → ℤ) : Type 0 where
  pub places : length F ≡ level_places
  pub each : (j : ℕ) → j < level_places → get_or F j (pos 0) ≡ f j

agree-set : (F : List ℤ) (f : ℕ → ℤ) (v : ℕ) (z : ℤ) → Agree F f → v < level_places → Agree (set F v z) (with_at f v z)
agree-set F f v z a h = record { places = length-set F v z ∙ a.places; each = λ j k. go j k (eqb j v) refl }
  where
    go : (j : ℕ) → j < level_places → (t : Bool) → eqb j v ≡ t → get_or (set F v z) j (pos 0) ≡ with_at f v z j
    go j k true e =
        let e' : j ≡ v = eqb-true j v e in
        let l : v < length F = omega (arith, a.places) in
        rw e (rw e' (get_or-set_same F v z (pos 0) l))
    go j k false e = rw e (get_or-set_other F v j z (pos 0) (eqb-false j v e) ∙ a.each j k)

-- The arrays before the cells of l, last first, are settled; those after are settled to B, and then z.
pub record Holds (a : Ahead) (l : List Cell) (B : Back) (z : List ℤ) : Type 0 where
  pub cells_are : a.cells ≡ onto value_of l (B.out ++ z)
  pub falses-are : Agree a.falses B.false_of
  pub ends-are : Agree a.ends B.end_of

two-on : (n : ℕ) → n + 2 ≡ suc (suc n)
two-on n = omega arith

one_on : (n : ℕ) → n + 1 ≡ suc n
one_on n = omega arith

cell_set : (s : List ℤ) (l : List Cell) (x : ℤ) (r : List ℤ) (w y : ℤ) → s ≡ onto value_of l (x ∷ r) → w ≡ y → set s (length l) w ≡ onto value_of l (y ∷ r)
cell_set s l x r w y e f = ap (λ k. set k (length l) w) e ∙ set_next value_of l x r w ∙ ap (λ k. onto value_of l (k ∷ r)) f

settle-open : (a : Ahead) (l : List Cell) (x : ℤ) (o : Open) (B : Back) (z : List ℤ) → level_of o ≤ max_levels
    → Holds a (cell x o ∷ l) B z → Holds (settled a (length l) o) l (stepped o x (suc (length l)) B) z
unfolding settled
settle-open a l x Known B z h e = record { cells_are = e.cells_are; falses-are = e.falses-are; ends-are = e.ends-are }
settle-open a l x (Exit v) B z h e =
    record {
      cells_are = cell_set _ l _ _ _ _ e.cells_are (e.falses-are.each v (omega arith));
      falses-are = e.falses-are;
      ends-are = e.ends-are;
    }
settle-open a l x (End v) B z h e =
    record {
      cells_are = cell_set _ l _ _ _ _ e.cells_are (e.ends-are.each v (omega arith));
      falses-are = rw (two-on (length l)) (agree-set _ _ v _ e.falses-are (omega arith));
      ends-are = e.ends-are;
    }
settle-open a l x (Close v) B z h e =
    record {
      cells_are = cell_set _ l _ _ _ _ e.cells_are (e.falses-are.each v (omega arith));
      falses-are = rw (two-on (length l), one_on v) (agree-set _ _ (suc v) _ e.falses-are (omega arith));
      ends-are = rw (two-on (length l), one_on v) (agree-set _ _ (suc v) _ e.ends-are (omega arith));
    }
settle-open a l x (Colon v) B z h e =
    record { cells_are = e.cells_are; falses-are = rw (two-on (length l)) (agree-set _ _ v _ e.falses-are (omega arith)); ends-are = e.ends-are }

settle-cell : (a : Ahead) (l : List Cell) (c : Cell) (B : Back) (z : List ℤ) → level_of c.waits ≤ max_levels
    → Holds a (c ∷ l) B z → Holds (settled a (length l) c.waits) l (before c (suc (length l)) B) z
settle-cell a l c B z h e = settle-open a l c.holds c.waits B z h e

-- ── all the cells ───────────────────────────────────────────────────────────────────────────────

-- one cell less
pub filled_down : (os : List Open) (i : ℕ) (a : Ahead) → 0 < i → filled os i a ≡ filled os (i - 1) (settled a (i - 1) (get_or os (i - 1) Known))
unfolding filled
filled_down os zero a h = absurd (omega arith)
filled_down os (suc i) a h = simp unary_clauses

-- no cell is left
pub filled_none : (os : List Open) (i : ℕ) (a : Ahead) → i ≤ 0 → filled os i a ≡ a
unfolding filled
filled_none os zero a h = refl
filled_none os (suc i) a h = absurd (omega arith)

pub filled_is : (l r : List Cell) (O : List Open) (z : List ℤ) (a : Ahead) → Low l → Holds a l (backs r (suc (length l))) z
    → (filled (onto waits_of l O) (length l) a).cells ≡ (backs (onto (λ c. c) l r) 1).out ++ z
unfolding filled
filled_is [] r O z a low e = e.cells_are
filled_is (c ∷ l) r O z a low e =
    let os = onto waits_of l (c.waits ∷ O) in
    ap (λ o. (filled os (length l) (settled a (length l) o)).cells) (get-next waits_of l c.waits O Known)
    ∙ filled_is l (c ∷ r) (c.waits ∷ O) z _ low.1 (settle-cell a l c _ z low.0 e)
