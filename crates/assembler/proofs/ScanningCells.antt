-- The code's arrays hold a list of cells: each cell that the first pass adds, and what the second pass makes of the cells of a whole text.
use mathlib.Core.Path.{◌≡◌, refl, sym, ap, ◌∙◌, subst}
use mathlib.Core.List.{List, [], ◌∷◌, ◌++◌}
use Prim.Native.Nat.{ℕ, zero, suc, ◌+◌, ◌-◌, ◌≤◌}
use native.Mathlib.Omega.{arith}
use lib.IntN.{ℤ, pos}
use lib.ListN.{length, get_or, set, replicate, get_or-replicate}
use Rattle.language.specs.Limits.{max_cells, max_levels}
use Rattle.language.specs.Letters.{letter_byte}
use Rattle.language.specs.Syntax.{print_code, Operation, operator, variable, constant, print, Predicate, condition, counter, Expr, close, semi, colon, operate, test, call, inner}
use Rattle.language.specs.Layout.{after_operation, after_predicate, after_call, after_expr, false_exit, used_cells, opcode, byte_cells, operation_cells, predicate_cells, expr_cells, first_cell, code_start, layout}
use Rattle.emitter.specs.declared.pass.Open.{Open}
use Rattle.emitter.specs.declared.pass.Open.TheVariants.{Known, Exit, End, Close, Colon}
use Rattle.emitter.specs.declared.pass.Draft.{Draft}
use Rattle.emitter.specs.Drafts.{Cell, known, level_places, opened_in, pass_put, pass_lay}
use Rattle.assembler.specs.Exits.{filled, linked, nothing_ahead, level_of}
use Rattle.assembler.specs.Scanning.{Ready}
use Rattle.assembler.proofs.ExitsLayout.{emit, backs, laid}
use Rattle.assembler.proofs.ExitsFilling.{value_of, waits_of, Low, onto, set_next, Agree, filled_is}

-- the cells of l upon R, whose cells stand last first
abbrev pub pile : List Cell → List Cell → List Cell
pile [] R = R
pile (c ∷ l) R = pile l (c ∷ R)

pub pile-append : (l r R : List Cell) → pile (l ++ r) R ≡ pile r (pile l R)
pile-append [] r R = refl
pile-append (c ∷ l) r R = pile-append l r (c ∷ R)

-- ── what the arrays hold ────────────────────────────────────────────────────────────────────────

-- the cells of R, last first, and then n cells that are 0
pub record Cells (d : Draft) (R : List Cell) (n : ℕ) : Type 0 where
  pub values-are : d.cells ≡ onto value_of R (replicate n (pos 0))
  pub opens-are : d.opens ≡ onto waits_of R (replicate n Known)
  pub used-is : d.used ≡ length R
  pub room : length R + n ≡ max_cells
  pub low : Low R

set-used : {A : Type 0} (f : Cell → A) (s : List A) (u : ℕ) (R : List Cell) (x y : A) (X : List A) → s ≡ onto f R (x ∷ X) → u ≡ length R
    → set s u y ≡ onto f R (y ∷ X)
set-used f s u R x y X e k = ap (λ s. set s u y) e ∙ ap (λ u. set (onto f R (x ∷ X)) u y) k ∙ set_next f R x X y

-- the cells not used yet are known
open-used : (s : List Open) (u : ℕ) (R : List Cell) (o : Open) (n : ℕ) → s ≡ onto waits_of R (replicate (suc n) Known) → u ≡ length R
    → opened_in s u o ≡ onto waits_of R (o ∷ replicate n Known)
open-used s u R Known n e k = e
open-used s u R (Exit v) n e k = set-used waits_of s u R _ _ _ e k
open-used s u R (End v) n e k = set-used waits_of s u R _ _ _ e k
open-used s u R (Close v) n e k = set-used waits_of s u R _ _ _ e k
open-used s u R (Colon v) n e k = set-used waits_of s u R _ _ _ e k

-- what one more cell leaves alone
pub record Kept (d e : Draft) : Type 0 where
  pub level-kept : e.level ≡ d.level
  pub counters-kept : e.counters ≡ d.counters
  pub starts-kept : e.starts ≡ d.starts

put-cells : (d : Draft) (R : List Cell) (n : ℕ) (c : Cell) → level_of c.waits ≤ max_levels → Cells d R (suc n) → Cells (pass_put d c) (c ∷ R) n
put-cells d R n c h k =
    record {
      values-are = set-used value_of _ _ R _ _ _ k.values-are k.used-is;
      opens-are = open-used _ _ R c.waits n k.opens-are k.used-is;
      used-is = omega (arith, k.used-is);
      room = omega (arith, k.room);
      low = (h, k.low);
    }

lay-cells : (d : Draft) (R : List Cell) (n : ℕ) (cs : List Cell) → Low cs → Cells d R (length cs + n) → Cells (pass_lay d cs) (pile cs R) n
lay-cells d R n [] h k = let e : 0 + n ≡ n = omega arith in rw e at k
lay-cells d R n (c ∷ cs) h k =
    let e : suc (length cs) + n ≡ suc (length cs + n) = omega arith in
    lay-cells (pass_put d c) (c ∷ R) n cs h.1 (put-cells d R (length cs + n) c h.0 (rw e at k))

-- where there is room
pub grown : (d : Draft) (R : List Cell) (n : ℕ) (cs : List Cell) → Low cs → Cells d R n → d.used + length cs ≤ max_cells → Cells (pass_lay d cs) (pile cs R) (n - length cs)
grown d R n cs h k r =
    let e : n ≡ length cs + (n - length cs) = omega (arith, k.room, k.used-is) in
    lay-cells d R (n - length cs) cs h (rw e at k)

pub lay-kept : (d : Draft) (cs : List Cell) → Kept d (pass_lay d cs)
lay-kept d [] = record { level-kept = refl; counters-kept = refl; starts-kept = refl }
lay-kept d (c ∷ cs) =
    let k = lay-kept (pass_put d c) cs in
    record { level-kept = k.level-kept; counters-kept = k.counters-kept; starts-kept = k.starts-kept }

pub lay-used : (d : Draft) (cs : List Cell) → (pass_lay d cs).used ≡ d.used + length cs
lay-used d [] = omega arith
lay-used d (c ∷ cs) = omega (arith, lay-used (pass_put d c) cs)

-- ── the levels are small ────────────────────────────────────────────────────────────────────────

rest-low : (n k : ℕ) → level_of (get_or (replicate n Known) k Known) ≤ max_levels
rest-low zero k = omega arith
rest-low (suc n) zero = omega arith
rest-low (suc n) (suc k) = rest-low n k

on-low : (o : Open) (X : List Open) → level_of o ≤ max_levels → ((k : ℕ) → level_of (get_or X k Known) ≤ max_levels)
    → (k : ℕ) → level_of (get_or (o ∷ X) k Known) ≤ max_levels
on-low o X h f zero = h
on-low o X h f (suc k) = f k

onto-low : (R : List Cell) (X : List Open) → Low R → ((k : ℕ) → level_of (get_or X k Known) ≤ max_levels)
    → (k : ℕ) → level_of (get_or (onto waits_of R X) k Known) ≤ max_levels
onto-low [] X h f = f
onto-low (c ∷ R) X h f = onto-low R (c.waits ∷ X) h.1 (on-low c.waits X h.0 f)

-- ── a whole text ────────────────────────────────────────────────────────────────────────────────

bytes-append : (l : List ℕ) (r z : List ℤ) → byte_cells l r ++ z ≡ byte_cells l (r ++ z)
bytes-append [] r z = refl
bytes-append (b ∷ l) r z = ap (λ y. pos b ∷ y) (bytes-append l r z)

operation-append : (o : Operation) (r z : List ℤ) → operation_cells o r ++ z ≡ operation_cells o (r ++ z)
operation-append (operator o) r z = refl
operation-append (variable a k) r z = refl
operation-append (constant v) r z = refl
operation-append (print b) r z = ap (λ y. opcode print_code ∷ pos (length b) ∷ y) (bytes-append b r z)

predicate-append : (p : Predicate) (f : ℕ) (r z : List ℤ) → predicate_cells p f r ++ z ≡ predicate_cells p f (r ++ z)
predicate-append (condition c) f r z = refl
predicate-append (counter m k) f r z = refl

expr-append : (e : Expr) (h x c q : ℕ) (r z : List ℤ) → expr_cells e h x c q r ++ z ≡ expr_cells e h x c q (r ++ z)
expr-append close h x c q r z = refl
expr-append (semi e) h x c q r z = ap (λ y. pos x ∷ y) (expr-append e h x c (suc q) r z)
expr-append (colon e) h x c q r z = ap (λ y. pos h ∷ y) (expr-append e h x c (suc q) r z)
expr-append (operate o e) h x c q r z = operation-append o _ z ∙ ap (operation_cells o) (expr-append e h x c (after_operation o q) r z)
expr-append (test p e) h x c q r z =
    predicate-append p _ _ z ∙ ap (predicate_cells p (false_exit e (after_predicate p q))) (expr-append e h x c (after_predicate p q) r z)
expr-append (call a e) h x c q r z = ap (λ y. opcode (letter_byte a) ∷ pos (false_exit e (after_call q)) ∷ y) (expr-append e h x c (after_call q) r z)
expr-append (inner f e) h x c q r z =
    expr-append f q (after_expr f q) (false_exit e (after_expr f q)) q _ z
    ∙ ap (expr_cells f q (after_expr f q) (false_exit e (after_expr f q)) q) (expr-append e h x c (after_expr f q) r z)

onto-pile : (l R : List Cell) → onto (λ c. c) (pile l R) [] ≡ onto (λ c. c) R l
onto-pile [] R = refl
onto-pile (c ∷ l) R = onto-pile l (c ∷ R)

zeros-agree : Agree (replicate level_places (pos 0)) (λ _. pos 0)
zeros-agree = record { places = refl; each = λ j h. get_or-replicate level_places j (pos 0) (pos 0) h }

-- the cells of a text, with the last cell of its last `)`
abbrev pub text_cells : Expr → List Cell
text_cells w = emit w 0 code_start code_start (known (pos 1) ∷ [])

-- cell 1
abbrev pub head_cell : List Cell
head_cell = known (pos first_cell) ∷ []

pub ready : (d : Draft) (w : Expr) (n : ℕ) → Cells d (pile (text_cells w) head_cell) n → d.used ≡ used_cells w → Ready w d
unfolding linked
ready d w n k u =
    let R = pile (text_cells w) head_cell in
    let O = replicate n Known in
    let a = nothing_ahead d.cells in
    let f : (filled d.opens d.used a).cells ≡ (backs (onto (λ c. c) R []) 1).out ++ replicate n (pos 0) =
    ap (λ x. (filled x d.used a).cells) k.opens-are
    ∙ ap (λ x. (filled (onto waits_of R O) x a).cells) k.used-is
    ∙ filled_is R [] O (replicate n (pos 0)) a k.low (record { cells_are = k.values-are; falses-are = zeros-agree; ends-are = zeros-agree }) in
    let m : n ≡ max_cells - used_cells w = omega (arith, k.room, k.used-is) in
    let g = laid w 0 code_start 0 code_start (known (pos 1) ∷ []) refl in
    let o : (backs (onto (λ c. c) R []) 1).out ++ replicate n (pos 0) ≡ (layout w).cells =
    ap (λ x. (backs x 1).out ++ replicate n (pos 0)) (onto-pile (text_cells w) head_cell)
    ∙ ap (λ x. pos first_cell ∷ (x ++ replicate n (pos 0))) g.cells_are
    ∙ ap (λ x. pos first_cell ∷ x) (expr-append w code_start (used_cells w) 0 code_start (pos 1 ∷ []) (replicate n (pos 0)))
    ∙ ap (λ x. pos first_cell ∷ expr_cells w code_start (used_cells w) 0 code_start (pos 1 ∷ replicate x (pos 0))) m in
    record {
      all = u;
      fillable =
          record {
            small = omega (arith, k.room, k.used-is);
            shallow = λ j. subst (λ l. level_of (get_or l j Known) ≤ max_levels) (sym k.opens-are) (onto-low R O k.low (rest-low n) j);
          };
      cells_are = f ∙ o;
    }
