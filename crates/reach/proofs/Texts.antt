-- The table of a text, read mark after mark: it is undamaged, and it calls what the text calls.
use mathlib.Core.Path.{◌≡◌, refl, ap, ◌∙◌}
use mathlib.Core.Bool.{true, false, cond, ◌||◌}
use mathlib.Core.Option.{Option, none, some}
use mathlib.Core.List.{List, [], ◌∷◌}
use Prim.Native.Nat.{ℕ, suc, ◌*◌, ◌≤◌}
use native.Mathlib.Omega.{arith}
use lib.IntN.{ℤ}
use lib.ListN.{get_or}
use lib.Dec.{eqb}
use borrow.Author.Tests.{eq-eqb}
use Rattle.language.specs.declared.Table.{Table}
use Rattle.language.specs.Limits.{max_cells}
use Rattle.language.specs.Syntax.{Expr, close, semi, colon, operate, test, call, inner}
use Rattle.language.specs.Layout.{code_start, after_operation, after_predicate, after_call, after_expr, used_cells}
use Rattle.language.specs.Machine.{Instruction, Decoded, last, code, decode}
use Rattle.language.specs.Tables.{table_from, table_at, stands_at}
use Rattle.language.specs.Statements.{Closing, outermost, exit_to, Decodes, Holds}
use Rattle.language.proofs.LayoutPositions.{operation-lt, predicate-lt, after-lt}
use Rattle.language.proofs.ReadingAccepted.{accepted-used}
use Rattle.language.proofs.TablesMeaning.{stored-stands}
use Rattle.language.proofs.MeaningEndings.{AllCalls}
use Rattle.book.specs.Store.{Store}
use Rattle.marks.specs.Marks.{next_cell, met, marks_from, marks, undamaged, called, calls_in}
use Rattle.marks.proofs.Marks.{marks-step}
use Rattle.reach.proofs.Rounds.{or-true}
use Rattle.reach.specs.Reach.{called_by, member, readable}

-- the letters that an expression calls, and then r
abbrev pub calls_of : Expr → List ℕ → List ℕ
calls_of close r = r
calls_of (semi e) r = calls_of e r
calls_of (colon e) r = calls_of e r
calls_of (operate o e) r = calls_of e r
calls_of (test p e) r = calls_of e r
calls_of (call a e) r = a ∷ calls_of e r
calls_of (inner f e) r = calls_of f (calls_of e r)

-- ── reading ─────────────────────────────────────────────────────────────────────────────────────

module _ (c : List ℤ) (base end : ℕ) (few : end ≤ max_cells) where
  abbrev t : Table
  t = table_from c base end

  abbrev from : ℕ → List Decoded
  from q = marks_from max_cells t q

  -- from cell q to cell p, past marks that call what f says
  pub record Passes (q p : ℕ) (f : List ℕ → List ℕ) : Type 0 where
    pub sound : undamaged (from q) ≡ undamaged (from p)
    pub calls : calls_in (from q) ≡ f (calls_in (from p))

  passes-code : (q : ℕ) (i : Instruction) → code_start ≤ q → decode t q ≡ code i → Passes q (next_cell i q) (called i)
  unfolding undamaged calls_in
  passes-code q i h e =
      let s = marks-step c base end few q h ∙ ap (λ d. met d (λ i. from (next_cell i q))) e in
      record { sound = ap undamaged s; calls = ap calls_in s }

  passes_then : (q p o : ℕ) (f g : List ℕ → List ℕ) → Passes q p f → Passes p o g → Passes q o (λ r. f (g r))
  passes_then q p o f g x y = record { sound = x.sound ∙ y.sound; calls = x.calls ∙ ap f y.calls }

  passes-expr : (e : Expr) (h x : ℕ) (k : Closing) (q : ℕ) → code_start ≤ q → Decodes (decode t) e h x k q → Passes q (after_expr e q) (calls_of e)
  passes-expr close h x outermost q l d = passes-code q _ l d.0
  passes-expr close h x (exit_to f) q l d = passes-code q _ l d.0
  passes-expr (semi e) h x k q l d =
      passes_then q (suc q) (after_expr e (suc q)) (λ r. r) (calls_of e) (passes-code q _ l d.0) (passes-expr e h x k (suc q) (omega arith) d.1)
  passes-expr (colon e) h x k q l d =
      passes_then q (suc q) (after_expr e (suc q)) (λ r. r) (calls_of e) (passes-code q _ l d.0) (passes-expr e h x k (suc q) (omega arith) d.1)
  passes-expr (operate o e) h x k q l d =
      let p = after_operation o q in
      let z = operation-lt o q in
      passes_then q p (after_expr e p) (λ r. r) (calls_of e) (passes-code q _ l d.0) (passes-expr e h x k p (omega (arith, z)) d.1)
  passes-expr (test w e) h x k q l d =
      let p = after_predicate w q in
      let z = predicate-lt w q in
      passes_then q p (after_expr e p) (λ r. r) (calls_of e) (passes-code q _ l d.0) (passes-expr e h x k p (omega (arith, z)) d.1)
  passes-expr (call a e) h x k q l d =
      let p = after_call q in
      passes_then q p (after_expr e p) (λ r. a ∷ r) (calls_of e) (passes-code q _ l d.0) (passes-expr e h x k p (omega arith) d.1)
  passes-expr (inner f e) h x k q l d =
      let p = after_expr f q in
      let z = after-lt f q in
      passes_then q p (after_expr e p) (calls_of f) (calls_of e) (passes-expr f q p _ q l d.0) (passes-expr e h x k p (omega (arith, z)) d.1)

  -- the whole table
  whole-text : (w : Expr) → Decodes (decode t) w code_start (used_cells w) outermost code_start → decode t (used_cells w) ≡ last
      → (undamaged (marks t) ≡ true) × (calls_in (marks t) ≡ calls_of w [])
  unfolding marks undamaged calls_in
  whole-text w d e =
      let p = passes-expr w code_start (used_cells w) outermost code_start (omega arith) d in
      let z = after-lt w code_start in
      let s = marks-step c base end few (used_cells w) (omega (arith, z)) ∙ ap (λ d. met d (λ i. from (next_cell i (used_cells w)))) e in
      (p.sound ∙ ap undamaged s, p.calls ∙ ap (λ l. calls_of w (calls_in l)) s)

-- ── a store's letter ────────────────────────────────────────────────────────────────────────────

module _ (st : Store) (a : ℕ) where
  abbrev table : Table
  table = table_at st.cells st.used a

  -- what a letter with a text is
  pub record Written (w : Expr) : Type 0 where
    pub stands : stands_at st.used a ≡ true
    pub sound : undamaged (marks table) ≡ true
    pub calls : called_by st a ≡ calls_of w []

  pub written : (w : Expr) → Holds table (some w) → Written w
  unfolding called_by
  written w h =
      let s = stored-stands st.cells st.used a (some w) h in
      let u : get_or st.used a 0 ≡ used_cells w = ap (λ (t : Table). t.used) h.table in
      let k = accepted-used h.text w h.reads in
      let x = whole-text st.cells (a * max_cells) (get_or st.used a 0) (omega (arith, u, k)) w s.1 s.2 in
      record { stands = s.0; sound = x.0; calls = ap (λ b. cond b (calls_in (marks table)) []) s.0 ∙ x.1 }

  -- a letter without a text
  pub unwritten : Holds table none → stands_at st.used a ≡ false
  unwritten h = stored-stands st.cells st.used a none h

  -- either is read without damage
  pub holds-readable : (x : Option Expr) → Holds table x → readable st a ≡ true
  unfolding readable
  holds-readable none h = ap (λ b. cond b (undamaged (marks table)) true) (unwritten h)
  holds-readable (some w) h = let k = written w h in ap (λ b. cond b (undamaged (marks table)) true) k.stands ∙ k.sound

-- ── all calls of a text ─────────────────────────────────────────────────────────────────────────

member-here : (a : ℕ) (l : List ℕ) → member a (a ∷ l) ≡ true
member-here a l = rw (eq-eqb a a refl)

member-next : (x a : ℕ) (l : List ℕ) → member a l ≡ true → member a (x ∷ l) ≡ true
member-next x a l e = ap (λ u. eqb x a || u) e ∙ or-true (eqb x a)

-- what stands after an expression's calls
member-past : (e : Expr) (a : ℕ) (r : List ℕ) → member a r ≡ true → member a (calls_of e r) ≡ true
member-past close a r h = h
member-past (semi e) a r h = member-past e a r h
member-past (colon e) a r h = member-past e a r h
member-past (operate o e) a r h = member-past e a r h
member-past (test p e) a r h = member-past e a r h
member-past (call x e) a r h = member-next x a (calls_of e r) (member-past e a r h)
member-past (inner f e) a r h = member-past f a (calls_of e r) (member-past e a r h)

-- where every letter that it calls has a property, all its calls are of such letters
pub all-called : (R : ℕ → Type 0) (e : Expr) (r : List ℕ) → ((a : ℕ) → member a (calls_of e r) ≡ true → R a) → AllCalls R e
all-called R close r h = tt
all-called R (semi e) r h = all-called R e r h
all-called R (colon e) r h = all-called R e r h
all-called R (operate o e) r h = all-called R e r h
all-called R (test p e) r h = all-called R e r h
all-called R (call x e) r h = (h x (member-here x (calls_of e r)), all-called R e r (λ a k. h a (member-next x a (calls_of e r) k)))
all-called R (inner f e) r h = (all-called R f (calls_of e r) h, all-called R e r (λ a k. h a (member-past f a (calls_of e r) k)))
