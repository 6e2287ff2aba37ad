-- The cells of an expression after the first pass, and what reading them from the last one back makes of them: the cells of its layout.
use mathlib.Core.Path.{◌≡◌, refl, ◌∙◌}
use mathlib.Core.Bool.{cond}
use mathlib.Core.List.{List, [], ◌∷◌, ◌++◌}
use Prim.Native.Nat.{ℕ, suc, ◌≤◌, ◌<◌}
use native.Mathlib.Omega.{arith}
use lib.IntN.{ℤ, pos}
use lib.ListN.{length}
use lib.Dec.{eqb}
use borrow.Author.Tests.{eq-eqb, ne_eqb}
use Rattle.language.specs.Letters.{letter_byte}
use Rattle.language.specs.Syntax.{operator_byte, access_byte, condition_byte, constant_code, Operation, operator, variable, constant, print}
use Rattle.language.specs.Syntax.{Predicate, condition, counter, Expr, close, semi, colon, operate, test, call, inner}
use Rattle.language.specs.Layout.{forward, after_operation, after_predicate, after_call, after_expr, false_exit, opcode, byte_cells, operation_cells, expr_cells}
use Rattle.emitter.specs.declared.pass.Open.{Open}
use Rattle.emitter.specs.declared.pass.Open.TheVariants.{Known, Exit, End, Close, Colon}
use Rattle.emitter.specs.Drafts.{Cell, known, colon_at, semi_at, close_at, operand_cells, test_cells, counter_cells, known_bytes, print_cells}

-- ── the first pass ──────────────────────────────────────────────────────────────────────────────

-- an operation's cells after the first pass
abbrev pub operation_draft : Operation → List Cell
operation_draft (operator o) = known (opcode (operator_byte o)) ∷ []
operation_draft (variable a k) = operand_cells (access_byte a) (pos k)
operation_draft (constant v) = operand_cells constant_code v
operation_draft (print b) = print_cells b

-- at level v
abbrev pub predicate_draft : Predicate → ℕ → List Cell
predicate_draft (condition c) v = test_cells (condition_byte c) v
predicate_draft (counter m k) v = counter_cells (suc m) k v

-- a call's, at level v
abbrev pub call_draft : ℕ → ℕ → List Cell
call_draft a v = test_cells (letter_byte a) v

-- The cells of e, with u expressions around its own, whose first cell is h, from cell q on, and then r.
abbrev pub emit : Expr → ℕ → ℕ → ℕ → List Cell → List Cell
emit close u h q r = close_at u ∷ r
emit (semi e) u h q r = semi_at (suc u) ∷ emit e u h (suc q) r
emit (colon e) u h q r = colon_at (suc u) (pos h) ∷ emit e u h (suc q) r
emit (operate o e) u h q r = operation_draft o ++ emit e u h (after_operation o q) r
emit (test p e) u h q r = predicate_draft p (suc u) ++ emit e u h (after_predicate p q) r
emit (call a e) u h q r = call_draft a (suc u) ++ emit e u h (after_call q) r
emit (inner f e) u h q r = emit f (suc u) q q (emit e u h (after_expr f q) r)

-- ── from the last cell back ─────────────────────────────────────────────────────────────────────

-- the cells so far, and the false exit and the end of each level as they are before them
pub record Back : Type 0 where
  pub out : List ℤ
  pub false_of : ℕ → ℤ
  pub end_of : ℕ → ℤ

-- its parts together
abbrev pub back : List ℤ → (ℕ → ℤ) → (ℕ → ℤ) → Back
back o f e = record { out = o; false_of = f; end_of = e }

-- the function f with z at v
abbrev pub with_at : (ℕ → ℤ) → ℕ → ℤ → ℕ → ℤ
with_at f v z j = cond (eqb j v) z (f j)

-- one more cell, cell q, that holds z, and what waits in it
abbrev pub stepped : Open → ℤ → ℕ → Back → Back
stepped Known z q b = back (z ∷ b.out) b.false_of b.end_of
stepped (Exit v) z q b = back (b.false_of v ∷ b.out) b.false_of b.end_of
stepped (End v) z q b = back (b.end_of v ∷ b.out) (with_at b.false_of v (pos (suc q))) b.end_of
stepped (Close v) z q b = back (b.false_of v ∷ b.out) (with_at b.false_of (suc v) (pos (suc q))) (with_at b.end_of (suc v) (pos (suc q)))
stepped (Colon v) z q b = back (z ∷ b.out) (with_at b.false_of v (pos (suc q))) b.end_of

-- the same of a cell
abbrev pub before : Cell → ℕ → Back → Back
before c q b = stepped c.waits c.holds q b

-- cells from cell q on
abbrev pub backs : List Cell → ℕ → Back
backs [] q = back [] (λ _. pos 0) (λ _. pos 0)
backs (c ∷ l) q = before c q (backs l (suc q))

-- ── what they make ──────────────────────────────────────────────────────────────────────────────

-- B' comes of e's cells before those of B: e's cells of the layout, its false exit and its end, and the levels around as they were
pub record Laid (e : Expr) (u h c q : ℕ) (B : Back) (B' : Back) : Type 0 where
  pub cells_are : B'.out ≡ expr_cells e h (after_expr e q) c q B.out
  pub false-is : B'.false_of (suc u) ≡ pos (false_exit e q)
  pub end_is : B'.end_of (suc u) ≡ pos (after_expr e q)
  pub false-around : (j : ℕ) → j ≤ u → B'.false_of j ≡ B.false_of j
  pub end-around : (j : ℕ) → j ≤ u → B'.end_of j ≡ B.end_of j

at_same : (v : ℕ) (z w : ℤ) → cond (eqb v v) z w ≡ z
at_same v z w = simp (eq-eqb v v refl)

at_other : (v j : ℕ) (z w : ℤ) → j < v → cond (eqb j v) z w ≡ w
at_other v j z w h = simp (ne_eqb j v (λ e. omega arith))

bytes_back : (l : List ℕ) (q : ℕ) (r : List Cell) (B : Back) → backs r (forward (length l) q) ≡ B
    → backs (known_bytes l ++ r) q ≡ back (byte_cells l B.out) B.false_of B.end_of
bytes_back [] q r B e = e
bytes_back (b ∷ l) q r B e = rw (bytes_back l (suc q) r B e)

operation-back : (o : Operation) (q : ℕ) (r : List Cell) → backs (operation_draft o ++ r) q
    ≡ back (operation_cells o (backs r (after_operation o q)).out) (backs r (after_operation o q)).false_of (backs r (after_operation o q)).end_of
operation-back (operator o) q r = refl
operation-back (variable a k) q r = refl
operation-back (constant v) q r = refl
operation-back (print b) q r = rw (bytes_back b (suc (suc q)) r _ refl)

pub laid : (e : Expr) (u h c q : ℕ) (r : List Cell) → (backs r (after_expr e q)).false_of u ≡ pos c
    → Laid e u h c q (backs r (after_expr e q)) (backs (emit e u h q r) q)
laid close u h c q r k =
    record {
      cells_are = rw k;
      false-is = at_same (suc u) _ _;
      end_is = at_same (suc u) _ _;
      false-around = λ j i. at_other (suc u) j _ _ (omega arith);
      end-around = λ j i. at_other (suc u) j _ _ (omega arith);
    }
laid (semi e) u h c q r k =
    let d = laid e u h c (suc q) r k in
    record {
      cells_are = rw (d.end_is, d.cells_are);
      false-is = at_same (suc u) _ _;
      end_is = d.end_is;
      false-around = λ j i. at_other (suc u) j _ _ (omega arith) ∙ d.false-around j i;
      end-around = d.end-around;
    }
laid (colon e) u h c q r k =
    let d = laid e u h c (suc q) r k in
    record {
      cells_are = rw d.cells_are;
      false-is = at_same (suc u) _ _;
      end_is = d.end_is;
      false-around = λ j i. at_other (suc u) j _ _ (omega arith) ∙ d.false-around j i;
      end-around = d.end-around;
    }
laid (operate o e) u h c q r k =
    let d = laid e u h c (after_operation o q) r k in
    rw (operation-back o q (emit e u h (after_operation o q) r))
    (record { cells_are = rw d.cells_are; false-is = d.false-is; end_is = d.end_is; false-around = d.false-around; end-around = d.end-around })
laid (test (condition t) e) u h c q r k =
    let d = laid e u h c (suc (suc q)) r k in
    record { cells_are = rw (d.cells_are, d.false-is); false-is = d.false-is; end_is = d.end_is; false-around = d.false-around; end-around = d.end-around }
laid (test (counter m n) e) u h c q r k =
    let d = laid e u h c (suc (suc (suc (suc q)))) r k in
    record { cells_are = rw (d.cells_are, d.false-is); false-is = d.false-is; end_is = d.end_is; false-around = d.false-around; end-around = d.end-around }
laid (call a e) u h c q r k =
    let d = laid e u h c (suc (suc q)) r k in
    record { cells_are = rw (d.cells_are, d.false-is); false-is = d.false-is; end_is = d.end_is; false-around = d.false-around; end-around = d.end-around }
laid (inner f e) u h c q r k =
    let d = laid e u h c (after_expr f q) r k in
    let g = laid f (suc u) q (false_exit e (after_expr f q)) q (emit e u h (after_expr f q) r) d.false-is in
    record {
      cells_are = rw (g.cells_are, d.cells_are);
      false-is = g.false-around (suc u) (omega arith) ∙ d.false-is;
      end_is = g.end-around (suc u) (omega arith) ∙ d.end_is;
      false-around = λ j i. g.false-around j (omega arith) ∙ d.false-around j i;
      end-around = λ j i. g.end-around j (omega arith) ∙ d.end-around j i;
    }
