-- Accepted texts: their tables decode to them, and a run over their tables is their nested meaning.
use mathlib.Core.Path.{◌≡◌, refl, sym, ap, subst}
use Prim.Native.Nat.{ℕ, suc, ◌+◌, ◌-◌, ◌≤◌}
use native.Mathlib.Omega.{arith}
use mathlib.Core.Bool.{true, not}
use mathlib.Core.Option.{Option, none, some}
use mathlib.Core.List.{List, [], ◌∷◌}
use lib.IntN.{ℤ, pos}
use lib.ListN.{length, replicate, length-replicate}
use lib.Dec.{eqb}
use borrow.Author.Tests.{ne_eqb}
use Rattle.language.specs.declared.Table.{Table}
use Rattle.language.specs.Limits.{max_cells}
use Rattle.language.specs.Roles.{permission_at}
use Rattle.language.specs.Syntax.{Operation, operator, variable, constant, print, Predicate, condition, counter}
use Rattle.language.specs.Syntax.{Expr, close, semi, colon, operate, test, call, inner}
use Rattle.language.specs.Layout.{after_operation, after_predicate, after_call, after_expr, false_exit, byte_cells, operation_cells, predicate_cells, expr_cells, used_cells, layout}
use Rattle.language.specs.Machine.{last, decode}
use Rattle.language.specs.Tables.{table_at, decode_at, stands_at, execute}
use Rattle.language.specs.Statements.{outermost, Decodes, LayoutDecodes, Holds, MachineMeaning}
use Rattle.language.proofs.LayoutPositions.{forward-add, after-lt}
use Rattle.language.proofs.ReadingAccepted.{accepted-formed, accepted-used}
use Rattle.language.proofs.LayoutDecoding.{formed-decodes, formed-zeros}
use Rattle.language.proofs.MachineSimulation.{Stands, run-meaning}

-- ── the length of a table ───────────────────────────────────────────────────────────────────────

length-bytes : (b : List ℕ) (r : List ℤ) → length (byte_cells b r) ≡ length b + length r
length-bytes [] r = omega arith
length-bytes (x ∷ b) r = let h = length-bytes b r in omega arith

length-operation : (o : Operation) (q : ℕ) (r : List ℤ) → length (operation_cells o r) + q ≡ after_operation o q + length r
length-operation (operator o) q r = omega arith
length-operation (variable a k) q r = omega arith
length-operation (constant v) q r = omega arith
length-operation (print b) q r =
    let h = length-bytes b r in
    let k = forward-add (length b) (suc (suc q)) in
    omega arith

length-predicate : (p : Predicate) (f q : ℕ) (r : List ℤ) → length (predicate_cells p f r) + q ≡ after_predicate p q + length r
length-predicate (condition c) f q r = omega arith
length-predicate (counter m k) f q r = omega arith

-- an expression's cells go from q to the cell before after_expr
length-expr : (e : Expr) (h x c q : ℕ) (r : List ℤ) → length (expr_cells e h x c q r) + q ≡ after_expr e q + length r
length-expr close h x c q r = omega arith
length-expr (semi e) h x c q r = let i = length-expr e h x c (suc q) r in omega arith
length-expr (colon e) h x c q r = let i = length-expr e h x c (suc q) r in omega arith
length-expr (operate o e) h x c q r =
    let i = length-expr e h x c (after_operation o q) r in
    let j = length-operation o q (expr_cells e h x c (after_operation o q) r) in
    omega arith
length-expr (test p e) h x c q r =
    let i = length-expr e h x c (after_predicate p q) r in
    let j = length-predicate p (false_exit e (after_predicate p q)) q (expr_cells e h x c (after_predicate p q) r) in
    omega arith
length-expr (call a e) h x c q r = let i = length-expr e h x c (after_call q) r in omega arith
length-expr (inner f e) h x c q r =
    let i = length-expr e h x c (after_expr f q) r in
    let j = length-expr f q (after_expr f q) (false_exit e (after_expr f q)) q (expr_cells e h x c (after_expr f q) r) in
    omega arith

-- a layout fills 250 cells
pub length-layout : (w : Expr) → used_cells w ≤ max_cells → length (layout w).cells ≡ max_cells
length-layout w le =
    let i = length-expr w 2 (used_cells w) 0 2 (pos 1 ∷ replicate (max_cells - used_cells w) (pos 0)) in
    let j = length-replicate (max_cells - used_cells w) (pos 0) in
    omega arith

-- ── accepted texts ──────────────────────────────────────────────────────────────────────────────

-- every expression has 3 cells or more
pub used-least : (w : Expr) → 3 ≤ used_cells w
used-least w = after-lt w 2

pub layout-decodes : LayoutDecodes
layout-decodes t w e =
    let u = accepted-used t w e in
    let g = accepted-formed t w e in
    let d = formed-decodes w g in
    record { least = used-least w; most = u; whole = length-layout w u; first = refl; decodes = d.0; ends = d.1; zeros = formed-zeros w g }

-- what the simulation asks of a letter
pub stored-stands : (c : List ℤ) (u : List ℕ) (a : ℕ) (x : Option Expr) → Holds (table_at c u a) x → Stands (decode_at c u) (stands_at u) a x
stored-stands c u a none h = ap (λ n. not (eqb n 0)) h
stored-stands c u a (some w) h =
    let p = used-least w in
    let d = formed-decodes w (accepted-formed h.text w h.reads) in
    subst (λ (t : Table). (not (eqb t.used 0) ≡ true) × Decodes (decode t) w 2 (used_cells w) outermost 2 × (decode t (used_cells w) ≡ last)) (sym h.table)
    (ap not (ne_eqb (used_cells w) 0 (omega arith)), d.0, d.1)

-- Over the tables of standing texts the machine gives what the meaning gives.
pub machine-meaning : MachineMeaning
unfolding execute
machine-meaning texts c u k r h a w e n g s lt =
    sym (run-meaning texts (permission_at k) r (decode_at c u) (stands_at u) (λ b. stored-stands c u b (texts b) (h b)) g a w s n e lt)
