-- The code table of an expression, cell by cell.
use Rattle.std.specs.Prelude.{ℕ, zero, suc, ◌-◌, List, [], ◌∷◌, ℤ, pos, neg_ℤ, length, replicate}
use Rattle.std.proofs.Math.Option.{Option, none, some}
use Rattle.language.specs.declared.Table.{Table}
use Rattle.language.specs.Limits.{max_cells}
use Rattle.language.specs.Letters.{letter_byte}
use Rattle.language.specs.Syntax.{operator_byte, access_byte, condition_byte, counter_code, constant_code, print_code}
use Rattle.language.specs.Syntax.{Operation, operator, variable, constant, print}
use Rattle.language.specs.Syntax.{Predicate, condition, counter, Expr, close, semi, colon, operate, test, call, inner}

-- ── positions ───────────────────────────────────────────────────────────────────────────────────

-- n cells on from cell q
abbrev pub forward : ℕ → ℕ → ℕ
forward zero q = q
forward (suc n) q = forward n (suc q)

-- the cell after a mark whose first cell is q
abbrev pub after_operation : Operation → ℕ → ℕ
after_operation (operator o) q = suc q
after_operation (variable a k) q = suc (suc q)
after_operation (constant v) q = suc (suc q)
after_operation (print b) q = forward (length b) (suc (suc q))

-- the cell after a predicate
abbrev pub after_predicate : Predicate → ℕ → ℕ
after_predicate (condition c) q = suc (suc q)
after_predicate (counter m k) q = suc (suc (suc (suc q)))

-- the cell after a call
abbrev pub after_call : ℕ → ℕ
after_call q = suc (suc q)

-- the cell after the `)` cell of an expression whose rest e starts at cell q; "`(` makes no cell"
abbrev pub after_expr : Expr → ℕ → ℕ
after_expr close q = suc q
after_expr (semi e) q = after_expr e (suc q)
after_expr (colon e) q = after_expr e (suc q)
after_expr (operate o e) q = after_expr e (after_operation o q)
after_expr (test p e) q = after_expr e (after_predicate p q)
after_expr (call a e) q = after_expr e (after_call q)
after_expr (inner f e) q = after_expr e (after_expr f q)

-- The false exit, document 01's "false", of a predicate before e, which starts at cell q. "A false is the cell after the next separator of the
-- same expression. With no separator left, it is the cell after that expression's `)` cell; for the outermost this is the last cell."
abbrev pub false_exit : Expr → ℕ → ℕ
false_exit close q = suc q
false_exit (semi e) q = suc q
false_exit (colon e) q = suc q
false_exit (operate o e) q = false_exit e (after_operation o q)
false_exit (test p e) q = false_exit e (after_predicate p q)
false_exit (call a e) q = false_exit e (after_call q)
false_exit (inner f e) q = false_exit e (after_expr f q)

-- ── cells ───────────────────────────────────────────────────────────────────────────────────────

-- "A mark's code is minus its byte"
abbrev pub opcode : ℕ → ℤ
opcode b = neg_ℤ (pos b)

-- the cells of bytes, and then r
abbrev pub byte_cells : List ℕ → List ℤ → List ℤ
byte_cells [] r = r
byte_cells (b ∷ l) r = pos b ∷ byte_cells l r

-- A mark's cells, and then r. "for a constant it is -175 and for a print -167". A print's cells: "code, length, bytes".
abbrev pub operation_cells : Operation → List ℤ → List ℤ
operation_cells (operator o) r = opcode (operator_byte o) ∷ r
operation_cells (variable a k) r = opcode (access_byte a) ∷ pos k ∷ r
operation_cells (constant v) r = opcode constant_code ∷ v ∷ r
operation_cells (print b) r = opcode print_code ∷ pos (length b) ∷ byte_cells b r

-- a predicate's cells with its false exit f; a counter's: "-36, -n, its order in the text from 0, false"
abbrev pub predicate_cells : Predicate → ℕ → List ℤ → List ℤ
predicate_cells (condition c) f r = opcode (condition_byte c) ∷ pos f ∷ r
predicate_cells (counter m k) f r = opcode counter_code ∷ opcode (suc m) ∷ pos k ∷ pos f ∷ r

-- The cells of e, which starts at cell q, and then r. The first cell of its expression is h ("the cell after its `(`"), the cell after its `)`
-- cell is x ("the cell after its expression's `)` cell"), and its `)` cell holds c ("the enclosing expression's false").
abbrev pub expr_cells : Expr → ℕ → ℕ → ℕ → ℕ → List ℤ → List ℤ
expr_cells close h x c q r = pos c ∷ r
expr_cells (semi e) h x c q r = pos x ∷ expr_cells e h x c (suc q) r
expr_cells (colon e) h x c q r = pos h ∷ expr_cells e h x c (suc q) r
expr_cells (operate o e) h x c q r = operation_cells o (expr_cells e h x c (after_operation o q) r)
expr_cells (test p e) h x c q r = predicate_cells p (false_exit e (after_predicate p q)) (expr_cells e h x c (after_predicate p q) r)
expr_cells (call a e) h x c q r = opcode (letter_byte a) ∷ pos (false_exit e (after_call q)) ∷ expr_cells e h x c (after_call q) r
expr_cells (inner f e) h x c q r =
    expr_cells f q (after_expr f q) (false_exit e (after_expr f q)) q (expr_cells e h x c (after_expr f q) r)

-- ── tables ──────────────────────────────────────────────────────────────────────────────────────

-- "Cell 1 holds 2000": what every table begins with
abbrev pub first_cell : ℕ
first_cell = 2000

-- "Code starts at cell 2."
abbrev pub code_start : ℕ
code_start = 2

-- the used-cell count of a text: "last `)`: 0, then a last cell holding 1"
abbrev pub used_cells : Expr → ℕ
used_cells w = after_expr w code_start

-- "Cell 1 holds 2000 and no run reads it. Code starts at cell 2." "The other cells of the letter's 250 are 0."
abbrev pub layout : Expr → Table
layout w =
    record {
      used = used_cells w;
      cells = pos first_cell ∷ expr_cells w code_start (used_cells w) 0 code_start (pos 1 ∷ replicate (max_cells - used_cells w) (pos 0));
    }

-- "Withdraw clears it to 0." "a cleared letter is one whose count is 0"
abbrev pub cleared : Table
cleared = record { used = 0; cells = replicate max_cells (pos 0) }

-- the table of a text, or of a cleared letter
abbrev pub table_of : Option Expr → Table
table_of none = cleared
table_of (some w) = layout w
