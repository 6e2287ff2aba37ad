-- What the code reads in a cell of a table: what decoding makes of it, or nothing where the cell is damaged.
use Rattle.std.specs.Prelude.{Bool, true, false, cond, ◌&&◌, List, [], ◌∷◌, ℕ, zero, suc, ◌+◌, ◌-◌, ℤ, pos, negsuc, get_or, nat_abs, ltb, Option, Some, None, unwrap_or, option_map, option_and_then}
use Rattle.language.specs.declared.Table.{Table}
use Rattle.language.specs.Between.{between}
use Rattle.language.specs.Limits.{max_cells, max_counters, max_variables, max_limit}
use Rattle.language.specs.Syntax.{constant_code}
use Rattle.language.specs.Tokens.{print_byte}
use Rattle.language.specs.Layout.{code_start}
use Rattle.language.specs.Machine.{cell}
use Rattle.language.specs.Tables.{table_from}
use Rattle.operands.specs.declared.cells.Code.{Code}
use Rattle.operands.specs.declared.cells.Counter.{Counter}
use Rattle.operands.specs.declared.cells.Due.{Due}
use Rattle.operands.specs.declared.cells.Due.TheVariants.{Mark, Transfer, End}

-- the table whose place in the store's cells c is p
abbrev pub table_in : List ℤ → Code → Table
table_in c p = table_from c p.base p.end

-- ── a cell ──────────────────────────────────────────────────────────────────────────────────────

-- a number of 1 to m, which its cell holds negated
unfoldable pub negated_of : ℕ → ℤ → Option ℕ
negated_of m (pos n) = None
negated_of m (negsuc n) = cond (ltb n m) (Some (suc n)) None

-- a number within l to m
unfoldable pub bounded_of : ℕ → ℕ → ℤ → Option ℕ
bounded_of l m (pos n) = cond (between l m n) (Some n) None
bounded_of l m (negsuc n) = None

-- a cell's number within 2 to u
abbrev pub target_of : ℤ → ℕ → Option ℕ
target_of z u = bounded_of code_start u z

-- a counter's number
abbrev pub limit_of : ℤ → Option ℕ
limit_of z = negated_of max_limit z

-- a counter's order
abbrev pub order_of : ℤ → Option ℕ
order_of z = bounded_of 0 (max_counters - 1) z

-- whether it is a byte of a print
unfoldable pub holds_print_byte : ℤ → Bool
holds_print_byte (pos n) = print_byte n
holds_print_byte (negsuc n) = false

-- a mark's byte, of which a constant's code is the highest; a transfer; or neither
unfoldable pub byte_of : ℤ → Due
unfolding negated_of
byte_of (pos zero) = End
byte_of (pos (suc n)) = Transfer
byte_of (negsuc n) = unwrap_or (option_map Mark (negated_of constant_code (negsuc n))) End

-- ── the due cell of a table ─────────────────────────────────────────────────────────────────────

-- what it holds; neither a mark nor a transfer for the last two cells and for what is outside 2 to used
unfoldable pub byte_at : Table → ℕ → Due
unfolding byte_of
byte_at t q = cond (between code_start (t.used - 2) q) (byte_of (cell t q)) End

-- the second cell of a mark of two cells
unfoldable pub second_cell : Table → ℕ → Option ℤ
second_cell t q = cond (ltb t.used (q + 3)) None (Some (cell t (q + 1)))

-- the number within l to m that it holds
unfoldable pub second_at : ℕ → ℕ → Table → ℕ → Option ℕ
unfolding second_cell bounded_of
second_at l m t q = option_and_then (λ z. bounded_of l m z) (second_cell t q)

-- the false exit of a mark of two cells
abbrev pub exit_of : Table → ℕ → Option ℕ
exit_of t q = second_at code_start t.used t q

-- the digit of a variable, 1 to 10
abbrev pub digit_at : Table → ℕ → Option ℕ
digit_at t q = second_at 1 max_variables t q

-- a counter: its number, its order and its false exit
unfoldable pub counter_at : Table → ℕ → Option Counter
unfolding negated_of bounded_of
counter_at t q =
    cond (ltb t.used (q + 5)) None
    (option_and_then (λ n. option_and_then (λ k. option_map (λ f. record { limit = n; order = k; exit = f })
    (target_of (cell t (q + 3)) t.used)) (order_of (cell t (q + 2)))) (limit_of (cell t (q + 1))))

-- ── a print ─────────────────────────────────────────────────────────────────────────────────────

-- the n cells from index i on, as bytes
unfoldable pub prints_from : List ℤ → ℕ → ℕ → List ℕ
prints_from c i zero = []
prints_from c i (suc n) = nat_abs (get_or c i (pos 0)) ∷ prints_from c (suc i) n

-- whether each is a byte of a print
unfoldable pub printable : List ℤ → ℕ → ℕ → Bool
unfolding holds_print_byte
printable c i zero = true
printable c i (suc n) = holds_print_byte (get_or c i (pos 0)) && printable c (suc i) n

-- the index of the first byte of a print that is due
abbrev pub bytes_index : Code → ℕ → ℕ
bytes_index p q = p.base + q + 1

-- the length of a print whose bytes end before the last two cells and each have their form
unfoldable pub print_at : List ℤ → Code → ℕ → Option ℕ
unfolding second_at printable
print_at c p q =
    option_and_then (λ n. cond (ltb p.end (q + 3 + n)) None (cond (printable c (bytes_index p q) n) (Some n) None))
    (second_at 0 max_cells (table_in c p) q)
