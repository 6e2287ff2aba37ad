-- What the code reads of an instruction, and what it ticks.
use Rattle.std.specs.Prelude.{◌≡◌, ℕ, ◌+◌, ◌*◌, ◌≤◌, Bool, cond, List, [], ◌∷◌, ℤ, set, Option, Some, None, option_map, option_and_then}
use Rattle.language.specs.declared.Table.{Table}
use Rattle.language.specs.Limits.{max_letters}
use Rattle.language.specs.Letters.{is_letter, letter_index}
use Rattle.language.specs.Values.{is_value}
use Rattle.language.specs.Machine.{Decoded, last, damaged, code, Kind, is_constant, is_print, is_counter, is_none, is_operator, is_variable, is_condition, is_call, kind}
use Rattle.operands.specs.declared.cells.Code.{Code}
use Rattle.operands.specs.declared.cells.Due.{Due}
use Rattle.operands.specs.declared.cells.Due.TheVariants.{Mark, Transfer, End}
use Rattle.operands.specs.Operands.{table_in, byte_at, second_cell, digit_at, exit_of, counter_at, print_at}
use Rattle.operands.specs.Ready.{Placed, Inside}
use Rattle.marks.specs.declared.Format.{Format}
use Rattle.marks.specs.declared.Format.TheVariants.{Bare, Digit, Value, Exit, Counter, Bytes, NoCode}
use Rattle.marks.specs.Marks.{next_cell, marks, undamaged, calls_in}

-- ── formats ─────────────────────────────────────────────────────────────────────────────────────

-- the format of a mark's cells
abbrev pub format_of_kind : Kind → Format
format_of_kind (is_operator o) = Bare
format_of_kind (is_variable a) = Digit
format_of_kind is_constant = Value
format_of_kind (is_condition c) = Exit
format_of_kind (is_call a) = Exit
format_of_kind is_counter = Counter
format_of_kind is_print = Bytes
format_of_kind is_none = NoCode

-- the format of the mark that a byte stands for
unfoldable pub format_of : ℕ → Format
unfolding kind
format_of b = format_of_kind (kind b)

-- the cell after the mark of this format at cell q, of what stands in its cells
unfoldable pub mark_end : List ℤ → Code → ℕ → Format → Option ℕ
mark_end c p q Bare = Some (q + 1)
mark_end c p q Digit = option_map (λ _. q + 2) (digit_at (table_in c p) q)
mark_end c p q Value = option_and_then (λ z. cond (is_value z) (Some (q + 2)) None) (second_cell (table_in c p) q)
mark_end c p q Exit = option_map (λ _. q + 2) (exit_of (table_in c p) q)
mark_end c p q Counter = option_map (λ _. q + 4) (counter_at (table_in c p) q)
mark_end c p q Bytes = option_map (λ n. q + 2 + n) (print_at c p q)
mark_end c p q NoCode = None

-- the cell after the code at cell q, where it decodes so
abbrev pub end_of : Decoded → ℕ → Option ℕ
end_of last q = None
end_of damaged q = None
end_of (code i) q = Some (next_cell i q)

-- the due cell stands before the last two, and holds d
pub record Found (c : List ℤ) (p : Code) (at : ℕ) (d : Due) : Type 0 where
  pub inside : Inside p at
  pub byte : d ≡ byte_at (table_in c p) at

-- ── calls ───────────────────────────────────────────────────────────────────────────────────────

-- the letter whose byte this is, if it is one, and then r
abbrev pub called_as : ℕ → List ℕ → List ℕ
called_as b r = cond (is_letter b) (letter_index b ∷ r) r

-- the letter that a cell calls which holds this, if it does, and then r
abbrev pub called_of : Due → List ℕ → List ℕ
called_of (Mark b) r = called_as b r
called_of Transfer r = r
called_of End r = r

-- these letters ticked in a row of 26 places that starts at place `from`
abbrev pub ticked : List ℕ → ℕ → List ℕ → List ℕ
ticked m from [] = m
ticked m from (a ∷ l) = ticked (set m (from + a) 1) from l

-- the places of the calls of all letters by all letters
abbrev pub call_places : ℕ
call_places = max_letters * max_letters

-- the row lies within them
abbrev pub Row : ℕ → Type 0
Row from = from + max_letters ≤ call_places

-- a table of 3 to 250 cells stands at this place in the store's cells, and its row lies within the places
pub record Standing (p : Code) (from : ℕ) : Type 0 where
  pub placed : Placed p
  pub low : 3 ≤ p.end
  pub row : Row from

-- a table was read: whether it is undamaged, and the letters that it calls ticked
pub record Reads (t : Table) (before : List ℕ) (from : ℕ) (r : Bool) (after : List ℕ) : Type 0 where
  pub sound : r ≡ undamaged (marks t)
  pub calls : after ≡ ticked before from (calls_in (marks t))
