-- The limits of document 01, as amended by document 02. Those of a table are also the associated constants of `Table` in src/lib.rt.
use Rattle.std.specs.Prelude.{ℕ, ◌*◌}

-- "A text has at most 256 bytes."
abbrev pub max_text : ℕ
max_text = 256

-- "Parentheses nest to 10 levels, the outermost being level 1." `Table::LEVELS`
abbrev pub max_levels : ℕ
max_levels = 10

-- "At most 16 counters." `Table::COUNTERS`
abbrev pub max_counters : ℕ
max_counters = 16

-- "Cells are numbered from 1, at most 250 for a letter" `Table::CELLS`
abbrev pub max_cells : ℕ
max_cells = 250

-- "Calls nest to 100, the run's own letter not counted." `Table::CALLS`
abbrev pub max_calls : ℕ
max_calls = 100

-- "The list starts empty and holds 64."
abbrev pub max_height : ℕ
max_height = 64

-- a counter's number: "1 to 4 digits", "an n outside 1 to 9999"
abbrev pub max_limit : ℕ
max_limit = 9999

-- "Values lie in ±999,999,999."
abbrev pub max_value : ℕ
max_value = 999999999

-- "A store holds 26 letters' tables with their used-cell counts, and ten variables"
abbrev pub max_letters : ℕ
max_letters = 26

-- "ten variables"
abbrev pub max_variables : ℕ
max_variables = 10

-- the cells of all letters' tables
abbrev pub store_cells : ℕ
store_cells = max_letters * max_cells

-- the counts of all letters' counters
abbrev pub store_counts : ℕ
store_counts = max_letters * max_counters

-- Document 02, U6: "right-justified in 14 columns" `WRITE_WIDTH`
abbrev pub write_width : ℕ
write_width = 14
