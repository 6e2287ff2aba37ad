-- The second pass: false exits and ends of expressions, from the last cell back.
use Rattle.std.specs.Prelude.{ℕ, zero, suc, ◌+◌, ◌≤◌, ◌<◌, List, get_or, set, replicate, ℤ, pos}
use Rattle.language.specs.Limits.{max_cells, max_levels}
use Rattle.emitter.specs.declared.pass.Open.{Open}
use Rattle.emitter.specs.declared.pass.Open.TheVariants.{Known, Exit, End, Close, Colon}
use Rattle.emitter.specs.declared.pass.Draft.{Draft}
use Rattle.emitter.specs.Drafts.{level_places}
use Rattle.assembler.specs.declared.exits.Exits.{Exits}

-- The cells, and for each level its false exit and the cell after its `)` cell, as they are ahead of a cell.
pub record Ahead : Type 0 where
  pub cells : List ℤ
  pub falses : List ℤ
  pub ends : List ℤ

-- the cells and the code's exits together
abbrev pub ahead : List ℤ → Exits → Ahead
ahead c e = record { cells = c; falses = e.falses; ends = e.ends }

-- The cell at place i (cell 1 is at 0), in which this waits: a false exit, the end of an expression at its `;`, the false exit of the expression around at
-- its `)`, of the level around, or nothing at a `:`. A cell that is known stands.
unfoldable pub settled : Ahead → ℕ → Open → Ahead
settled a i Known = a
settled a i (Exit v) = record a { cells = set a.cells i (get_or a.falses v (pos 0)) }
settled a i (End v) = record a { cells = set a.cells i (get_or a.ends v (pos 0)); falses = set a.falses v (pos (i + 2)) }
settled a i (Close v) =
    record {
      cells = set a.cells i (get_or a.falses v (pos 0));
      falses = set a.falses (v + 1) (pos (i + 2));
      ends = set a.ends (v + 1) (pos (i + 2));
    }
settled a i (Colon v) = record a { falses = set a.falses v (pos (i + 2)) }

-- the first n cells, from the last of them back
unfoldable pub filled : List Open → ℕ → Ahead → Ahead
filled os zero a = a
filled os (suc i) a = filled os i (settled a i (get_or os i Known))

-- no exit and no end is known yet
abbrev pub nothing_ahead : List ℤ → Ahead
nothing_ahead c = record { cells = c; falses = replicate level_places (pos 0); ends = replicate level_places (pos 0) }

-- a draft once all its used cells are settled
unfoldable pub linked : Draft → Draft
unfolding filled
linked d = record d { cells = (filled d.opens d.used (nothing_ahead d.cells)).cells }

-- ── what the code's functions need ──────────────────────────────────────────────────────────────

-- the level at which something is open in a cell
abbrev pub level_of : Open → ℕ
level_of Known = 0
level_of (Exit v) = v
level_of (End v) = v
level_of (Close v) = v
level_of (Colon v) = v

-- place i is a cell's, and its level is one
pub record Settleable (i : ℕ) (o : Open) : Type 0 where
  pub inside : i < max_cells
  pub shallow : level_of o ≤ max_levels

-- so many cells are used, and each cell's level is one
pub record Fillable (d : Draft) : Type 0 where
  pub small : d.used ≤ max_cells
  pub shallow : (k : ℕ) → level_of (get_or d.opens k Known) ≤ max_levels
