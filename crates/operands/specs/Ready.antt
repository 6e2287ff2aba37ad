-- What the instructions require of the machine's numbers, the table and the buffers.
use Rattle.std.specs.Prelude.{◌≡◌, List, ℕ, ◌+◌, ◌≤◌, ◌<◌, ℤ, length}
use Rattle.language.specs.Limits.{max_letters, max_cells, max_height, max_calls, store_cells}
use Rattle.language.specs.Layout.{code_start}
use Rattle.operands.specs.declared.Machine.{Machine}
use Rattle.operands.specs.declared.Frame.{Frame}
use Rattle.operands.specs.declared.cells.Code.{Code}
use Rattle.operands.specs.declared.cells.Due.TheVariants.{Transfer, End}
use Rattle.operands.specs.Operands.{table_in, byte_at}

-- ── the table ───────────────────────────────────────────────────────────────────────────────────

-- a table stands at this place in the store's cells, and its used-cell count is one of a table
pub record Placed (p : Code) : Type 0 where
  pub cells : p.base + max_cells ≤ store_cells
  pub used : p.end ≤ max_cells

-- and the due cell stands before the last two
pub record Inside (p : Code) (at : ℕ) : Type 0 where
  pub placed : Placed p
  pub first : code_start ≤ at
  pub early : at + 2 ≤ p.end

-- ── instructions ────────────────────────────────────────────────────────────────────────────────

-- an operator is due
pub record Ready (m : Machine) : Type 0 where
  pub height : m.height ≤ max_height
  pub cell : m.at ≤ max_cells

-- a step is left, with n values or more on the stack
pub record Due (n : ℕ) (m : Machine) : Type 0 where
  pub values : n ≤ m.height
  pub height : m.height ≤ max_height
  pub cell : m.at ≤ max_cells
  pub step : 0 < m.left

-- a step is left for a push
pub record Pushing (m : Machine) : Type 0 where
  pub height : m.height ≤ max_height
  pub step : 0 < m.left

-- a mark with cells of its own is due
pub record Reading (p : Code) (m : Machine) : Type 0 where
  pub inside : Inside p m.at
  pub height : m.height ≤ max_height
  pub letter : m.letter < max_letters

-- a mark that writes is due
pub record Writing (m : Machine) (o : List ℕ) : Type 0 where
  pub height : m.height ≤ max_height
  pub cell : m.at ≤ max_cells
  pub written : m.written ≤ length o

-- a print is due
pub record Printing (p : Code) (m : Machine) (o : List ℕ) : Type 0 where
  pub inside : Inside p m.at
  pub written : m.written ≤ length o

-- ── calls and transfers ─────────────────────────────────────────────────────────────────────────

-- the call of letter a is due
pub record Calling (p : Code) (m : Machine) (a : ℕ) (frames : List Frame) : Type 0 where
  pub inside : Inside p m.at
  pub depth : m.depth ≤ max_calls
  pub caller : m.letter < max_letters
  pub letter : a < max_letters
  pub size : length frames ≡ max_calls

-- a transfer is due
pub record Transferring (c : List ℤ) (p : Code) (m : Machine) : Type 0 where
  pub inside : Inside p m.at
  pub byte : byte_at (table_in c p) m.at ≡ Transfer

-- what is neither a mark nor a transfer is due
pub record Closing (c : List ℤ) (p : Code) (m : Machine) : Type 0 where
  pub placed : Placed p
  pub depth : m.depth ≤ max_calls
  pub byte : byte_at (table_in c p) m.at ≡ End

-- the code of a letter ends
pub record Leaving (m : Machine) : Type 0 where
  pub depth : m.depth ≤ max_calls
