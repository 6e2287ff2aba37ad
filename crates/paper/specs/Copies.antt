-- What the copy into the output requires.
use Rattle.std.specs.Prelude.{◌≡◌, true, List, ℕ, ◌+◌, ◌≤◌, ℤ, length}
use Rattle.language.specs.Limits.{store_cells}
use Rattle.operands.specs.Operands.{printable}

-- n cells of c from index `from` on are copied into the output o from index `to` on, and each is a byte of a print
pub record Copying (o : List ℕ) (to : ℕ) (c : List ℤ) (from n : ℕ) : Type 0 where
  pub room : to + n ≤ length o
  pub cells : from + n ≤ store_cells
  pub form : printable c from n ≡ true
