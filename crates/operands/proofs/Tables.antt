-- A table in the store's cells.
use mathlib.Core.Path.{◌≡◌, sym, ap, ◌∙◌}
use mathlib.Core.List.{List}
use Prim.Native.Nat.{ℕ, zero, suc, ◌+◌, ◌<◌, ◌≤◌}
use native.Mathlib.Omega.{arith}
use mir.Syntax.{w32}
use mir.Val.{SFits, to_z, of_z}
use mir.Facts.{to_z-of_z}
use lib.IntN.{ℤ, pos}
use lib.ListN.{get_or}
use lib.Seq.{get_or-take, get_or-drop}
use Rattle.language.specs.Limits.{max_cells}
use Rattle.language.specs.Machine.{cell}
use Rattle.language.specs.Tables.{table_from}
use Rattle.operands.specs.declared.cells.Code.{Code}
use Rattle.operands.specs.Operands.{table_in}

-- cell q + 1 of a table
pub cell-next : (c : List ℤ) (base end q : ℕ) → q < max_cells → cell (table_from c base end) (suc q) ≡ get_or c (base + q) (pos 0)
cell-next c base end q h = rw (get_or-take, get_or-drop)

-- cell q of a table, which stands at index i of the store's cells
pub cell_at : (c : List ℤ) (base end q i : ℕ) → 0 < q → q ≤ max_cells → i + 1 ≡ base + q → cell (table_from c base end) q ≡ get_or c i (pos 0)
cell_at c base end zero i h k e = absurd (omega arith)
cell_at c base end (suc q) i h k e =
    let n : base + q ≡ i = omega arith in
    cell-next c base end q (omega arith) ∙ ap (λ (j : ℕ). get_or c j (pos 0)) n

-- the cell with the number n, of the table at this place, as a local holds it
pub cell_of : (c : List ℤ) (p : Code) (n i : ℕ) → SFits w32 (get_or c i (pos 0)) → 0 < n → n ≤ max_cells → i + 1 ≡ p.base + n
    → to_z w32 (of_z w32 (get_or c i (pos 0))) ≡ cell (table_in c p) n
cell_of c p n i f h k e = to_z-of_z f ∙ sym (cell_at c p.base p.end n i h k e)
