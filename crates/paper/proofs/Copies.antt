-- A print, of what was read.
use mathlib.Core.Path.{◌≡◌}
use mathlib.Core.List.{List}
use Prim.Native.Nat.{ℕ, ◌+◌, ◌≤◌}
use lib.IntN.{ℤ}
use Rattle.std.specs.Prelude.{Option}
use Rattle.language.specs.Limits.{max_cells}
use Rattle.language.specs.Syntax.{print}
use Rattle.language.specs.Machine.{code, operate_at, is_print, mark}
use Rattle.operands.specs.declared.cells.Code.{Code}
use Rattle.operands.specs.Operands.{table_in, prints_from, bytes_index, print_at}
use Rattle.operands.proofs.OperandsDecoding.{decoded_from, print-read}

-- o is the length that was read
pub print-due : (c : List ℤ) (p : Code) (q : ℕ) {o : Option ℕ} → p.end ≤ max_cells → o ≡ print_at c p q
    → mark (table_in c p) q is_print ≡ decoded_from o (λ n. code (operate_at (print (prints_from c (bytes_index p q) n)) (q + 2 + n)))
print-due c p q few read = rw read (print-read c p q few)
