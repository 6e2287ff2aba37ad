-- `marks::mark_end` meets its contract.
use mathlib.Core.Path.{sym}
use native.Mathlib.Omega.{arith}
use Rattle.operands.proofs.Operands.{print-good}
use Rattle.marks.proofs.mark_end.Goals as goal

pub overflow_add-result-in-Bytes-2 : goal.overflow_add-result-in-Bytes-2
overflow_add-result-in-Bytes-2 c = omega (arith, (print-good _ _ _ _ (sym c.in_ok-n-in-Bytes.ensures)).early)
