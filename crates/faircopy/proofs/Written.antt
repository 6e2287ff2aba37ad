-- No byte written.
use mathlib.Core.Path.{◌≡◌, ap, ◌∙◌}
use mathlib.Core.List.{List, []}
use Prim.Native.Nat.{ℕ, ◌+◌, ◌≤◌}
use native.Mathlib.Omega.{arith}
use lib.ListN.{length}
use Rattle.language.proofs.Copies.{pasting-none}
use Rattle.numerals.specs.Numerals.{wrote, written}
use Rattle.numerals.proofs.Numerals.{pasted}

-- no bytes
pub nothing_written : (o : List ℕ) (at : ℕ) → at + 0 ≤ length o → wrote at o ≡ written o at []
nothing_written o at h = let e : at ≡ at + 0 = omega arith in ap (λ (n : ℕ). wrote n o) e ∙ pasted o at [] o 0 (pasting-none o at [] 0 h (omega arith)) (omega arith)
