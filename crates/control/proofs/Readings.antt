-- A cell, as the code reads it: x is what it holds.
use mathlib.Core.Path.{◌≡◌, sym, ap, ◌∙◌}
use mathlib.Core.List.{List}
use Prim.Native.Nat.{ℕ}
use lib.IntN.{ℤ}
use mir.Syntax.{w32}
use mir.Val.{SFits, to_z, of_z}
use mir.Facts.{to_z-of_z}
use Rattle.std.specs.Prelude.{Option}
use Rattle.language.specs.Machine.{code, transfer, cell, decode}
use Rattle.operands.specs.declared.cells.Code.{Code}
use Rattle.operands.specs.declared.cells.Due.TheVariants.{Transfer}
use Rattle.operands.specs.Operands.{table_in, byte_at, target_of}
use Rattle.operands.proofs.OperandsDecoding.{decoded_from, transfer-decoded}

-- a number that it is tested for
pub holds : {x z : ℤ} (n : ℕ) → x ≡ z → SFits w32 x → of_z w32 x ≡ n → z ≡ to_z w32 n
holds n is fits e = sym is ∙ sym (to_z-of_z fits) ∙ ap (to_z w32) e

-- a transfer, and o is its target
pub transfer-read : (c : List ℤ) (p : Code) (q : ℕ) {x : ℤ} {o : Option ℕ}
    → byte_at (table_in c p) q ≡ Transfer → x ≡ cell (table_in c p) q → SFits w32 x → o ≡ target_of (to_z w32 (of_z w32 x)) p.end
    → decode (table_in c p) q ≡ decoded_from o (λ n. code (transfer n))
transfer-read c p q byte is fits aim =
    let e = to_z-of_z fits ∙ is in
    rw (aim, e, transfer-decoded (table_in c p) q byte)
