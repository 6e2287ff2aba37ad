-- An accepted expression has formed numbers and a table of at most 250 cells.
use mathlib.Core.Path.{◌≡◌}
use Prim.Native.Nat.{ℕ, ◌≤◌}
use native.Mathlib.Omega.{arith}
use mathlib.Core.List.{List, []}
use Rattle.language.specs.Limits.{max_cells}
use Rattle.language.specs.Syntax.{Expr}
use Rattle.language.specs.Layout.{used_cells}
use Rattle.language.specs.Reading.{accepted, read}
use Rattle.language.specs.Grammar.{counters, Spells, Within}
use Rattle.language.proofs.GrammarFormed.{FormedExpr}
use Rattle.language.proofs.GrammarMarks.{expr-formed, spelled-marks}
use Rattle.language.proofs.Grammar.{reading-sound}

pub spelled-formed : (t : List ℕ) (w : Expr) → Spells t w → Within t w → FormedExpr w
spelled-formed t w s i =
    (expr-formed w [] 0 (counters w) (omega arith) i.counted (spelled-marks t w s)).0

pub accepted-formed : (t : List ℕ) (w : Expr) → read t ≡ accepted w → FormedExpr w
accepted-formed t w h = let k = reading-sound t w h in spelled-formed t w k.grammar k.limits

-- an accepted text has at most 250 cells
pub accepted-used : (t : List ℕ) (w : Expr) → read t ≡ accepted w → used_cells w ≤ max_cells
accepted-used t w h = (reading-sound t w h).limits.cells
