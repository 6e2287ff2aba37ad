-- `fill` meets its contract: settling the cells before place i gives what settling all the used cells from the start gives.
use Rattle.assembler.specs.Exits.{ahead, filled, nothing_ahead}
use Rattle.assembler.specs.declared.exits.Exits.{Exits}
use Rattle.emitter.specs.declared.pass.Draft.{Draft}
use Prim.Native.Nat.{ℕ}
use mathlib.Core.Path.{◌≡◌}
use Rattle.assembler.proofs.exits.fill.Given as goal

-- the draft d₀ with other cells
pub record Filling (d₀ : Draft) (i : ℕ) (d : Draft) (e : Exits) : Type 0 where
  pub same-but-cells : d ≡ record d₀ { cells = d.cells }
  pub same : (filled d₀.opens i (ahead d.cells e)).cells ≡ (filled d₀.opens d₀.used (nothing_ahead d₀.cells)).cells

abbrev pub invariant-loop-i : goal.invariant-loop-i
invariant-loop-i l = Filling l.fn.draft l.i l.draft l.exits
