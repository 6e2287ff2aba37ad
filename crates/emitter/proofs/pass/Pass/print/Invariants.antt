-- `print` meets its contract: the cells that the rest of the bytes add to those so far are the cells that all of them add at the start.
use Rattle.emitter.specs.Drafts.{draft_at, pass_lay, known_bytes}
use Rattle.emitter.specs.declared.pass.Draft.{Draft}
use Rattle.emitter.specs.declared.pass.Pass.{Pass}
use lib.ListN.{drop}
use Prim.Native.Nat.{ℕ, ◌+◌}
use mathlib.Core.List.{List}
use mathlib.Core.Path.{◌≡◌}
use Rattle.emitter.proofs.pass.Pass.print.Given as goal

-- after i bytes
pub record Printing (bytes : List ℕ) (d₀ : Draft) (p₀ : Pass) (i : ℕ) (d : Draft) (p : Pass) : Type 0 where
  pub used-kept : d.used ≡ d₀.used
  pub level-kept : d.level ≡ d₀.level
  pub used-is : p.used ≡ p₀.used + i
  pub same : pass_lay (draft_at d p) (known_bytes (drop i bytes)) ≡ pass_lay (draft_at d₀ p₀) (known_bytes bytes)

abbrev pub invariant-loop-i : goal.invariant-loop-i
invariant-loop-i l = Printing l.bytes l.initial.draft l.initial.self l.i l.draft l.self
