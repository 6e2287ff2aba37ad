-- `clear` meets its contract: clearing the cells that are left clears all of them.
use Prim.Native.Nat.{◌+◌, ◌-◌}
use mathlib.Core.Path.{◌≡◌}
use Rattle.emitter.specs.Drafts.{cleared}
use Rattle.emitter.proofs.pass.Draft.clear.Given as goal

abbrev pub invariant-loop-i : goal.invariant-loop-i
invariant-loop-i l =
    record l.self { opens = cleared l.self.opens l.i (l.at + l.cells - l.i) } ≡ record l.fn.self { opens = cleared l.fn.self.opens l.at l.cells }
