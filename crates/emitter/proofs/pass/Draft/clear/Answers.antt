-- `clear` meets its contract.
use mathlib.Core.Path.{◌≡◌, ap, ◌∙◌}
use Prim.Native.Nat.{suc, ◌+◌, ◌-◌}
use native.Mathlib.Omega.{arith}
use Rattle.emitter.specs.Drafts.{cleared}
use Rattle.emitter.proofs.pass.Draft.clear.Goals as goal

pub loop-i-preserved : goal.loop-i-preserved
loop-i-preserved c =
    let l = c.loop-i in
    let m : suc (c.args.at + c.args.cells - (l.i + 1)) ≡ c.args.at + c.args.cells - l.i = omega (arith, c.loop-i-test.true) in
    ap (λ n. record l.self { opens = cleared l.self.opens l.i n }) m ∙ l.invariant
