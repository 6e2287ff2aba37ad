-- `reach::without_text` meets its contract.
use mathlib.Core.Path.{refl, sym}
use mathlib.Core.Bool.{false, ◌&&◌}
use native.Mathlib.Omega.{arith}
use lib.ListN.{get_or}
use lib.Dec.{eqb}
use Rattle.reach.specs.Reach.{missing_of}
use Rattle.reach.proofs.Flags.{marked, flagging-more, flagging-done, not-not}
use Rattle.reach.proofs.without_text.Goals as goal

pub loop-b-preserved : goal.loop-b-preserved
loop-b-preserved c =
    flagging-more false (λ b. get_or c.args.reached.now b false && eqb (get_or c.args.used.now b 0) 0) _ _ _ c.loop-b.invariant (omega arith) refl

pub returns : goal.returns
unfolding missing_of
returns c =
    let r = c.args.reached.now in
    let u = c.args.used.now in
    flagging-done (λ b. get_or r b false && eqb (get_or u b 0) 0) _ c.loop-b.missing c.loop-b.b c.loop-b.invariant (omega arith)
    (λ b h. λ i. sym (marked r b) i && not-not (eqb (get_or u b 0) 0) i)
