-- `reach::with_row` meets its contract.
use mathlib.Core.Path.{refl, sym}
use mathlib.Core.Bool.{false, ◌||◌}
use Prim.Native.Nat.{◌+◌}
use native.Mathlib.Omega.{arith}
use lib.ListN.{get_or}
use Rattle.reach.specs.Reach.{is_flagged}
use Rattle.reach.specs.Rounds.{with_row}
use Rattle.reach.proofs.Flags.{marked, flagging-more, flagging-done}
use Rattle.reach.proofs.with_row.Goals as goal

pub loop-b-preserved : goal.loop-b-preserved
loop-b-preserved c =
    flagging-more false (λ b. get_or c.args.reached b false || is_flagged c.args.calls.now (c.args.from + b)) _ _ _ c.loop-b.invariant (omega arith) refl

pub returns : goal.returns
unfolding with_row
returns c =
    let r = c.args.reached in
    let m = c.args.calls.now in
    flagging-done (λ b. get_or r b false || is_flagged m (c.args.from + b)) _ c.loop-b.next c.loop-b.b c.loop-b.invariant (omega arith)
    (λ b h. λ i. sym (marked r b) i || is_flagged m (c.args.from + b))
