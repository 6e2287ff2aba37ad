-- `reach::follow` meets its contract.
use mathlib.Core.Path.{◌≡◌, refl, sym, ap, ◌∙◌}
use native.Mathlib.Omega.{arith}
use Rattle.reach.specs.Reach.{spread_by}
use Rattle.reach.specs.Rounds.{marks_of}
use Rattle.reach.proofs.Rounds.{equal, following-more, following-still, following-done}
use Rattle.reach.proofs.follow.Goals as goal

pub loop-n-init : goal.loop-n-init
unfolding spread_by
loop-n-init c = record { few = omega arith; reached = refl }

pub returns-then-eq : goal.returns-then-eq
returns-then-eq c =
    let same : c.spread-next.result ≡ c.loop-n.reached = equal _ _ (sym c.eq.ensures ∙ c.if-eq.true) in
    following-still _ _ _ _ c.loop-n.invariant _ c.spread-next.ensures (ap marks_of same)

pub loop-n-preserved : goal.loop-n-preserved
loop-n-preserved c = following-more _ _ _ _ c.loop-n.invariant _ (omega arith) c.spread-next.ensures

pub returns : goal.returns
returns c = following-done _ _ _ _ c.loop-n.invariant (omega arith)
