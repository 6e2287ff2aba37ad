-- `withdrawal::session` meets its contract: the contracts of its calls, chained by demand 3.
use mir.Syntax.{w32}
use mir.Val.{to_z, of_z}
use Rattle.withdrawal.proofs.Figures.{shown}
use Rattle.withdrawal.proofs.session.Goals as goal

pub returns : goal.returns
returns c =
    let e =
    shown _ c.define-p.result _ _ _ _ _ _ _ _ _ _ _ c.fresh.ensures
    (c.define-p.ensures, (c.define-q.ensures, (c.run-first.ensures, (c.withdraw-x.ensures, (c.run-second.ensures, (c.run-third.ensures, tt)))))) in
    λ i. record { before = (e i).before; paid = to_z w32 (of_z w32 (e i).paid); after = (e i).after; withdrawn = (e i).withdrawn }
