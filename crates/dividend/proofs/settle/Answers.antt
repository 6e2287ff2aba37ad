-- `dividend::settle` meets its contract.
use mathlib.Core.Path.{sym, ◌∙◌}
use native.Mathlib.Omega.{arith}
use Rattle.dividend.proofs.Laws.{rate-in, takeout-le, pays}
use Rattle.dividend.proofs.settle.Goals as goal

pub overflow_sub-net : goal.overflow_sub-net
overflow_sub-net c =
    let s = c.args in
    rw (c.takeout_of-takeout.ensures, c.from.ensures) (takeout-le _ _ (rate-in s.pool s.rate s.stakes (sym c.in_bounds.ensures ∙ c.if-not-in_bounds.false)))

pub returns : goal.returns
returns c =
    let a = c.args in
    rw (c.from.ensures, c.from-2.ensures)
    (pays a.pool a.rate a.stakes _ _ (sym c.in_bounds.ensures ∙ c.if-not-in_bounds.false) (omega arith) c.takeout_of-takeout.ensures (rw c.from.ensures at c.dividend_of-dividend.ensures))
