-- `lent::withdraw` meets its contract.
use mathlib.Core.Path.{◌≡◌}
use Rattle.std.specs.Prelude.{Err}
use borrow.Author.Rules.{rules}
use Rattle.book.specs.Store.{Store, store_of}
use Rattle.lent.proofs.LentCalls.{withdraw-refused, withdraw-accepted}
use Rattle.lent.proofs.withdraw.Goals as goal

pub returns-in_err-text : goal.returns-in_err-text
returns-in_err-text c =
    let a = c.args in
    let st : Store = store_of a.cells.now a.used.now a.permissions.now a.vars.now in
    let e : c.from_residual.result ≡ Err c.in_err-text.field-0.0 = search rules in
    rw e (withdraw-refused st a.letter _ (c.in_err-text.ensures.decides a.cells.now))

pub returns : goal.returns
returns c =
    let a = c.args in
    let st : Store = store_of a.cells.now a.used.now a.permissions.now a.vars.now in
    withdraw-accepted st a.letter _ (c.in_ok-text.ensures.decides a.cells.now) (rw (c.index-k.ensures, c.fresh.ensures) at (c.put.ensures a.vars.now))
