-- `lent::define` meets its contract.
use mathlib.Core.Path.{◌≡◌}
use Rattle.std.specs.Prelude.{Err}
use borrow.Author.Rules.{rules}
use Rattle.book.specs.declared.Refusal.TheVariants.{BadText}
use Rattle.book.specs.Store.{Store, store_of}
use Rattle.lent.proofs.LentCalls.{define-refused, text-faulty, text-accepted}
use Rattle.lent.proofs.define.Goals as goal

pub returns-in_err-define : goal.returns-in_err-define
returns-in_err-define c =
    let a = c.args in
    let st : Store = store_of a.cells.now a.used.now a.permissions.now a.vars.now in
    let e : c.from_residual.result ≡ Err c.in_err-define.field-0.0 = search rules in
    rw e (define-refused st a.letter a.permission a.text.now _ (c.in_err-define.ensures.decides a.cells.now))

pub returns-in_err-put_text : goal.returns-in_err-put_text
returns-in_err-put_text c =
    let a = c.args in
    let e : c.from_residual-in_err-put_text.result ≡ Err (BadText c.in_err-put_text.field-0.0) = search rules in
    rw e (text-faulty a.cells.now a.used.now a.permissions.now a.vars.now a.letter a.permission a.text.now (c.in_ok-define.ensures.decides a.cells.now)
    _ _ _ _ (rw c.index-k.ensures at c.in_err-put_text.ensures))

pub returns : goal.returns
returns c =
    let a = c.args in
    text-accepted a.cells.now a.used.now a.permissions.now a.vars.now a.letter a.permission a.text.now (c.in_ok-define.ensures.decides a.cells.now)
    _ _ _ (rw c.index-k.ensures at c.in_ok-put_text.ensures)
