-- `reach::reach` meets its contract.
use mathlib.Core.Path.{◌≡◌, refl, sym, ap, ◌∙◌}
use Rattle.std.specs.Prelude.{Err}
use borrow.Author.Rules.{rules}
use Rattle.language.proofs.Letters.{letter-lt}
use Rattle.book.specs.Store.{Store, store_of}
use Rattle.reach.specs.declared.ReachError.TheVariants.{Refused}
use Rattle.reach.specs.Reach.{missing_of, reports}
use Rattle.reach.proofs.Answers.{refused, damaged, reported, counted, readable-tables, followed}
use Rattle.reach.proofs.reach.Goals as goal

pub returns-in_err-text : goal.returns-in_err-text
returns-in_err-text c =
    let a = c.args in
    let st : Store = store_of a.cells.now a.used.now a.permissions.now a.vars.now in
    let e : c.from_residual.result ≡ Err (Refused c.in_err-text.field-0.0) = search rules in
    rw e (refused st a.letter _ _ _ (c.in_err-text.ensures.decides a.cells.now))

pub read_all-requires : goal.read_all-requires
read_all-requires c =
    let a = c.args in
    let st : Store = store_of a.cells.now a.used.now a.permissions.now a.vars.now in
    record { counts = counted st a.letter a.reached.now a.missing.now (c.in_ok-text.ensures.decides a.cells.now); array = refl }

pub returns-then-not-read_all : goal.returns-then-not-read_all
returns-then-not-read_all c =
    let a = c.args in
    let st : Store = store_of a.cells.now a.used.now a.permissions.now a.vars.now in
    damaged st a.letter _ _ (c.in_ok-text.ensures.decides a.cells.now) (sym (readable-tables _ _ _ _) ∙ sym c.read_all.ensures.sound ∙ c.if-not-read_all.true)

pub returns : goal.returns
returns c =
    let a = c.args in
    let st : Store = store_of a.cells.now a.used.now a.permissions.now a.vars.now in
    let free = c.in_ok-text.ensures.decides a.cells.now in
    let m = followed a.cells.now a.used.now a.permissions.now a.vars.now _ _ c.index-a.result
    (counted st a.letter a.reached.now a.missing.now free) (rw c.index-a.ensures (letter-lt _ c.in_ok-text.ensures.letter))
    (c.read_all.ensures.calls c.if-not-read_all.false) c.follow-found.ensures in
    (λ j. reports 0 ((c.marks.ensures ∙ m) j) ((c.marks-2.ensures ∙ c.without_text.ensures ∙ ap (missing_of a.used.now) m) j))
    ∙ (rw c.index-a.ensures (reported st a.letter _ _ free (sym (readable-tables _ _ _ _) ∙ sym c.read_all.ensures.sound ∙ c.if-not-read_all.false)))
