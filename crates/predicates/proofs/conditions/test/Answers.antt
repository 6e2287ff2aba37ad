-- `predicates::conditions::test` meets its contract.
use mathlib.Core.Path.{sym, ◌∙◌}
use borrow.Author.Tests.{lt-ltb, le-ltb, eq-eqb, ne_eqb}
use Rattle.language.specs.Machine.{pick}
use Rattle.operands.proofs.OperandsDecoding.{condition-read}
use Rattle.predicates.proofs.Effects.{condition-asked}
use Rattle.predicates.proofs.conditions.test.Goals as goal

pub returns-in_default : goal.returns-in_default
returns-in_default c = λ h. rw (c.stop.ensures, condition-read, ← c.exit_of.ensures, c.in_default.is)

pub returns-then-m-eq0 : goal.returns-then-m-eq0
returns-then-m-eq0 c = λ h. rw (c.stop-then-m-eq0.ensures, condition-read, ← c.exit_of.ensures, c.in-Some.is, eq-eqb _ _ c.if-m-eq0.true)

pub returns-then-h-needs : goal.returns-then-h-needs
returns-then-h-needs c = λ h. rw (c.stop-then-h-needs.ensures, condition-read, ← c.exit_of.ensures, c.in-Some.is, ne_eqb _ _ c.if-m-eq0.false, condition-asked, ← c.needs.ensures, lt-ltb _ _ c.if-h-needs.true)

pub returns-then-holds : goal.returns-then-holds
unfolding pick
returns-then-holds c = λ h. rw (c.go.ensures, condition-read, ← c.exit_of.ensures, c.in-Some.is, ne_eqb _ _ c.if-m-eq0.false, condition-asked, ← c.needs.ensures, le-ltb _ _ c.if-h-needs.false, sym c.holds.ensures ∙ c.if-holds.true)

pub returns-else-holds : goal.returns-else-holds
unfolding pick
returns-else-holds c = λ h. rw (c.go-else-holds.ensures, condition-read, ← c.exit_of.ensures, c.in-Some.is, ne_eqb _ _ c.if-m-eq0.false, condition-asked, ← c.needs.ensures, le-ltb _ _ c.if-h-needs.false, sym c.holds.ensures ∙ c.if-holds.false)
