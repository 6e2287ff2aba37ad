-- `instructions::stack::constant` meets its contract.
use mathlib.Core.Path.{◌≡◌}
use mir.Syntax.{w32}
use mir.Val.{to_z, of_z}
use borrow.Author.Tests.{eq-eqb, ne_eqb}
use borrow.Author.Rules.{rules}
use Rattle.language.specs.Effects.{perform}
use Rattle.operands.proofs.OperandsDecoding.{constant-read}
use Rattle.instructions.proofs.stack.constant.Goals as goal

pub returns-in_default : goal.returns-in_default
returns-in_default c = λ h. rw (c.stop.ensures, constant-read, ← c.second_cell.ensures, c.in_default.is)

pub returns-then-not-is_value : goal.returns-then-not-is_value
returns-then-not-is_value c = λ h.
    let b : to_z w32 (of_z w32 c.in-Some.v) ≡ c.in-Some.v = search rules in
    rw (c.stop-then-not-is_value.ensures, constant-read, ← c.second_cell.ensures, c.in-Some.is, ← b, ← c.is_value.ensures, c.if-not-is_value.true)

pub returns-then-m-eq0 : goal.returns-then-m-eq0
returns-then-m-eq0 c = λ h.
    let b : to_z w32 (of_z w32 c.in-Some.v) ≡ c.in-Some.v = search rules in
    rw (c.stop-then-m-eq0.ensures, constant-read, ← c.second_cell.ensures, c.in-Some.is, ← b, ← c.is_value.ensures, c.if-not-is_value.false, eq-eqb _ _ c.if-m-eq0.true)

pub returns : goal.returns
unfolding perform
returns c = λ h.
    let b : to_z w32 (of_z w32 c.in-Some.v) ≡ c.in-Some.v = search rules in
    rw (constant-read, ← c.second_cell.ensures, c.in-Some.is, ← b, ← c.is_value.ensures, c.if-not-is_value.false, ne_eqb _ _ c.if-m-eq0.false) (c.push.ensures h)
