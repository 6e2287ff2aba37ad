-- `instructions::stack::variable` meets its contract.
use mathlib.Core.Path.{◌≡◌}
use Prim.Native.Nat.{◌-◌, ◌%◌}
use lib.IntN.{pos}
use lib.ListN.{get_or}
use mir.Syntax.{w32}
use mir.Val.{to_z, of_z}
use borrow.Author.Tests.{lt-ltb, le-ltb, eq-eqb, ne_eqb}
use borrow.Author.Rules.{rules}
use Rattle.language.specs.Limits.{max_variables}
use Rattle.language.specs.Effects.{perform}
use Rattle.operands.specs.Held.{storing}
use Rattle.operands.proofs.OperandsDecoding.{variable-read}
use Rattle.instructions.proofs.stack.variable.Goals as goal

pub returns-in_default : goal.returns-in_default
returns-in_default c = λ h. rw (c.stop.ensures, variable-read, ← c.digit_at.ensures, c.in_default.is)

pub returns-then-m-eq0 : goal.returns-then-m-eq0
returns-then-m-eq0 c = λ h. rw (c.stop-then-m-eq0.ensures, variable-read, ← c.digit_at.ensures, c.in-Some.is, eq-eqb _ _ c.if-m-eq0.true)

pub returns-then-h-lt1 : goal.returns-then-h-lt1
unfolding perform
returns-then-h-lt1 c = λ h. rw (c.stop-then-h-lt1.ensures, variable-read, ← c.digit_at.ensures, c.in-Some.is, ne_eqb _ _ c.if-m-eq0.false, c.in-Save.is, lt-ltb _ _ c.if-h-lt1.true)

pub returns-in-Fetch : goal.returns-in-Fetch
unfolding perform
returns-in-Fetch c = λ h.
    let a = c.args in
    let v = get_or a.vars.now (c.in-Some.d % max_variables) (pos 0) in
    let b : to_z w32 (of_z w32 v) ≡ v = search rules in
    rw (variable-read, ← c.digit_at.ensures, c.in-Some.is, ne_eqb _ _ c.if-m-eq0.false, c.in-Fetch.is, ← b)
    (c.push.ensures (storing a.m a.vars.now a.list.now h))

pub returns-else-h-lt1 : goal.returns-else-h-lt1
unfolding perform
returns-else-h-lt1 c = λ h.
    let a = c.args in
    let v = get_or a.list.now (a.m.height - 1) (pos 0) in
    let b : to_z w32 (of_z w32 v) ≡ v = search rules in
    rw (c.go.ensures, b, variable-read, ← c.digit_at.ensures, c.in-Some.is, ne_eqb _ _ c.if-m-eq0.false, c.in-Save.is, le-ltb _ _ c.if-h-lt1.false)
