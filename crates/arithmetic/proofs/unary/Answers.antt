-- `arithmetic::unary` meets its contract.
use mathlib.Core.Path.{◌≡◌, sym, ◌∙◌}
use Prim.Native.Nat.{◌-◌}
use lib.IntN.{pos}
use lib.ListN.{get_or}
use mir.Syntax.{w32}
use mir.Val.{to_z, of_z}
use borrow.Author.Tests.{lt-ltb, le-ltb, ne_eqb}
use borrow.Author.Rules.{rules}
use Rattle.arithmetic.proofs.Results.{unary-operated}
use Rattle.arithmetic.proofs.unary.Goals as goal

pub returns-then-h-lt1 : goal.returns-then-h-lt1
returns-then-h-lt1 c = λ h. rw (c.stop-then-h-lt1.ensures, ne_eqb _ _ c.if-m-eq0.false, unary-operated, lt-ltb _ _ c.if-h-lt1.true)

pub returns-in-Ok : goal.returns-in-Ok
returns-in-Ok c = λ h.
    let x = get_or c.args.list.now (c.args.m.height - 1) (pos 0) in
    let e1 : to_z w32 (of_z w32 x) ≡ x = search rules in
    let e2 : to_z w32 (of_z w32 c.in-Ok.z) ≡ c.in-Ok.z = search rules in
    rw (c.go.ensures, e2, ne_eqb _ _ c.if-m-eq0.false, unary-operated, le-ltb _ _ c.if-h-lt1.false, sym (rw e1 at c.unary_result.ensures) ∙ c.in-Ok.is)

pub returns-in-Err : goal.returns-in-Err
returns-in-Err c = λ h.
    let x = get_or c.args.list.now (c.args.m.height - 1) (pos 0) in
    let e1 : to_z w32 (of_z w32 x) ≡ x = search rules in
    rw (c.stop-in-Err.ensures, ne_eqb _ _ c.if-m-eq0.false, unary-operated, le-ltb _ _ c.if-h-lt1.false, sym (rw e1 at c.unary_result.ensures) ∙ c.in-Err.is)
