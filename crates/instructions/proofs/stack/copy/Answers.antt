-- `instructions::stack::copy` meets its contract.
use mathlib.Core.Path.{◌≡◌}
use Prim.Native.Nat.{◌-◌}
use lib.IntN.{pos}
use lib.ListN.{get_or}
use mir.Syntax.{w32}
use mir.Val.{to_z, of_z}
use borrow.Author.Tests.{le-ltb, ne_eqb}
use borrow.Author.Rules.{rules}
use Rattle.language.specs.Effects.{perform}
use Rattle.instructions.proofs.stack.copy.Goals as goal

pub returns : goal.returns
unfolding perform
returns c = λ h.
    let v = get_or c.args.list.now (c.args.m.height - 1) (pos 0) in
    let e : to_z w32 (of_z w32 v) ≡ v = search rules in
    rw (ne_eqb _ _ c.if-m-eq0.false, le-ltb _ _ c.if-h-lt1.false) (rw e at (c.push.ensures h))
