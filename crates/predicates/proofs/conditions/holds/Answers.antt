-- `predicates::conditions::holds` meets its contract.
use mathlib.Core.Path.{◌≡◌}
use Prim.Native.Nat.{◌-◌}
use lib.IntN.{pos}
use lib.ListN.{get_or}
use mir.Syntax.{w32}
use mir.Val.{to_z, of_z}
use borrow.Author.Rules.{rules}
use Rattle.operands.proofs.Ints.{same_test}
use Rattle.predicates.proofs.conditions.holds.Goals as goal

pub returns-in-Equal : goal.returns-in-Equal
returns-in-Equal c =
    let v = get_or c.args.list.now (c.args.h - 1) (pos 0) in
    let w = get_or c.args.list.now (c.args.h - 2) (pos 0) in
    let e : to_z w32 (of_z w32 v) ≡ v = search rules in
    let f : to_z w32 (of_z w32 w) ≡ w = search rules in
    rw c.in-Equal.is (same_test w v f e)
