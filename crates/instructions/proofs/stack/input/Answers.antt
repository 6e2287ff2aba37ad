-- `instructions::stack::input` meets its contract.
use native.Mathlib.Omega.{arith}
use lib.ListN.{length}
use borrow.Author.Tests.{le-ltb, ne_eqb}
use Rattle.language.specs.Effects.{perform}
use Rattle.instructions.proofs.stack.input.Goals as goal

pub returns : goal.returns
unfolding perform
returns c = λ h. rw (c.stop-2.ensures, ne_eqb _ _ c.if-m-eq0.false, le-ltb c.args.m.taken (length c.args.inputs.now) (omega arith))
