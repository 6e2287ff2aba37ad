-- `instructions::stack::discard` meets its contract.
use borrow.Author.Tests.{le-ltb, ne_eqb}
use Rattle.language.specs.Effects.{perform}
use Rattle.instructions.proofs.stack.discard.Goals as goal

pub returns : goal.returns
unfolding perform
returns c = λ h. rw (c.go.ensures, ne_eqb _ _ c.if-m-eq0.false, le-ltb _ _ c.if-h-lt1.false)
