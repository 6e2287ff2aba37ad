-- `comment` meets its contract: the tokens from place i on are those from the start of the comment.
use Rattle.lexer.proofs.Lexing.{tokens-end, comment-end, comment-on, comment-stray}
use Rattle.language.specs.Tokens.{comment, finish}
use mathlib.Core.Logic.{inl, inr}
use mathlib.Core.Path.{sym, ◌∙◌}
use native.Mathlib.Omega.{arith}
use Rattle.lexer.proofs.comment.Goals as goal
use Rattle.lexer.proofs.comment.Goals.{else-b-ne10-via-then-b-ne10+else-not-is_printable, else-b-ne10-via-else-b-ne10}

pub returns-then-b-eq34 : goal.returns-then-b-eq34
returns-then-b-eq34 c =
    record {
      tokens-are = sym c.loop-i.invariant ∙ comment-end c.args.text.now c.loop-i.i c.loop-i-test.true c.if-b-eq34.true;
      after = omega arith;
      inside = λ _. omega arith;
    }

pub returns-then-not-is_printable : goal.returns-then-not-is_printable
returns-then-not-is_printable c =
    sym c.loop-i.invariant ∙ comment-stray c.args.text.now c.loop-i.i c.loop-i-test.true c.if-b-eq34.false c.if-b-ne10.true (sym c.is_printable.ensures ∙ c.if-not-is_printable.true)

pub loop-i-preserved : goal.loop-i-preserved
loop-i-preserved c =
    sym (comment-on c.args.text.now c.loop-i.i c.loop-i-test.true c.if-b-eq34.false
    (elim c.else-b-ne10.branch [
      | else-b-ne10-via-then-b-ne10+else-not-is_printable w ↦ inr (sym w.is_printable.ensures ∙ w.if-not-is_printable.false)
      | else-b-ne10-via-else-b-ne10 w ↦ inl w.if-b-ne10.false
    ]))
    ∙ c.loop-i.invariant

pub returns : goal.returns
unfolding finish
returns c = sym c.loop-i.invariant ∙ tokens-end c.args.text.now c.loop-i.i comment c.loop-i-test.false
