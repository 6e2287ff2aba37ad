-- `comment` meets its contract: the tokens from place i on are those from the start of the comment.
use Rattle.language.specs.Tokens.{tokens, comment}
use lib.ListN.{drop}
use mathlib.Core.Path.{◌≡◌}
use Rattle.lexer.proofs.comment.Given as goal

abbrev pub invariant-loop-i : goal.invariant-loop-i
invariant-loop-i l = tokens (drop l.i l.text) comment ≡ tokens (drop l.from l.text) comment
