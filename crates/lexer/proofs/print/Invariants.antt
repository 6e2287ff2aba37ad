-- `print` meets its contract: the tokens from place i on, after the bytes before it, are those from the start of the print.
use Rattle.language.specs.Tokens.{tokens, printing}
use lib.ListN.{drop, take}
use Prim.Native.Nat.{◌-◌}
use mathlib.Core.List.{[], reverse}
use mathlib.Core.Path.{◌≡◌}
use Rattle.lexer.proofs.print.Given as goal

abbrev pub invariant-loop-i : goal.invariant-loop-i
invariant-loop-i l = tokens (drop l.i l.text) (printing (reverse (take (l.i - l.from) (drop l.from l.text)))) ≡ tokens (drop l.from l.text) (printing [])
