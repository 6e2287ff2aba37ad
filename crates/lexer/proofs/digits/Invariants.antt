-- `digits` meets its contract: in every form with its limits, the tokens from place i on, after the digits before it, are those from the start.
use Rattle.language.specs.Tokens.{Form, most_digits, closing_byte, form_fault, number, tokens}
use lib.ListN.{drop}
use Prim.Native.Nat.{ℕ, ◌-◌, ◌^◌, ◌≤◌, ◌<◌}
use mathlib.Core.List.{List}
use Rattle.language.specs.declared.Fault.{Fault}
use mathlib.Core.Path.{◌≡◌}
use Rattle.lexer.proofs.digits.Given as goal

pub record Reading (s : List ℕ) (from most close : ℕ) (fault : Fault) (i v : ℕ) : Type 0 where
  pub few : i - from ≤ most
  pub below : v < 10 ^ (i - from)
  pub same : (f : Form) → most_digits f ≡ most → closing_byte f ≡ close → form_fault f ≡ fault → tokens (drop i s) (number f (i - from) v) ≡ tokens (drop from s) (number f 0 0)

abbrev pub invariant-loop-i : goal.invariant-loop-i
invariant-loop-i l = Reading l.text l.from l.form.most l.form.close l.form.fault l.i l.value
