-- `counter` meets its contract.
use Rattle.lexer.proofs.Lexing.{counter-zero, counter-some, faulted}
use Rattle.lexer.specs.Lexing.{NumberIs}
use Rattle.language.specs.Tokens.{begins, counter_form, tokens}
use lib.ListN.{drop}
use native.Mathlib.Omega.{arith}
use mathlib.Core.List.{◌∷◌}
use mathlib.Core.Path.{refl, ap, ◌∙◌, subst}
use Rattle.lexer.proofs.counter.Goals as goal

pub returns-in_default : goal.returns-in_default
returns-in_default c =
    let a = c.args in
    let r = subst (NumberIs a.text.now counter_form a.from) c.unwrap_err.ensures (c.digits-read.ensures counter_form refl refl refl) in
    faulted _ _ c.fault.ensures (ap (λ t. begins ∷ t) r) (omega arith) (omega arith)

pub returns-then-value-eq0 : goal.returns-then-value-eq0
returns-then-value-eq0 c =
    let a = c.args in
    let f = subst (NumberIs a.text.now counter_form a.from) c.in-Ok.is (c.digits-read.ensures counter_form refl refl refl) in
    faulted _ _ c.fault-then-value-eq0.ensures (ap (λ t. begins ∷ t) (f.tokens-are ∙ counter-zero _ _ c.if-value-eq0.true)) (omega arith) (omega arith)

pub returns : goal.returns
returns c =
    let a = c.args in
    let f = subst (NumberIs a.text.now counter_form a.from) c.in-Ok.is (c.digits-read.ensures counter_form refl refl refl) in
    let q = counter-some _ (λ n. tokens (drop c.in-Ok.field-0.next a.text.now) n) c.if-value-eq0.false in
    record {
      means = record { stands = record { mark = q.0; byte-is = q.1; here-is = ap (λ t. begins ∷ t) (f.tokens-are ∙ q.2) }; limit = omega (arith, f.below) };
      after = f.after;
      inside = f.inside;
    }
