-- `constant` meets its contract.
use Rattle.lexer.proofs.Lexing.{faulted}
use Rattle.lexer.specs.Lexing.{NumberIs}
use Rattle.numerals.proofs.Ints.{value-near, minus-fits, minus_is, plain-is}
use Rattle.language.specs.Tokens.{begins, does, constant_form, signed, numeral, idle, tokens}
use Rattle.language.specs.Syntax as Syntax
use mathlib.Core.Bool.{true, false}
use lib.ListN.{drop}
use native.Mathlib.Omega.{arith}
use mathlib.Core.List.{◌∷◌}
use mathlib.Core.Path.{refl, sym, ap, ◌∙◌, subst}
use Rattle.lexer.proofs.constant.Goals as goal

pub returns-in_default : goal.returns-in_default
returns-in_default c =
    let a = c.args in
    let r = subst (NumberIs a.text.now (constant_form a.minus) a.from) c.unwrap_err.ensures (c.digits-read.ensures (constant_form a.minus) refl refl refl) in
    faulted _ _ c.fault.ensures (ap (λ t. begins ∷ t) r) (omega arith) (omega arith)

pub overflow_cast-plain : goal.overflow_cast-plain
overflow_cast-plain c =
    let a = c.args in
    let f = subst (NumberIs a.text.now (constant_form a.minus) a.from) c.in-Ok.is (c.digits-read.ensures (constant_form a.minus) refl refl refl) in
    record { sfits = omega (arith, f.below) }

pub overflow_sub-token : goal.overflow_sub-token
overflow_sub-token c =
    let a = c.args in
    let f = subst (NumberIs a.text.now (constant_form a.minus) a.from) c.in-Ok.is (c.digits-read.ensures (constant_form a.minus) refl refl refl) in
    minus-fits c.in-Ok.field-0.value (omega (arith, f.below))

pub returns-then-minus : goal.returns-then-minus
unfolding numeral
returns-then-minus c =
    let a = c.args in
    let n = c.in-Ok.field-0 in
    let f = subst (NumberIs a.text.now (constant_form a.minus) a.from) c.in-Ok.is (c.digits-read.ensures (constant_form a.minus) refl refl refl) in
    record {
      means = ap (λ t. begins ∷ t) (f.tokens-are ∙ ap (λ z. does (Syntax.constant z) ∷ tokens (drop n.next a.text.now) idle)
          (ap (λ g. signed g n.value) c.if-minus.true ∙ sym (minus_is n.value (omega (arith, f.below)) ∙ value-near true n.value (omega (arith, f.below)))));
      after = f.after;
      inside = f.inside;
    }

pub returns-else-minus : goal.returns-else-minus
unfolding numeral
returns-else-minus c =
    let a = c.args in
    let n = c.in-Ok.field-0 in
    let f = subst (NumberIs a.text.now (constant_form a.minus) a.from) c.in-Ok.is (c.digits-read.ensures (constant_form a.minus) refl refl refl) in
    record {
      means = ap (λ t. begins ∷ t) (f.tokens-are ∙ ap (λ z. does (Syntax.constant z) ∷ tokens (drop n.next a.text.now) idle)
          (ap (λ g. signed g n.value) c.if-minus.false ∙ sym (plain-is n.value (omega (arith, f.below)) ∙ value-near false n.value (omega (arith, f.below)))));
      after = f.after;
      inside = f.inside;
    }
