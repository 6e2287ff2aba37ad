-- `digits` meets its contract: in every form with its limits, the tokens from place i on, after the digits before it, are those from the start.
use Rattle.language.specs.Bytes.{digit_byte}
use Rattle.language.proofs.Between.{between-bounds}
use Rattle.lexer.proofs.Lexing.{number-closed, number-stray, number-many, number-on, tokens-end}
use Rattle.numerals.proofs.Numerals.{pow-up, pow_more}
use Rattle.language.specs.Tokens.{faults, most_digits, closing_byte, number, finish}
use lib.ListN.{get_or}
use native.Mathlib.Omega.{arith}
use Prim.Native.Nat.{◌+◌, ◌-◌}
use mathlib.Core.Logic.{◌⊎◌, inl, inr}
use mathlib.Core.List.{[], ◌∷◌}
use mathlib.Core.Path.{◌≡◌, sym, ap, ◌∙◌}
use Rattle.lexer.proofs.digits.Goals as goal
use Rattle.lexer.proofs.digits.Goals.{then-not-is_ascii_digit-via-then-not-is_ascii_digit, then-not-is_ascii_digit-via-else-not-is_ascii_digit+then-i-from}

pub returns-then-from-i : goal.returns-then-from-i
returns-then-from-i c = λ f m e r. let l = c.loop-i in record {
  tokens-are = sym (l.invariant.same f m e r) ∙ number-closed c.args.text.now l.i c.loop-i-test.true f (l.i - c.args.from) l.value (omega arith) (c.if-b-form.true ∙ sym e) (omega arith);
  below = pow-up l.value (l.i - c.args.from) (most_digits f) (omega (arith, l.invariant.few)) l.invariant.below;
  after = omega arith;
  inside = omega arith;
}

pub returns-then-not-is_ascii_digit : goal.returns-then-not-is_ascii_digit
returns-then-not-is_ascii_digit c = λ f m e r.
    let l = c.loop-i in
    let s = c.args.text.now in
    let n = l.i - c.args.from in
    let value = c.is_ascii_digit.ensures.value in
    let stray : ((get_or s l.i 0 ≡ closing_byte f) × (n ≡ 0)) ⊎ (get_or s l.i 0 ≡ closing_byte f → ⊥) =
    elim c.else-b-form.either [ inl k ↦ inl (k.0 ∙ sym e, omega (arith, k.1)) | inr k ↦ inr (λ q. k (q ∙ e)) ] in
    sym (l.invariant.same f m e r)
    ∙ elim c.then-not-is_ascii_digit.branch [
      | then-not-is_ascii_digit-via-then-not-is_ascii_digit w ↦ number-stray s l.i c.loop-i-test.true f n l.value (omega arith) stray (sym value ∙ w.if-not-is_ascii_digit.true)
      | then-not-is_ascii_digit-via-else-not-is_ascii_digit+then-i-from w ↦ number-many s l.i c.loop-i-test.true f n l.value (sym value ∙ w.if-not-is_ascii_digit.false) (w.if-i-from.true ∙ sym m)
    ]
    ∙ ap (λ k. faults k ∷ []) r

pub overflow_mul-value : goal.overflow_mul-value
overflow_mul-value c =
    let p = pow-up c.loop-i.value (c.loop-i.i - c.args.from) 8 (omega arith) c.loop-i.invariant.below in
    record { fits = omega arith }

pub overflow_add-value : goal.overflow_add-value
overflow_add-value c =
    let p = pow-up c.loop-i.value (c.loop-i.i - c.args.from) 8 (omega arith) c.loop-i.invariant.below in
    let d = between-bounds (digit_byte 0) (digit_byte 9) (get_or c.args.text.now c.loop-i.i 0) (sym c.is_ascii_digit.ensures.value ∙ c.if-not-is_ascii_digit.false) in
    record { fits = omega (arith, c.from.ensures) }

pub loop-i-preserved : goal.loop-i-preserved
loop-i-preserved c =
    let l = c.loop-i in
    let s = c.args.text.now in
    let n = l.i - c.args.from in
    let t = sym c.is_ascii_digit.ensures.value ∙ c.if-not-is_ascii_digit.false in
    let d = between-bounds (digit_byte 0) (digit_byte 9) (get_or s l.i 0) t in
    let more : l.i + 1 - c.args.from ≡ n + 1 = omega arith in
    rw (c.from.ensures) (record {
      few = omega arith;
      below = rw more (pow_more l.value (get_or s l.i 0 - digit_byte 0) n l.invariant.below (omega arith));
      same = λ f m e r. rw more (sym (number-on s l.i c.loop-i-test.true f n l.value t (omega (arith, m))) ∙ l.invariant.same f m e r);
    })

pub returns : goal.returns
unfolding finish
returns c = λ f m e r. sym (c.loop-i.invariant.same f m e r) ∙ tokens-end c.args.text.now c.loop-i.i (number f (c.loop-i.i - c.args.from) c.loop-i.value) c.loop-i-test.false
