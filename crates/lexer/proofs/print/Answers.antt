-- `print` meets its contract: the tokens from place i on, after the bytes before it, are those from the start of the print.
use Rattle.lexer.proofs.Lexing.{tokens-end, print-end, print-on, print-stray, printed-more, faulted}
use Rattle.language.specs.Syntax as Syntax
use Rattle.language.specs.Tokens.{tokens, printing, idle, finish, begins, does}
use lib.ListN.{drop, take}
use native.Mathlib.Omega.{arith}
use Prim.Native.Nat.{◌+◌, ◌-◌}
use mathlib.Core.List.{◌∷◌, reverse, reverse-reverse}
use mathlib.Core.Path.{sym, ap, ◌∙◌}
use Rattle.lexer.proofs.print.Goals as goal

pub returns-then-b-eq39 : goal.returns-then-b-eq39
returns-then-b-eq39 c =
    let s = c.args.text.now in
    let f = c.args.from in
    let i = c.loop-i.i in
    record {
      means =
          record {
            part = omega arith;
            here-is = ap (λ k. begins ∷ k) (sym c.loop-i.invariant ∙ print-end s i c.loop-i-test.true _ c.if-b-eq39.true)
                ∙ ap (λ k. begins ∷ does (Syntax.print k) ∷ tokens (drop (i + 1) s) idle) (reverse-reverse (take (i - f) (drop f s)));
          };
      after = omega arith;
      inside = omega arith;
    }

pub returns-then-not-is_printable : goal.returns-then-not-is_printable
returns-then-not-is_printable c =
    faulted _ _ c.fault.ensures
    (ap (λ k. begins ∷ k)
    (sym c.loop-i.invariant ∙ print-stray c.args.text.now c.loop-i.i c.loop-i-test.true _ c.if-b-eq39.false (sym c.is_printable.ensures ∙ c.if-not-is_printable.true)))
    (omega arith) (omega arith)

pub loop-i-preserved : goal.loop-i-preserved
loop-i-preserved c =
    let s = c.args.text.now in
    let f = c.args.from in
    let i = c.loop-i.i in
    ap (λ k. tokens (drop (i + 1) s) (printing k)) (sym (printed-more s f i (omega arith) c.loop-i-test.true))
    ∙ sym (print-on s i c.loop-i-test.true (reverse (take (i - f) (drop f s))) c.if-b-eq39.false (sym c.is_printable.ensures ∙ c.if-not-is_printable.false))
    ∙ c.loop-i.invariant

pub returns : goal.returns
unfolding finish
returns c =
    faulted _ _ c.fault-2.ensures
    (ap (λ k. begins ∷ k) (sym c.loop-i.invariant ∙ tokens-end c.args.text.now c.loop-i.i _ c.loop-i-test.false))
    (omega arith) (omega arith)
