-- `quoted` meets its contract.
use Rattle.lexer.proofs.Lexing.{tokens-end, tick-print, tick-slash, tick-bad, slash-minus, slash-plus, lexes-from, faulted}
use Rattle.language.specs.Tokens.{begins, finish, tokens, after-tick, after-slash, number, constant_form}
use Prim.Native.Nat.{◌+◌}
use lib.ListN.{drop}
use native.Mathlib.Omega.{arith}
use mathlib.Core.Bool.{true}
use mathlib.Core.List.{◌∷◌}
use mathlib.Core.Path.{◌≡◌, sym, ap, ◌∙◌}
use Rattle.lexer.proofs.quoted.Goals as goal

pub returns-in-None : goal.returns-in-None
unfolding finish
returns-in-None c =
    faulted _ _ c.fault.ensures
    (ap (λ t. begins ∷ t) (tokens-end c.args.text.now c.args.at after-tick c.in-None.ensures.lookup.3))
    (omega arith) (omega arith)

pub returns-in-Some-eq39 : goal.returns-in-Some-eq39
returns-in-Some-eq39 c =
    let s = c.args.text.now in
    let at = c.args.at in
    let b = c.in-Some-eq39.ensures.lookup.3 in
    lexes-from _ _ s at (at + 1) c.print.result (ap (λ t. begins ∷ t) (tick-print s at b.0 (sym (b.1 0) ∙ c.in-Some-eq39.field-0-test))) (omega arith) c.print.ensures

pub returns-in-None-get : goal.returns-in-None-get
unfolding finish
returns-in-None-get c =
    let s = c.args.text.now in
    let at = c.args.at in
    let b = c.in-Some-eq47.ensures.lookup.3 in
    faulted _ _ c.fault-in-None-get.ensures
    (ap (λ t. begins ∷ t) (tick-slash s at b.0 (sym (b.1 0) ∙ c.in-Some-eq47.field-0-test) ∙ tokens-end s (at + 1) after-slash c.in-None-get.ensures.lookup.3))
    (omega arith) (omega arith)

pub returns-in-Some-eq45 : goal.returns-in-Some-eq45
returns-in-Some-eq45 c =
    let s = c.args.text.now in
    let at = c.args.at in
    let b = c.in-Some-eq47.ensures.lookup.3 in
    let m = c.in-Some-eq45.ensures.lookup.3 in
    let two : at + 1 + 1 ≡ at + 2 = omega arith in
    lexes-from _ _ s at (at + 2) c.constant.result
    (ap (λ t. begins ∷ t)
    (tick-slash s at b.0 (sym (b.1 0) ∙ c.in-Some-eq47.field-0-test)
    ∙ slash-minus s (at + 1) m.0 (sym (m.1 0) ∙ c.in-Some-eq45.field-0-test)
    ∙ ap (λ j. tokens (drop j s) (number (constant_form true) 0 0)) two))
    (omega arith) c.constant.ensures

pub returns-in-Some-get : goal.returns-in-Some-get
returns-in-Some-get c =
    let s = c.args.text.now in
    let at = c.args.at in
    let b = c.in-Some-eq47.ensures.lookup.3 in
    let m = c.in-Some-get.ensures.lookup.3 in
    lexes-from _ _ s at (at + 1) c.constant-in-Some-get.result
    (ap (λ t. begins ∷ t)
    (tick-slash s at b.0 (sym (b.1 0) ∙ c.in-Some-eq47.field-0-test) ∙ slash-plus s (at + 1) m.0 (λ e. c.in-Some-get.field-0-test.1 (m.1 0 ∙ e))))
    (omega arith) c.constant-in-Some-get.ensures

pub returns-in-Some : goal.returns-in-Some
returns-in-Some c =
    let b = c.in-Some.ensures.lookup.3 in
    let n = c.in-Some.field-0-test in
    faulted _ _ c.fault-in-Some.ensures
    (ap (λ t. begins ∷ t) (tick-bad c.args.text.now c.args.at b.0 (λ e. n.0.1 (b.1 0 ∙ e)) (λ e. n.1 (b.1 0 ∙ e))))
    (omega arith) (omega arith)
