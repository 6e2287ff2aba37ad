-- `next_token` meets its contract: the kind of a byte says what stands at its place.
use Rattle.lexer.proofs.LexingMarks.{marked}
use Rattle.lexer.proofs.Lexing.{tokens-end, takes-from, takes-fault, skipping-comment}
use Rattle.lexer.specs.declared.Kind.TheVariants as K
use Rattle.language.specs.Tokens.{idle, finish}
use Prim.Native.Nat.{◌+◌}
use native.Mathlib.Omega.{arith}
use mathlib.Core.Logic.{inl, inr}
use mathlib.Core.Path.{refl, sym, ◌∙◌}
use Rattle.lexer.proofs.next_token.Goals as goal

pub returns : goal.returns
unfolding finish
returns c =
    record {
      means = sym c.loop-at.invariant.same ∙ tokens-end c.args.text.now c.loop-at.at idle c.loop-at-test.false;
      further = λ n. absurd (n refl);
      inside = λ n. absurd (n refl);
    }

pub returns-in-Open : goal.returns-in-Open
returns-in-Open c = marked c.loop-at.invariant c.loop-at-test.true (c.type_inv.text c.loop-at.at).fits K.Open c.in-Open.ensures

pub returns-in-Close : goal.returns-in-Close
returns-in-Close c = marked c.loop-at.invariant c.loop-at-test.true (c.type_inv.text c.loop-at.at).fits K.Close c.in-Close.ensures

pub returns-in-Semicolon : goal.returns-in-Semicolon
returns-in-Semicolon c = marked c.loop-at.invariant c.loop-at-test.true (c.type_inv.text c.loop-at.at).fits K.Semicolon c.in-Semicolon.ensures

pub returns-in-Colon : goal.returns-in-Colon
returns-in-Colon c = marked c.loop-at.invariant c.loop-at-test.true (c.type_inv.text c.loop-at.at).fits K.Colon c.in-Colon.ensures

pub returns-in-Operator : goal.returns-in-Operator
returns-in-Operator c = marked c.loop-at.invariant c.loop-at-test.true (c.type_inv.text c.loop-at.at).fits K.Operator c.in-Operator.ensures

pub returns-in-Condition : goal.returns-in-Condition
returns-in-Condition c = marked c.loop-at.invariant c.loop-at-test.true (c.type_inv.text c.loop-at.at).fits K.Condition c.in-Condition.ensures

pub returns-in-Letter : goal.returns-in-Letter
returns-in-Letter c = marked c.loop-at.invariant c.loop-at-test.true (c.type_inv.text c.loop-at.at).fits K.Letter c.in-Letter.ensures

pub returns-in-Access : goal.returns-in-Access
returns-in-Access c =
    let k = marked c.loop-at.invariant c.loop-at-test.true (c.type_inv.text c.loop-at.at).fits K.Access c.in-Access.ensures in
    takes-from _ _ c.args.text.now c.args.from (c.loop-at.at + 1) c.variable.result k.here-is (omega arith) (c.variable.ensures k.mark k.byte-is)

pub returns-in-Dollar : goal.returns-in-Dollar
returns-in-Dollar c =
    let t = marked c.loop-at.invariant c.loop-at-test.true (c.type_inv.text c.loop-at.at).fits K.Dollar c.in-Dollar.ensures in
    takes-from _ _ c.args.text.now c.args.from (c.loop-at.at + 1) c.counter.result t (omega arith) c.counter.ensures

pub returns-in-Tick : goal.returns-in-Tick
returns-in-Tick c =
    let t = marked c.loop-at.invariant c.loop-at-test.true (c.type_inv.text c.loop-at.at).fits K.Tick c.in-Tick.ensures in
    takes-from _ _ c.args.text.now c.args.from (c.loop-at.at + 1) c.quoted.result t (omega arith) c.quoted.ensures

pub returns-in-Digit : goal.returns-in-Digit
returns-in-Digit c =
    let i = c.loop-at.invariant in
    let m = marked i c.loop-at-test.true (c.type_inv.text c.loop-at.at).fits in
    takes-fault _ _ c.fault-in-Digit.ensures
    (elim c.in-Digit.is [ inl d ↦ m K.Digit (sym d ∙ c.kind_of.ensures) | inr r ↦ m K.Stray (sym r ∙ c.kind_of.ensures) ])
    (omega (arith, i.after)) (omega arith)

pub loop-at-preserved-in-Blank : goal.loop-at-preserved-in-Blank
loop-at-preserved-in-Blank c = marked c.loop-at.invariant c.loop-at-test.true (c.type_inv.text c.loop-at.at).fits K.Blank c.in-Blank.ensures

pub returns-in-Err : goal.returns-in-Err
returns-in-Err c =
    let i = c.loop-at.invariant in
    takes-fault _ _ c.fault.ensures
    (marked i c.loop-at-test.true (c.type_inv.text c.loop-at.at).fits K.Quote c.in-Quote.ensures ∙ c.in-Err.ensures)
    (omega (arith, i.after)) (omega arith)

pub loop-at-preserved : goal.loop-at-preserved
loop-at-preserved c =
    skipping-comment c.args.text.now c.args.from c.loop-at.at c.in-Ok.after c.loop-at.invariant.after c.loop-at-test.true
    (marked c.loop-at.invariant c.loop-at-test.true (c.type_inv.text c.loop-at.at).fits K.Quote c.in-Quote.ensures) c.in-Ok.ensures
