-- `variable` meets its contract.
use Rattle.language.specs.Bytes.{digit_byte}
use Rattle.language.proofs.Between.{between-low, between-high}
use Rattle.lexer.proofs.Lexing.{tokens-end, access-zero, access-digit, access-bad, faulted}
use Rattle.language.specs.Syntax.{variable}
use Rattle.language.specs.Tokens.{begins, does, idle, tokens, after-access, finish}
use lib.ListN.{get_or, drop}
use Prim.Native.Nat.{◌+◌}
use native.Mathlib.Omega.{arith}
use mathlib.Core.List.{◌∷◌}
use mathlib.Core.Path.{sym, ap, ◌∙◌}
use Rattle.lexer.proofs.variable.Goals as goal
use Rattle.lexer.proofs.variable.Goals.{in-48, in-49-to-57, in_default-d-via-then-d-lt48, in_default-d-via-else-d-lt48+else-d-lt58}

pub returns-in_default : goal.returns-in_default
unfolding finish
returns-in_default c = λ a e.
    faulted _ _ c.fault.ensures
    (ap (λ t. begins ∷ t) (tokens-end c.args.text.now c.args.at (after-access a) c.in_default.ensures.lookup.3))
    (omega arith) (omega arith)

pub returns-in_default-d : goal.returns-in_default-d
returns-in_default-d c = λ a e.
    let s = c.args.text.now in
    let i = c.args.at in
    let b = c.in-Some.ensures.lookup.3 in
    faulted _ _ c.fault-in_default-d.ensures
    (ap (λ t. begins ∷ t)
    (access-bad s i b.0 a
    (elim c.in_default-d.branch [
      | in_default-d-via-then-d-lt48 w ↦ between-low (digit_byte 0) (digit_byte 9) (get_or s i 0) (omega (arith, b.1 0))
      | in_default-d-via-else-d-lt48+else-d-lt58 w ↦ between-high (digit_byte 0) (digit_byte 9) (get_or s i 0) (omega (arith, b.1 0))
    ])))
    (omega arith) (omega arith)

pub returns : goal.returns
returns c = λ a e.
    let s = c.args.text.now in
    let i = c.args.at in
    let b = c.in-Some.ensures.lookup.3 in
    record {
      means =
          record {
            mark = a;
            byte-is = e;
            here-is =
                ap (λ t. begins ∷ t)
                (elim c.match-d.branch [
                  | in-48 w ↦ rw w.digit-is (access-zero s i b.0 a (sym (b.1 0) ∙ w.in-48.is))
                  | in-49-to-57 w ↦
                      access-digit s i b.0 a (omega (arith, b.1 0)) (omega (arith, b.1 0))
                      ∙ ap (λ d. does (variable a d) ∷ tokens (drop (i + 1) s) idle) (omega (arith, b.1 0, w.digit-is))
                ]);
          };
      after = omega arith;
      inside = omega (arith, b.0);
    }
