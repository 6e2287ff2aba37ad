-- The lexer is complete: from the bytes that spell lexemes it gives the tokens of their marks.
use mathlib.Core.Path.{◌≡◌, refl, ap, ◌∙◌}
use Prim.Native.Nat.{ℕ, zero, suc, ◌+◌, ◌*◌, ◌-◌, ◌≤◌, ◌<◌}
use native.Mathlib.Omega.{arith}
use mathlib.Core.Bool.{Bool, true, false, cond, false≢true}
use mathlib.Core.List.{List, [], ◌∷◌, ◌++◌, reverse_aux}
use lib.ListN.{length}
use lib.Dec.{ltb, eqb}
use borrow.Author.Tests.{lt-ltb, ne_eqb}
use Rattle.language.specs.Limits.{max_letters}
use Rattle.language.specs.Letters.{first_letter, last_letter, letter_byte}
use Rattle.language.specs.Bytes.{digit_byte, is_digit, minus_byte, newline_byte, quote_byte, tick_byte}
use Rattle.language.specs.declared.Fault.{Fault}
use Rattle.language.specs.Syntax.{Operator, absolute, discard, negate, copy, write, newline, input, add, subtract, multiply, divide, operator_byte}
use Rattle.language.specs.Syntax.{Access, fetch, save, access_byte, Condition, negative, null, equal, condition_byte}
use Rattle.language.specs.Syntax.{operator, variable, constant, print}
use Rattle.language.specs.Tokens.{Token, opens, closes, semis, colons, begins, does, asks, counts, calls, classes, stray, operating, accessing, comparing, calling, class}
use Rattle.language.specs.Between.{between}
use Rattle.language.specs.Lookup.{lookup}
use Rattle.language.specs.Tokens.{comment_byte, print_byte, Form, counter_form, constant_form, most_digits, closing_byte, form_fault, signed, digit_cell, Mode, idle, comment, after-slash, number, printing}
use Rattle.language.specs.Tokens.{unless, first, numeral, numbered, slashed, accessed, printed, commented, tokens}
use Rattle.language.specs.Grammar.{Lexeme, print-of, operator-of, variable-of, condition-of, call-of, counter-of, constant_of, left, right, comma, colon-sign}
use Rattle.language.specs.Grammar.{digit_bytes, minus_sign, spell_all, AllBytes, Digits, value_from, Number, AllFormed, marks_of}
use Rattle.language.proofs.Between.{between-true}
use Rattle.language.proofs.GrammarMarks.{tokens_of}

-- ── bytes ───────────────────────────────────────────────────────────────────────────────────────

class-operator : (o : Operator) → class (operator_byte o) ≡ operating o
unfolding class
class-operator absolute = refl
class-operator discard = refl
class-operator negate = refl
class-operator copy = refl
class-operator write = refl
class-operator newline = refl
class-operator input = refl
class-operator add = refl
class-operator subtract = refl
class-operator multiply = refl
class-operator divide = refl

class-access : (a : Access) → class (access_byte a) ≡ accessing a
unfolding class
class-access fetch = refl
class-access save = refl

class-condition : (c : Condition) → class (condition_byte c) ≡ comparing c
unfolding class
class-condition negative = refl
class-condition null = refl
class-condition equal = refl

class-call : (a : ℕ) → a < max_letters → class (letter_byte a) ≡ calling a
unfolding class
class-call a h =
    ap (λ u. cond u (calling (letter_byte a - first_letter)) (lookup classes stray (letter_byte a))) (between-true first_letter last_letter (letter_byte a) (omega arith) (omega arith))
    ∙ ap calling (omega arith)

-- a digit's byte is a digit's
pub digit-true : (d : ℕ) → d < 10 → is_digit (digit_byte d) ≡ true
digit-true d h = between-true (digit_byte 0) (digit_byte 9) (digit_byte d) (omega arith) (omega arith)

-- and says the digit
pub digit-of : (d : ℕ) → digit_byte d - digit_byte 0 ≡ d
digit-of d = omega arith

-- ── forms ───────────────────────────────────────────────────────────────────────────────────────

unless-true : (u : Bool) (r : Fault) (k : Unit {0} → List Token) → u ≡ true → unless u r k ≡ k tt
unfolding unless
unless-true true r k h = refl
unless-true false r k h = absurd (false≢true h)

commented-inside : (u v : Bool) (k : Mode → List Token) → cond u false v ≡ true → commented u (cond u false v) k ≡ k comment
unfolding commented
commented-inside true v k h = absurd (false≢true h)
commented-inside false true k h = refl
commented-inside false false k h = absurd (false≢true h)

comment-tokens : (b r : List ℕ) → AllBytes comment_byte b → tokens (b ++ quote_byte ∷ r) comment ≡ tokens r idle
unfolding tokens
comment-tokens [] r h = refl
comment-tokens (b ∷ l) r h =
    commented-inside (eqb b quote_byte) (cond (eqb b newline_byte) true (between 32 126 b)) (λ m. tokens (l ++ quote_byte ∷ r) m) h.0 ∙ comment-tokens l r h.1

printed-inside : (u v : Bool) (b : ℕ) (p : List ℕ) (k : Mode → List Token) → cond u false v ≡ true
    → printed u (cond u false v) b p k ≡ k (printing (b ∷ p))
unfolding printed
printed-inside true v b p k h = absurd (false≢true h)
printed-inside false true b p k h = refl
printed-inside false false b p k h = absurd (false≢true h)

print-tokens : (b p r : List ℕ) → AllBytes print_byte b → tokens (b ++ tick_byte ∷ r) (printing p) ≡ does (print (reverse_aux p b)) ∷ tokens r idle
unfolding tokens
print-tokens [] p r h = refl
print-tokens (b ∷ l) p r h =
    printed-inside (eqb b tick_byte) (between 32 126 b) b p (λ m. tokens (l ++ tick_byte ∷ r) m) h.0 ∙ print-tokens l (b ∷ p) r h.1

number-tokens : (ds : List ℕ) (f : Form) (n v : ℕ) (r : List ℕ) → Digits ds → 1 ≤ n + length ds → n + length ds ≤ most_digits f
    → tokens (digit_bytes ds (closing_byte f ∷ r)) (number f n v) ≡ numeral f (value_from v ds) (λ m. tokens r m)
unfolding tokens
number-tokens [] counter_form n v r h lo hi =
    unless-true (ltb 0 n) (form_fault counter_form) (λ _. numeral counter_form v (λ m. tokens r m)) (lt-ltb 0 n (omega arith))
number-tokens [] (constant_form s) n v r h lo hi =
    unless-true (ltb 0 n) (form_fault (constant_form s)) (λ _. numeral (constant_form s) v (λ m. tokens r m)) (lt-ltb 0 n (omega arith))
number-tokens (d ∷ ds) f n v r h lo hi =
    let k : Mode → List Token = λ m. tokens (digit_bytes ds (closing_byte f ∷ r)) m in
    ap (λ u. numbered u (eqb (digit_byte d) (closing_byte f)) (digit_byte d) f n v k) (digit-true d h.0)
    ∙ unless-true (ltb n (most_digits f)) (form_fault f) (λ _. k (number f (suc n) (10 * v + (digit_byte d - digit_byte 0)))) (lt-ltb n (most_digits f) (omega arith))
    ∙ ap (λ x. k (number f (suc n) (10 * v + x))) (digit-of d)
    ∙ number-tokens ds f (suc n) (10 * v + d) r h.1 (omega arith) (omega arith)

counter-numeral : (v : ℕ) (k : Mode → List Token) → 1 ≤ v → numeral counter_form v k ≡ counts (v - 1) ∷ k idle
unfolding numeral
counter-numeral zero k h = absurd (omega arith)
counter-numeral (suc m) k h = ap (λ x. counts x ∷ k idle) (omega arith)

constant-tokens : (s : Bool) (ds r : List ℕ) → Number (constant_form s) ds
    → tokens (minus_sign s (digit_bytes ds (tick_byte ∷ r))) after-slash ≡ does (constant (signed s (value_from 0 ds))) ∷ tokens r idle
unfolding tokens
constant-tokens true ds r h = number-tokens ds (constant_form true) 0 0 r h.0 (omega arith) (omega arith)
constant-tokens false [] r h = absurd (omega arith)
constant-tokens false (d ∷ ds) r h =
    ap (λ u. slashed u (digit_byte d) (λ m. tokens (digit_bytes ds (tick_byte ∷ r)) m)) (ne_eqb (digit_byte d) minus_byte (λ e. omega arith))
    ∙ number-tokens (d ∷ ds) (constant_form false) 0 0 r h.0 (omega arith) (omega arith)

-- ── texts ───────────────────────────────────────────────────────────────────────────────────────

pub lexing-complete : (xs : List Lexeme) (c : ℕ) → AllFormed xs → tokens (spell_all xs) idle ≡ tokens_of (marks_of c xs)
unfolding tokens
lexing-complete [] c h = refl
lexing-complete (Lexeme.blank ∷ xs) c h = lexing-complete xs c h.1
lexing-complete (Lexeme.newline ∷ xs) c h = lexing-complete xs c h.1
lexing-complete (Lexeme.comment b ∷ xs) c h = comment-tokens b (spell_all xs) h.0 ∙ lexing-complete xs c h.1
lexing-complete (left ∷ xs) c h = ap (λ l. opens ∷ l) (lexing-complete xs c h.1)
lexing-complete (right ∷ xs) c h = ap (λ l. closes ∷ l) (lexing-complete xs c h.1)
lexing-complete (Lexeme.semicolon ∷ xs) c h = ap (λ l. semis ∷ l) (lexing-complete xs c h.1)
lexing-complete (comma ∷ xs) c h = ap (λ l. semis ∷ l) (lexing-complete xs c h.1)
lexing-complete (colon-sign ∷ xs) c h = ap (λ l. colons ∷ l) (lexing-complete xs c h.1)
lexing-complete (Lexeme.point ∷ xs) c h = ap (λ l. colons ∷ l) (lexing-complete xs c h.1)
lexing-complete (operator-of o ∷ xs) c h =
    ap (λ u. first u (λ m. tokens (spell_all xs) m)) (class-operator o) ∙ ap (λ l. begins ∷ does (operator o) ∷ l) (lexing-complete xs c h.1)
lexing-complete (variable-of a d ∷ xs) c h =
    ap (λ u. first u (λ m. tokens (digit_byte d ∷ spell_all xs) m)) (class-access a)
    ∙ ap (λ u. begins ∷ accessed u a (digit_byte d - digit_byte 0) (λ m. tokens (spell_all xs) m)) (digit-true d h.0)
    ∙ ap (λ x. begins ∷ does (variable a (digit_cell x)) ∷ tokens (spell_all xs) idle) (digit-of d)
    ∙ ap (λ l. begins ∷ does (variable a (digit_cell d)) ∷ l) (lexing-complete xs c h.1)
lexing-complete (condition-of t ∷ xs) c h =
    ap (λ u. first u (λ m. tokens (spell_all xs) m)) (class-condition t) ∙ ap (λ l. begins ∷ asks t ∷ l) (lexing-complete xs c h.1)
lexing-complete (call-of a ∷ xs) c h =
    ap (λ u. first u (λ m. tokens (spell_all xs) m)) (class-call a h.0) ∙ ap (λ l. begins ∷ calls a ∷ l) (lexing-complete xs c h.1)
lexing-complete (counter-of ds ∷ xs) c h =
    ap (λ l. begins ∷ l)
    (number-tokens ds counter_form 0 0 (spell_all xs) h.0.0.0 (omega arith) (omega arith)
    ∙ counter-numeral (value_from 0 ds) (λ m. tokens (spell_all xs) m) h.0.1
    ∙ ap (λ l. counts (value_from 0 ds - 1) ∷ l) (lexing-complete xs (suc c) h.1))
lexing-complete (constant_of s ds ∷ xs) c h =
    ap (λ l. begins ∷ l)
    (constant-tokens s ds (spell_all xs) h.0 ∙ ap (λ l. does (constant (signed s (value_from 0 ds))) ∷ l) (lexing-complete xs c h.1))
lexing-complete (print-of b ∷ xs) c h =
    ap (λ l. begins ∷ l) (print-tokens b [] (spell_all xs) h.0 ∙ ap (λ l. does (print b) ∷ l) (lexing-complete xs c h.1))
