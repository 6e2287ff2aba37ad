-- The fair copy of marks is spelled: lexemes that keep the grammar have its bytes, and these marks.
use mathlib.Core.Path.{◌≡◌, refl, sym, ap, ◌∙◌}
use mathlib.Core.Bool.{Bool, true, false}
use mathlib.Core.List.{List, [], ◌∷◌, ◌++◌, append_assoc}
use Prim.Native.Nat.{ℕ, zero, suc, ◌-◌, ◌^◌, ◌≤◌, ◌<◌}
use native.Mathlib.Omega.{arith}
use lib.Dec.{ltb}
use lib.IntN.{ℤ, pos, negsuc}
use lib.ListN.{length}
use borrow.Author.Tests.{leb-true, ltb-true, ltb-false}
use Rattle.language.specs.Bytes.{dollar_byte, tick_byte, minus_byte, slash_byte}
use Rattle.language.specs.Decimals.{digits, decimal}
use Rattle.language.specs.Limits.{max_variables, max_value}
use Rattle.language.specs.Values.{is_value}
use Rattle.language.specs.Syntax.{operator, variable, constant, print, condition, counter}
use Rattle.language.specs.Tokens.{signed, digit_cell, constant_form}
use Rattle.language.specs.Grammar.{Lexeme, semicolon, colon-sign, left, right, print-of, operator-of, variable-of, condition-of, call-of, counter-of, constant_of}
use Rattle.language.specs.Grammar.{digit_bytes, minus_sign, spell, spell_all, value_from, Number, Formed, AllFormed, marks_of}
use Rattle.language.specs.Grammar.{Mark, mOpen, mClose, mSemi, mColon, mOperation, mPredicate, mCall}
use Rattle.language.proofs.GrammarMarks.{FormedMarks}
use Rattle.faircopy.specs.FairCopy.{variable_digit, mark_bytes, marks_bytes}
use Rattle.faircopy.proofs.Decimals.{digit-bytes, digit-bytes-length, Spelled, spelled, digits-few, natural}

-- lexemes of the marks ms, whose counters are in order from c, with the bytes of their fair copy
pub record Spelling (c : ℕ) (ms : List Mark) : Type 0 where
  pub lexemes : List Lexeme
  pub formed : AllFormed lexemes
  pub bytes : marks_bytes ms ≡ spell_all lexemes
  pub order : marks_of c lexemes ≡ ms

-- ── a number ────────────────────────────────────────────────────────────────────────────────────

-- digits that are no more than k
few-digits : (n k : ℕ) (s : Spelled n (digits 10 n)) → 1 ≤ k → n < 10 ^ k → length s.list ≤ k
few-digits n k s h l =
    let e = ap length s.bytes in
    let d = digit-bytes-length s.list [] in
    let f = digits-few 10 n k h l in
    omega arith

-- a number's bytes b, its closing byte z, and then r
number_spelled : (b ds : List ℕ) (z : ℕ) → b ≡ digit_bytes ds [] → (r : List ℕ) → (b ++ z ∷ []) ++ r ≡ digit_bytes ds (z ∷ r)
number_spelled b ds z e r =
    append_assoc b (z ∷ []) r ∙ ap (λ (l : List ℕ). l ++ z ∷ r) e ∙ sym (digit-bytes ds [] (z ∷ r))

-- the same after a `-`, if there is one
constant-spelled : (b : List ℕ) (s : Bool) (ds : List ℕ) → b ≡ minus_sign s (digit_bytes ds []) → (r : List ℕ)
    → (b ++ tick_byte ∷ []) ++ r ≡ minus_sign s (digit_bytes ds (tick_byte ∷ r))
constant-spelled b true ds e r =
    append_assoc b (tick_byte ∷ []) r
    ∙ ap (λ (l : List ℕ). l ++ tick_byte ∷ r) e
    ∙ ap (λ (l : List ℕ). minus_byte ∷ l) (sym (digit-bytes ds [] (tick_byte ∷ r)))
constant-spelled b false ds e r = number_spelled b ds tick_byte e r

-- a value as a `-`, if it has one, and digits
record Valued (v : ℤ) : Type 0 where
  sign : Bool
  list : List ℕ
  number : Number (constant_form sign) list
  value : signed sign (value_from 0 list) ≡ v
  bytes : decimal v ≡ minus_sign sign (digit_bytes list [])

valued : (v : ℤ) → is_value v ≡ true → Valued v
unfolding is_value decimal
valued (pos n) h =
    let l : n ≤ max_value = leb-true _ _ h in
    let s = spelled 9 n (omega arith) in
    record {
      sign = false;
      list = s.list;
      number = (s.each, s.some, few-digits n 9 s (omega arith) (omega arith));
      value = ap pos s.value;
      bytes = s.bytes;
    }
valued (negsuc n) h =
    let l : suc n ≤ max_value = leb-true _ _ h in
    let s = spelled 9 (suc n) (omega arith) in
    record {
      sign = true;
      list = s.list;
      number = (s.each, s.some, few-digits (suc n) 9 s (omega arith) (omega arith));
      value = ap (signed true) s.value;
      bytes = ap (λ (l : List ℕ). minus_byte ∷ l) s.bytes;
    }

-- the cell of a variable's digit
digit-cell : (d : ℕ) → 1 ≤ d → digit_cell d ≡ d
digit-cell zero h = absurd (omega arith)
digit-cell (suc d) h = refl

variable-cell : (k : ℕ) → 1 ≤ k → k ≤ max_variables → digit_cell (variable_digit k) ≡ k
variable-cell k h l = go (ltb k max_variables) refl
  where
    go : (u : Bool) → ltb k max_variables ≡ u → digit_cell (variable_digit k) ≡ k
    go true e = let b : k < max_variables = ltb-true _ _ e in let m : variable_digit k ≡ k = omega arith in ap digit_cell m ∙ digit-cell k h
    go false e = let b : max_variables ≤ k = ltb-false _ _ e in let m : variable_digit k ≡ 0 = omega arith in let t : 10 ≡ k = omega arith in ap digit_cell m ∙ t

-- ── marks ───────────────────────────────────────────────────────────────────────────────────────

-- one lexeme more
module _ (c d : ℕ) (m : Mark) (ms : List Mark) (x : Lexeme) (f : Formed x)
    (b : (r : List ℕ) → mark_bytes m ++ r ≡ spell x r) (o : (xs : List Lexeme) → marks_of d xs ≡ ms → marks_of c (x ∷ xs) ≡ m ∷ ms) where
  spell-more : Spelling d ms → Spelling c (m ∷ ms)
  spell-more s =
      record {
        lexemes = x ∷ s.lexemes;
        formed = (f, s.formed);
        bytes = b (marks_bytes ms) ∙ ap (spell x) s.bytes;
        order = o s.lexemes s.order;
      }

pub spelling : (ms : List Mark) (c : ℕ) → FormedMarks c ms → Spelling c ms
spelling [] c h = record { lexemes = []; formed = tt; bytes = refl; order = refl }
spelling (mOpen ∷ ms) c h = spell-more c c mOpen ms left tt (λ r. refl) (λ xs e. ap (λ (l : List Mark). mOpen ∷ l) e) (spelling ms c h)
spelling (mClose ∷ ms) c h = spell-more c c mClose ms right tt (λ r. refl) (λ xs e. ap (λ (l : List Mark). mClose ∷ l) e) (spelling ms c h)
spelling (mSemi ∷ ms) c h = spell-more c c mSemi ms semicolon tt (λ r. refl) (λ xs e. ap (λ (l : List Mark). mSemi ∷ l) e) (spelling ms c h)
spelling (mColon ∷ ms) c h = spell-more c c mColon ms colon-sign tt (λ r. refl) (λ xs e. ap (λ (l : List Mark). mColon ∷ l) e) (spelling ms c h)
spelling (mOperation (operator o) ∷ ms) c h =
    spell-more c c (mOperation (operator o)) ms (operator-of o) tt (λ r. refl) (λ xs e. ap (λ (l : List Mark). mOperation (operator o) ∷ l) e) (spelling ms c h.1)
spelling (mOperation (variable a k) ∷ ms) c h =
    spell-more c c (mOperation (variable a k)) ms (variable-of a (variable_digit k)) (omega arith) (λ r. refl)
    (λ xs e i. mOperation (variable a (variable-cell k h.0.0 h.0.1 i)) ∷ e i) (spelling ms c h.1)
spelling (mOperation (constant v) ∷ ms) c h =
    let s = valued v h.0 in
    spell-more c c (mOperation (constant v)) ms (constant_of s.sign s.list) s.number
    (λ r. ap (λ (l : List ℕ). tick_byte ∷ slash_byte ∷ l) (constant-spelled (decimal v) s.sign s.list s.bytes r))
    (λ xs e i. mOperation (constant (s.value i)) ∷ e i) (spelling ms c h.1)
spelling (mOperation (print b) ∷ ms) c h =
    spell-more c c (mOperation (print b)) ms (print-of b) h.0 (λ r. ap (λ (l : List ℕ). tick_byte ∷ tick_byte ∷ l) (append_assoc b (tick_byte ∷ []) r))
    (λ xs e. ap (λ (l : List Mark). mOperation (print b) ∷ l) e) (spelling ms c h.1)
spelling (mPredicate (condition t) ∷ ms) c h =
    spell-more c c (mPredicate (condition t)) ms (condition-of t) tt (λ r. refl) (λ xs e. ap (λ (l : List Mark). mPredicate (condition t) ∷ l) e) (spelling ms c h)
spelling (mPredicate (counter m k) ∷ ms) c h =
    let s = spelled 9 (suc m) (omega (arith, h.0)) in
    let n = few-digits (suc m) 4 s (omega arith) (omega (arith, h.0)) in
    let v : value_from 0 s.list - 1 ≡ m = omega (arith, s.value) in
    spell-more c (suc c) (mPredicate (counter m k)) ms (counter-of s.list) ((s.each, s.some, n), omega (arith, s.value))
    (λ r. ap (λ (l : List ℕ). dollar_byte ∷ l) (number_spelled (decimal (pos (suc m))) s.list dollar_byte (natural (suc m) ∙ s.bytes) r))
    (λ xs e i. mPredicate (counter (v i) (sym h.1 i)) ∷ e i) (spelling ms (suc c) h.2)
spelling (mCall a ∷ ms) c h =
    spell-more c c (mCall a) ms (call-of a) h.0 (λ r. refl) (λ xs e. ap (λ (l : List Mark). mCall a ∷ l) e) (spelling ms c h.1)
