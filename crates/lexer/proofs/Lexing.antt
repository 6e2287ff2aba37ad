-- The tokens of a text from a place on, one byte at a time.
use mathlib.Core.Path.{◌≡◌, refl, sym, ap, ◌∙◌, subst}
use mathlib.Core.Bool.{true, false}
use mathlib.Core.List.{List, [], ◌∷◌, reverse, reverse-append}
use mathlib.Core.Logic.{◌⊎◌, inl, inr}
use Prim.Native.Nat.{ℕ, zero, suc, ◌+◌, ◌*◌, ◌-◌, ◌≤◌, ◌<◌}
use native.Mathlib.Numerals.{add-one}
use native.Mathlib.Omega.{arith}
use lib.ListN.{length, get_or, take, drop, drop_of_length-le, length-drop}
use lib.Seq.{drop-cons, take-suc, get_or-drop}
use borrow.Author.Tests.{eq-eqb, ne_eqb, lt-ltb, le-ltb}
use Rattle.language.specs.Bytes.{newline_byte, quote_byte, tick_byte, minus_byte, slash_byte, digit_byte, is_digit}
use Rattle.language.specs.declared.Fault.{Fault}
use Rattle.language.specs.declared.Fault.TheVariants.{StrayMark, BadCounter}
use Rattle.language.specs.Syntax.{Access, variable, print}
use Rattle.language.specs.Tokens.{Token, begins, does, counts, faults, Class, class, digit_cell}
use Rattle.language.specs.Tokens.{Form, counter_form, most_digits, closing_byte, form_fault, constant_form, Mode, idle, comment, after-tick, after-slash, after-access, number, printing}
use Rattle.lexer.specs.Lexing.{SkipsTo, Means, Lexes, Takes}
use Rattle.lexer.specs.declared.Lexed.{Lexed}
use Rattle.lexer.specs.declared.Misread.{Misread}
use Rattle.std.specs.Prelude.{Result, Ok, Err}
use Rattle.language.specs.Tokens.{unless, first, numeral, numbered, scan_number, slashed, ticked, accessed, printed, commented, scan, finish, tokens}
use Rattle.language.proofs.Tests.{by-ltb}
use Rattle.language.specs.Between.{between}
use Rattle.language.proofs.Between.{between-true, between-low, between-bounds}

module _ (s : List ℕ) (i : ℕ) where
  pub tokens-at : (m : Mode) → i < length s → tokens (drop i s) m ≡ scan m (get_or s i 0) (λ m'. tokens (drop (i + 1) s) m')
  unfolding tokens
  tokens-at m h = ap (λ l. tokens l m) (drop-cons s i 0 h) ∙ ap (λ j. scan m (get_or s i 0) (λ m'. tokens (drop j s) m')) (sym (add-one i))

  -- the tokens at the end of the text
  pub tokens-end : (m : Mode) → length s ≤ i → tokens (drop i s) m ≡ finish m
  unfolding tokens
  tokens-end m h = ap (λ l. tokens l m) (drop_of_length-le s h)

module _ (s : List ℕ) (i : ℕ) (h : i < length s) where
  -- ── comments ──────────────────────────────────────────────────────────────────────────────────

  pub comment-end : get_or s i 0 ≡ quote_byte → tokens (drop i s) comment ≡ tokens (drop (i + 1) s) idle
  unfolding scan commented
  comment-end e = tokens-at s i comment h ∙ simp (eq-eqb (get_or s i 0) quote_byte e)

  pub comment-on : (get_or s i 0 ≡ quote_byte → ⊥) → (get_or s i 0 ≡ newline_byte) ⊎ (between 32 126 (get_or s i 0) ≡ true) → tokens (drop i s) comment ≡ tokens (drop (i + 1) s) comment
  unfolding scan commented
  comment-on n (inl e) = tokens-at s i comment h ∙ simp (ne_eqb (get_or s i 0) quote_byte n, eq-eqb (get_or s i 0) newline_byte e)
  comment-on n (inr t) =
      let k = between-bounds 32 126 (get_or s i 0) t in
      tokens-at s i comment h ∙ simp (ne_eqb (get_or s i 0) quote_byte n, ne_eqb (get_or s i 0) newline_byte (λ e. omega arith), t)

  pub comment-stray : (get_or s i 0 ≡ quote_byte → ⊥) → (get_or s i 0 ≡ newline_byte → ⊥) → between 32 126 (get_or s i 0) ≡ false → tokens (drop i s) comment ≡ faults StrayMark ∷ []
  unfolding scan commented
  comment-stray n m t = tokens-at s i comment h ∙ simp (ne_eqb (get_or s i 0) quote_byte n, ne_eqb (get_or s i 0) newline_byte m, t)

  -- ── prints, after the bytes a, last first ─────────────────────────────────────────────────────

  pub print-end : (a : List ℕ) → get_or s i 0 ≡ tick_byte → tokens (drop i s) (printing a) ≡ does (print (reverse a)) ∷ tokens (drop (i + 1) s) idle
  unfolding scan printed
  print-end a e = tokens-at s i (printing a) h ∙ simp (eq-eqb (get_or s i 0) tick_byte e)

  pub print-on : (a : List ℕ) → (get_or s i 0 ≡ tick_byte → ⊥) → between 32 126 (get_or s i 0) ≡ true → tokens (drop i s) (printing a) ≡ tokens (drop (i + 1) s) (printing (get_or s i 0 ∷ a))
  unfolding scan printed
  print-on a n t = tokens-at s i (printing a) h ∙ simp (ne_eqb (get_or s i 0) tick_byte n, t)

  pub print-stray : (a : List ℕ) → (get_or s i 0 ≡ tick_byte → ⊥) → between 32 126 (get_or s i 0) ≡ false → tokens (drop i s) (printing a) ≡ faults StrayMark ∷ []
  unfolding scan printed
  print-stray a n t = tokens-at s i (printing a) h ∙ simp (ne_eqb (get_or s i 0) tick_byte n, t)

  -- ── numbers, after n digits of the value v ────────────────────────────────────────────────────

  module _ (f : Form) (n v : ℕ) where
    pub number-closed : closing_byte f < digit_byte 0 → get_or s i 0 ≡ closing_byte f → (n ≡ 0 → ⊥)
        → tokens (drop i s) (number f n v) ≡ numeral f v (λ m. tokens (drop (i + 1) s) m)
    unfolding scan scan_number numbered unless
    number-closed k q z =
        tokens-at s i (number f n v) h
        ∙ simp (between-low (digit_byte 0) (digit_byte 9) (get_or s i 0) (omega arith), eq-eqb (get_or s i 0) (closing_byte f) q, lt-ltb 0 n (omega arith))

    -- a byte that neither is a digit nor closes a number
    pub number-stray : closing_byte f < digit_byte 0 → (get_or s i 0 ≡ closing_byte f × n ≡ 0) ⊎ (get_or s i 0 ≡ closing_byte f → ⊥) → is_digit (get_or s i 0) ≡ false
        → tokens (drop i s) (number f n v) ≡ faults (form_fault f) ∷ []
    unfolding scan scan_number numbered unless
    number-stray k (inl q) t = tokens-at s i (number f n v) h ∙ simp (t, eq-eqb (get_or s i 0) (closing_byte f) q.0, le-ltb 0 n (omega (arith, q.1)))
    number-stray k (inr q) t = tokens-at s i (number f n v) h ∙ simp (t, ne_eqb (get_or s i 0) (closing_byte f) q)

    pub number-many : is_digit (get_or s i 0) ≡ true → n ≡ most_digits f → tokens (drop i s) (number f n v) ≡ faults (form_fault f) ∷ []
    unfolding scan scan_number numbered unless
    number-many t q = tokens-at s i (number f n v) h ∙ simp (t, le-ltb n (most_digits f) (omega arith))

    pub number-on : is_digit (get_or s i 0) ≡ true → n < most_digits f
        → tokens (drop i s) (number f n v) ≡ tokens (drop (i + 1) s) (number f (n + 1) (10 * v + (get_or s i 0 - digit_byte 0)))
    unfolding scan scan_number numbered unless
    number-on t q =
        tokens-at s i (number f n v) h ∙ simp (t, lt-ltb n (most_digits f) q)
        (ap (λ k. tokens (drop (i + 1) s) (number f k (10 * v + (get_or s i 0 - digit_byte 0)))) (sym (add-one n)))

  -- ── variables ─────────────────────────────────────────────────────────────────────────────────

  digit-cell : (d : ℕ) → 1 ≤ d → digit_cell d ≡ d
  digit-cell zero q = absurd (omega arith)
  digit-cell (suc d) q = refl

  pub access-zero : (a : Access) → get_or s i 0 ≡ digit_byte 0 → tokens (drop i s) (after-access a) ≡ does (variable a 10) ∷ tokens (drop (i + 1) s) idle
  unfolding scan accessed
  access-zero a e = tokens-at s i (after-access a) h ∙ rw e

  pub access-digit : (a : Access) → digit_byte 1 ≤ get_or s i 0 → get_or s i 0 ≤ digit_byte 9
      → tokens (drop i s) (after-access a) ≡ does (variable a (get_or s i 0 - digit_byte 0)) ∷ tokens (drop (i + 1) s) idle
  unfolding scan accessed
  access-digit a l u =
      tokens-at s i (after-access a) h ∙ simp (between-true (digit_byte 0) (digit_byte 9) (get_or s i 0) (omega arith) u)
      (ap (λ k. does (variable a k) ∷ tokens (drop (i + 1) s) idle) (digit-cell (get_or s i 0 - digit_byte 0) (omega arith)))

  pub access-bad : (a : Access) → is_digit (get_or s i 0) ≡ false → tokens (drop i s) (after-access a) ≡ faults StrayMark ∷ []
  unfolding scan accessed
  access-bad a n = tokens-at s i (after-access a) h ∙ simp n

  -- ── after a `'` ───────────────────────────────────────────────────────────────────────────────

  pub tick-print : get_or s i 0 ≡ tick_byte → tokens (drop i s) after-tick ≡ tokens (drop (i + 1) s) (printing [])
  unfolding scan ticked
  tick-print e = tokens-at s i after-tick h ∙ rw e

  pub tick-slash : get_or s i 0 ≡ slash_byte → tokens (drop i s) after-tick ≡ tokens (drop (i + 1) s) after-slash
  unfolding scan ticked
  tick-slash e = tokens-at s i after-tick h ∙ rw e

  pub tick-bad : (get_or s i 0 ≡ tick_byte → ⊥) → (get_or s i 0 ≡ slash_byte → ⊥) → tokens (drop i s) after-tick ≡ faults StrayMark ∷ []
  unfolding scan ticked
  tick-bad n m = tokens-at s i after-tick h ∙ simp (ne_eqb (get_or s i 0) tick_byte n, ne_eqb (get_or s i 0) slash_byte m)

  pub slash-minus : get_or s i 0 ≡ minus_byte → tokens (drop i s) after-slash ≡ tokens (drop (i + 1) s) (number (constant_form true) 0 0)
  unfolding scan slashed
  slash-minus e = tokens-at s i after-slash h ∙ rw e

  pub slash-plus : (get_or s i 0 ≡ minus_byte → ⊥) → tokens (drop i s) after-slash ≡ tokens (drop i s) (number (constant_form false) 0 0)
  unfolding scan slashed
  slash-plus n = tokens-at s i after-slash h ∙ simp (ne_eqb (get_or s i 0) minus_byte n) (sym (tokens-at s i (number (constant_form false) 0 0) h))

-- ── what a number's closing byte gives ──────────────────────────────────────────────────────────

pub counter-zero : (v : ℕ) (k : Mode → List Token) → v ≡ 0 → numeral counter_form v k ≡ faults BadCounter ∷ []
unfolding numeral
counter-zero v k e = rw e

pub counter-some : (v : ℕ) (k : Mode → List Token) → (v ≡ 0 → ⊥) → (m : ℕ) × (suc m ≡ v) × (numeral counter_form v k ≡ counts m ∷ k idle)
unfolding numeral
counter-some zero k n = absurd (n refl)
counter-some (suc m) k n = (m, refl, refl)

-- ── the bytes of a print ────────────────────────────────────────────────────────────────────────

-- one more, last first
pub printed-more : (s : List ℕ) (from i : ℕ) → from ≤ i → i < length s
    → get_or s i 0 ∷ reverse (take (i - from) (drop from s)) ≡ reverse (take (i + 1 - from) (drop from s))
printed-more s from i h k =
    let n = i - from in
    let l = drop from s in
    let e : i + 1 - from ≡ suc n = omega arith in
    let f : from + n ≡ i = omega arith in
    let g : get_or l n 0 ≡ get_or s i 0 = get_or-drop from s n 0 ∙ ap (λ j. get_or s j 0) f in
    let q : n < length l = omega (arith, length-drop from s) in
    sym (ap (λ j. reverse (take j l)) e ∙ ap reverse (take-suc l n 0 q) ∙ reverse-append (take n l) (get_or l n 0 ∷ []) ∙ ap (λ b. b ∷ reverse (take n l)) g)

-- ── readings ────────────────────────────────────────────────────────────────────────────────────

-- what `fault` gives after the first byte of a mark
pub faulted : {t : List Token} (s : List ℕ) (from : ℕ) {w : Fault} {n : ℕ} {r : Result Lexed Misread} → r ≡ Err (record { fault = w; next = n }) → t ≡ begins ∷ faults w ∷ []
    → from ≤ n → n ≤ length s → Lexes t s from r
faulted {t} s from e m a i = subst (λ r. Lexes t s from r) (sym e) (record { means = m; after = a; inside = i })

-- the same where a whole token is read, of which the bytes before the place are some
pub takes-fault : {t : List Token} (s : List ℕ) (from : ℕ) {w : Fault} {n : ℕ} {r : Result Lexed Misread} → r ≡ Err (record { fault = w; next = n }) → t ≡ faults w ∷ []
    → from < n → n ≤ length s → Takes t s from r
takes-fault {t} s from e m f i = subst (λ r. Takes t s from r) (sym e) (record { means = inl m; further = f; inside = i })

-- a reading from further on, where the tokens are those from here
pub lexes-from : (t t' : List Token) (s : List ℕ) (a b : ℕ) (r : Result Lexed Misread) → t ≡ t' → a ≤ b → Lexes t' s b r → Lexes t s a r
lexes-from t t' s a b (Ok l) e h q =
    record { means = subst (λ t. Means s l.token t (tokens (drop l.next s) idle)) (sym e) q.means; after = omega (arith, q.after); inside = q.inside }
lexes-from t t' s a b (Err m) e h q = record { means = e ∙ q.means; after = omega (arith, q.after); inside = q.inside }

-- the same for a token whose first byte is before b
pub takes-from : (t t' : List Token) (s : List ℕ) (a b : ℕ) (r : Result Lexed Misread) → t ≡ t' → a < b → Lexes t' s b r → Takes t s a r
takes-from t t' s a b (Ok l) e h q =
    record {
      means = subst (λ t. Means s l.token t (tokens (drop l.next s) idle)) (sym e) q.means;
      further = λ _. omega (arith, q.after);
      inside = λ _. q.inside;
    }
takes-from t t' s a b (Err m) e h q = record { means = inr (e ∙ q.means); further = omega (arith, q.after); inside = q.inside }

-- the tokens from a byte of a class on
pub tokens-first : (s : List ℕ) (i : ℕ) → i < length s → (c : Class) → class (get_or s i 0) ≡ c → tokens (drop i s) idle ≡ first c (λ m. tokens (drop (i + 1) s) m)
unfolding scan
tokens-first s i h c e = tokens-at s i idle h ∙ ap (λ c. first c (λ m. tokens (drop (i + 1) s) m)) e

pub skips-inside : {t : List Token} {s : List ℕ} {from n : ℕ} → from ≤ length s → SkipsTo t s from n → n ≤ length s
skips-inside {s = s} {from = from} {n = n} h q = by-ltb from n (λ _. n ≤ length s) q.inside (λ e. omega arith)

-- ── the loops over blanks and comments ──────────────────────────────────────────────────────────

-- the tokens from a place after what is skipped are those from the start
pub record Skipping (s : List ℕ) (from at : ℕ) : Type 0 where
  pub after : from ≤ at
  pub inside : from < at → at ≤ length s
  pub same : tokens (drop at s) idle ≡ tokens (drop from s) idle

-- a comment whose first byte is at place i, up to place n
pub skipping-comment : (s : List ℕ) (from i n : ℕ) → from ≤ i → i < length s → tokens (drop from s) idle ≡ tokens (drop (i + 1) s) comment
    → SkipsTo (tokens (drop (i + 1) s) comment) s (i + 1) n → Skipping s from n
skipping-comment s from i n h k e f = record { after = omega (arith, f.after); inside = λ _. skips-inside (omega arith) f; same = sym (e ∙ f.tokens-are) }
