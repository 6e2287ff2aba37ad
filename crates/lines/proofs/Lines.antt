-- What a line asks for, from a place of it on.
use mathlib.Core.Path.{◌≡◌, refl, sym, ap, ◌∙◌}
use mathlib.Core.Bool.{Bool, true, false}
use mathlib.Core.List.{List, [], ◌∷◌}
use Prim.Native.Nat.{ℕ, suc, ◌+◌, ◌-◌, ◌*◌, ◌≤◌, ◌<◌}
use native.Mathlib.Numerals.{add-one}
use native.Mathlib.Omega.{arith}
use lib.IntN.{ℤ}
use lib.ListN.{length, get_or, drop, drop_of_length-le}
use lib.Seq.{drop-cons}
use lib.Dec.{ltb, eqb}
use borrow.Author.Tests.{eq-eqb, ne_eqb, le-leb, lt-leb, lt-ltb, le-ltb, ltb-true}
use Rattle.language.specs.Decimals.{max_digits}
use Rattle.language.specs.Bytes.{blank_byte, digit_byte, is_digit, minus_byte}
use Rattle.language.specs.Grammar.{Digits, digit_bytes, value_from}
use Rattle.language.proofs.Between.{between-true}
use Rattle.lines.specs.Lines.{max_line, max_inputs, define_byte, withdraw_byte, run_byte, define, withdraw, run, bad, provided}
use Rattle.lines.specs.Lines.{Field, allowance, input, allowed, given, Mode, sign, number, numbered, scan_number, signs, scan, finish, fields}
use Rattle.lines.specs.Lines.{definition, withdrawal, execution, ordered, form, request}
use Rattle.lines.specs.Commands.{letter_end, field_start, after}

-- ── the fields of a run ─────────────────────────────────────────────────────────────────────────

module _ (s : List ℕ) (i l : ℕ) where
  fields_at : (m : Mode) → i < length s → fields (drop i s) l m ≡ scan m (get_or s i 0) (λ m'. fields (drop (i + 1) s) l m')
  unfolding fields
  fields_at m h = ap (λ t. fields t l m) (drop-cons s i 0 h) ∙ ap (λ j. scan m (get_or s i 0) (λ m'. fields (drop j s) l m')) (sym (add-one i))

  fields-end : (m : Mode) → length s ≤ i → fields (drop i s) l m ≡ finish l m
  unfolding fields
  fields-end m h = ap (λ t. fields t l m) (drop_of_length-le s h)

  pub after-end : (a : ℕ) (x : List ℤ) → length s ≤ i → after (drop i s) l a x ≡ run l a x
  unfolding after
  after-end a x h = ap (λ t. after t l a x) (drop_of_length-le s h)

  pub after-full : (a : ℕ) (x : List ℤ) → i < length s → max_inputs ≤ length x → after (drop i s) l a x ≡ bad
  unfolding after provided
  after-full a x h g = ap (λ t. after t l a x) (drop-cons s i 0 h) ∙ simp (le-ltb (length x) max_inputs g)

  pub after_on : (a : ℕ) (x : List ℤ) → i < length s → length x < max_inputs → after (drop i s) l a x ≡ fields (drop (i + 1) s) l (sign a x)
  unfolding after provided
  after_on a x h g =
      ap (λ t. after t l a x) (drop-cons s i 0 h) ∙ simp (lt-ltb (length x) max_inputs g) (ap (λ j. fields (drop j s) l (sign a x)) (sym (add-one i)))

-- ── a number, after n digits of the value v ─────────────────────────────────────────────────────

-- digits, and then r
pub digits-on : (ds r : List ℕ) (l : ℕ) (f : Field) (n v : ℕ) → Digits ds → n + length ds ≤ max_digits
    → fields (digit_bytes ds r) l (number f n v) ≡ fields r l (number f (n + length ds) (value_from v ds))
unfolding fields scan scan_number numbered provided
digits-on [] r l f n v g h = let e : n ≡ n + 0 = omega arith in ap (λ m. fields r l (number f m v)) e
digits-on (d ∷ ds) r l f n v g h =
    let e : digit_byte d - digit_byte 0 ≡ d = omega arith in
    let k : suc n + length ds ≡ n + suc (length ds) = omega arith in
    simp (between-true (digit_byte 0) (digit_byte 9) (digit_byte d) (omega arith) (omega (arith, g.0)), lt-ltb n max_digits (omega arith))
    (ap (λ x. fields (digit_bytes ds r) l (number f (suc n) (10 * v + x))) e
    ∙ digits-on ds r l f (suc n) (10 * v + d) g.1 (omega arith)
    ∙ ap (λ m. fields r l (number f m (value_from (10 * v + d) ds))) k)

module _ (s : List ℕ) (i l : ℕ) (h : i < length s) (f : Field) (n v : ℕ) where
  -- no digit
  pub number-none : is_digit (get_or s i 0) ≡ false → n ≡ 0 → fields (drop i s) l (number f n v) ≡ bad
  unfolding scan scan_number
  number-none e z = fields_at s i l (number f n v) h ∙ simp e (go (eqb (get_or s i 0) blank_byte))
    where
      go : (u : Bool) → numbered false u (get_or s i 0) f n v (λ m. fields (drop (i + 1) s) l m) ≡ bad
      go true = unfold numbered provided in simp (le-ltb 0 n (omega arith))
      go false = unfold numbered in refl

  -- a blank
  pub number-closed : get_or s i 0 ≡ blank_byte → (n ≡ 0 → ⊥) → fields (drop i s) l (number f n v) ≡ after (drop i s) l (allowed f v) (given f v)
  unfolding scan scan_number numbered provided after
  number-closed e z =
      fields_at s i l (number f n v) h
      ∙ simp (lt-leb (digit_byte 0) (get_or s i 0) (omega arith), eq-eqb (get_or s i 0) blank_byte e, lt-ltb 0 n (omega arith))
      (ap (λ j. provided (ltb (length (given f v)) max_inputs) (λ _. fields (drop j s) l (sign (allowed f v) (given f v)))) (add-one i))
      ∙ ap (λ t. after t l (allowed f v) (given f v)) (sym (drop-cons s i 0 h))

  -- no blank, and no digit that may stand there
  pub number-other : (get_or s i 0 ≡ blank_byte → ⊥) → (n < max_digits → is_digit (get_or s i 0) ≡ false) → fields (drop i s) l (number f n v) ≡ bad
  unfolding scan scan_number
  number-other e g = fields_at s i l (number f n v) h ∙ simp (ne_eqb (get_or s i 0) blank_byte e) (go (ltb n max_digits) refl)
    where
      go : (u : Bool) → ltb n max_digits ≡ u → numbered (is_digit (get_or s i 0)) false (get_or s i 0) f n v (λ m. fields (drop (i + 1) s) l m) ≡ bad
      go true q = unfold numbered in simp (g (ltb-true n max_digits q))
      go false q = last (is_digit (get_or s i 0))
        where
          last : (u : Bool) → numbered u false (get_or s i 0) f n v (λ m. fields (drop (i + 1) s) l m) ≡ bad
          last true = unfold numbered provided in simp q
          last false = unfold numbered in refl

module _ (s : List ℕ) (i l : ℕ) (h : length s ≤ i) (f : Field) (n v : ℕ) where
  pub number-ended : (n ≡ 0 → ⊥) → fields (drop i s) l (number f n v) ≡ after (drop i s) l (allowed f v) (given f v)
  unfolding finish provided
  number-ended z = fields-end s i l (number f n v) h ∙ simp (lt-ltb 0 n (omega arith)) (sym (after-end s i l (allowed f v) (given f v) h))

  pub number-unended : n ≡ 0 → fields (drop i s) l (number f n v) ≡ bad
  unfolding finish provided
  number-unended z = fields-end s i l (number f n v) h ∙ simp (le-ltb 0 n (omega arith))

-- ── the sign of an input ────────────────────────────────────────────────────────────────────────

module _ (s : List ℕ) (i l a : ℕ) (x : List ℤ) where
  pub sign-minus : i < length s → get_or s i 0 ≡ minus_byte → fields (drop i s) l (sign a x) ≡ fields (drop (i + 1) s) l (number (input a x true) 0 0)
  unfolding scan signs
  sign-minus h e = fields_at s i l (sign a x) h ∙ simp (eq-eqb (get_or s i 0) minus_byte e)

  pub sign-plain : i < length s → (get_or s i 0 ≡ minus_byte → ⊥) → fields (drop i s) l (sign a x) ≡ fields (drop i s) l (number (input a x false) 0 0)
  unfolding scan signs
  sign-plain h e = fields_at s i l (sign a x) h ∙ simp (ne_eqb (get_or s i 0) minus_byte e) (sym (fields_at s i l (number (input a x false) 0 0) h))

  pub sign-end : length s ≤ i → fields (drop i s) l (sign a x) ≡ bad
  unfolding finish
  sign-end h = fields-end s i l (sign a x) h

-- ── after the letter ────────────────────────────────────────────────────────────────────────────

module _ (s : List ℕ) (l : ℕ) where
  -- the line ends after its letter, or a byte comes
  module _ (h : length s ≡ letter_end) where
    none : drop letter_end s ≡ []
    none = drop_of_length-le s {i = letter_end} (omega arith)

    pub definition-none : bad ≡ definition l (drop letter_end s)
    unfolding definition
    definition-none = ap (definition l) (sym none)

    pub withdrawal-none : withdraw l ≡ withdrawal l (drop letter_end s)
    unfolding withdrawal
    withdrawal-none = ap (withdrawal l) (sym none)

    pub execution-none : bad ≡ execution l (drop letter_end s)
    unfolding execution
    execution-none = ap (execution l) (sym none)

  module _ (h : letter_end < length s) where
    some : drop letter_end s ≡ get_or s letter_end 0 ∷ drop field_start s
    some = drop-cons s letter_end 0 h

    pub withdrawal-more : bad ≡ withdrawal l (drop letter_end s)
    unfolding withdrawal
    withdrawal-more = ap (withdrawal l) (sym some)

    module _ (n : get_or s letter_end 0 ≡ blank_byte → ⊥) where
      pub definition-bad : bad ≡ definition l (drop letter_end s)
      unfolding definition provided
      definition-bad = sym (ap (definition l) some ∙ simp (ne_eqb (get_or s letter_end 0) blank_byte n))

      pub execution-bad : bad ≡ execution l (drop letter_end s)
      unfolding execution provided
      execution-bad = sym (ap (execution l) some ∙ simp (ne_eqb (get_or s letter_end 0) blank_byte n))

    module _ (e : get_or s letter_end 0 ≡ blank_byte) where
      pub definition-on : define l (drop field_start s) ≡ definition l (drop letter_end s)
      unfolding definition provided
      definition-on = sym (ap (definition l) some ∙ simp (eq-eqb (get_or s letter_end 0) blank_byte e))

      pub execution-on : fields (drop field_start s) l (number allowance 0 0) ≡ execution l (drop letter_end s)
      unfolding execution provided
      execution-on = sym (ap (execution l) some ∙ simp (eq-eqb (get_or s letter_end 0) blank_byte e))

-- ── the whole line ──────────────────────────────────────────────────────────────────────────────

form-short : (s : List ℕ) → length s < letter_end → bad ≡ form s
unfolding form
form-short [] h = refl
form-short (c ∷ []) h = refl
form-short (c ∷ b ∷ []) h = refl
form-short (c ∷ b ∷ l ∷ t) h = absurd (omega arith)

form-at : (s : List ℕ) → letter_end ≤ length s
    → form s ≡ provided (eqb (get_or s 1 0) blank_byte) (λ _. ordered (get_or s 0 0) (get_or s 2 0) (drop letter_end s))
unfolding form
form-at [] h = absurd (omega arith)
form-at (c ∷ []) h = absurd (omega arith)
form-at (c ∷ b ∷ []) h = absurd (omega arith)
form-at (c ∷ b ∷ l ∷ t) h = refl

module _ (s : List ℕ) where
  pub long-line : max_line < length s → bad ≡ request s
  unfolding request provided
  long-line h = sym (simp (lt-leb (length s) max_line h))

  module _ (k : length s ≤ max_line) where
    by_form : form s ≡ request s
    unfolding request provided
    by_form = sym (simp (le-leb (length s) max_line k))

    pub short-line : length s < letter_end → bad ≡ request s
    short-line h = form-short s h ∙ by_form

    module _ (h : letter_end ≤ length s) where
      pub no-blank : (get_or s 1 0 ≡ blank_byte → ⊥) → bad ≡ request s
      unfolding provided
      no-blank n = sym (form-at s h ∙ simp (ne_eqb (get_or s 1 0) blank_byte n)) ∙ by_form

      module _ (b : get_or s 1 0 ≡ blank_byte) where
        by_order : ordered (get_or s 0 0) (get_or s 2 0) (drop letter_end s) ≡ request s
        unfolding provided
        by_order = sym (form-at s h ∙ simp (eq-eqb (get_or s 1 0) blank_byte b)) ∙ by_form

        pub by-definition : get_or s 0 0 ≡ define_byte → definition (get_or s 2 0) (drop letter_end s) ≡ request s
        unfolding ordered
        by-definition e = sym (simp (eq-eqb (get_or s 0 0) define_byte e)) ∙ by_order

        pub by-withdrawal : get_or s 0 0 ≡ withdraw_byte → withdrawal (get_or s 2 0) (drop letter_end s) ≡ request s
        unfolding ordered
        by-withdrawal e = sym (simp (ne_eqb (get_or s 0 0) define_byte (λ d. omega arith), eq-eqb (get_or s 0 0) withdraw_byte e)) ∙ by_order

        pub by-execution : get_or s 0 0 ≡ run_byte → execution (get_or s 2 0) (drop letter_end s) ≡ request s
        unfolding ordered
        by-execution e =
            sym (simp (ne_eqb (get_or s 0 0) define_byte (λ d. omega arith), ne_eqb (get_or s 0 0) withdraw_byte (λ d. omega arith), eq-eqb (get_or s 0 0) run_byte e))
            ∙ by_order

        pub no-order : (get_or s 0 0 ≡ define_byte → ⊥) → (get_or s 0 0 ≡ withdraw_byte → ⊥) → (get_or s 0 0 ≡ run_byte → ⊥) → bad ≡ request s
        unfolding ordered
        no-order d x r = sym (simp (ne_eqb (get_or s 0 0) define_byte d, ne_eqb (get_or s 0 0) withdraw_byte x, ne_eqb (get_or s 0 0) run_byte r)) ∙ by_order
