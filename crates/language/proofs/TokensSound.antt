-- The lexer is sound: bytes whose tokens have no fault are spelled by lexemes.
use mathlib.Core.Path.{◌≡◌, refl, sym, ap, ◌∙◌, subst}
use Prim.Native.Nat.{ℕ, zero, suc, ◌+◌, ◌*◌, ◌-◌, ◌≤◌}
use native.Mathlib.Omega.{arith}
use mathlib.Core.Bool.{Bool, true, false, cond}
use mathlib.Core.List.{List, [], ◌∷◌, ◌++◌}
use lib.ListN.{length}
use lib.Dec.{ltb, eqb}
use borrow.Author.Tests.{ltb-true, eqb-true}
use Rattle.language.specs.Letters.{first_letter, last_letter}
use Rattle.language.specs.Bytes.{digit_byte, dollar_byte, is_digit, minus_byte, quote_byte, slash_byte, tick_byte}
use Rattle.language.specs.declared.Fault.{Fault}
use Rattle.language.specs.Syntax.{absolute, discard, negate, copy, write, newline, input, add, subtract, multiply, divide}
use Rattle.language.specs.Syntax.{Access, access_byte, negative, null, equal}
use Rattle.language.specs.Tokens.{Token, classes, Class, blank, quote, opening, closing, semicolon, point, dollar, tick, stray, operating, accessing, comparing, calling, class}
use Rattle.language.specs.Between.{between}
use Rattle.language.specs.Lookup.{lookup}
use Rattle.language.specs.Tokens.{comment_byte, print_byte, Form, counter_form, constant_form, most_digits, closing_byte, form_fault, Mode, idle, comment, after-tick, after-slash, after-access, number, printing}
use Rattle.language.specs.Tokens.{unless, first, numeral, numbered, scan_number, slashed, ticked, accessed, printed, commented, scan, tokens}
use Rattle.language.specs.Grammar.{Lexeme, print-of, operator-of, variable-of, condition-of, call-of, counter-of, constant_of, left, right, comma, colon-sign}
use Rattle.language.specs.Grammar.{digit_bytes, spell, spell_all, AllBytes, Digits, value_from, Formed, AllFormed}
use Rattle.language.proofs.Between.{between-bounds}
use Rattle.language.proofs.ReadingParsing.{Clean}

-- ── tests ───────────────────────────────────────────────────────────────────────────────────────

by-true : (u : Bool) (P : Bool → Type 0) → (u ≡ true → P true) → P false → P u
by-true true P t f = t refl
by-true false P t f = f

-- ── bytes where a mark may begin ────────────────────────────────────────────────────────────────

-- byte b alone is a lexeme
abbrev Single : ℕ → Type 0
Single b = (x : Lexeme) × Formed x × ((r : List ℕ) → b ∷ r ≡ spell x r)

-- what a byte of a class is
abbrev Classed : Class → ℕ → Type 0
Classed blank b = Single b
Classed quote b = b ≡ quote_byte
Classed opening b = Single b
Classed closing b = Single b
Classed semicolon b = Single b
Classed point b = Single b
Classed dollar b = b ≡ dollar_byte
Classed tick b = b ≡ tick_byte
Classed stray b = Unit {0}
Classed (operating o) b = Single b
Classed (accessing a) b = b ≡ access_byte a
Classed (comparing c) b = Single b
Classed (calling a) b = Single b

abbrev AllClassed : List (ℕ × Class) → Type 0
AllClassed [] = Unit {0}
AllClassed (e ∷ l) = Classed e.1 e.0 × AllClassed l

lookup-classed : (l : List (ℕ × Class)) (b : ℕ) → AllClassed l → Classed (lookup l stray b) b
lookup-classed [] b h = tt
lookup-classed (e ∷ l) b h =
    by-true (eqb e.0 b) (λ u. Classed (cond u e.1 (lookup l stray b)) b)
    (λ q. subst (λ n. Classed e.1 n) (eqb-true e.0 b q) h.0) (lookup-classed l b h.1)

-- a pair, as a line of a list of facts
infixr 60 ◌▸◌
abbrev ◌▸◌ : {A B : Type 0} → A → B → A × B
a ▸ b = (a, b)

all-classed : AllClassed classes
all-classed =
    (Lexeme.blank, tt, λ r. refl)
    ▸ (Lexeme.newline, tt, λ r. refl)
    ▸ refl
    ▸ (left, tt, λ r. refl)
    ▸ (right, tt, λ r. refl)
    ▸ (Lexeme.semicolon, tt, λ r. refl)
    ▸ (comma, tt, λ r. refl)
    ▸ (colon-sign, tt, λ r. refl)
    ▸ (Lexeme.point, tt, λ r. refl)
    ▸ refl
    ▸ refl
    ▸ (operator-of absolute, tt, λ r. refl)
    ▸ (operator-of discard, tt, λ r. refl)
    ▸ (operator-of negate, tt, λ r. refl)
    ▸ (operator-of copy, tt, λ r. refl)
    ▸ (operator-of write, tt, λ r. refl)
    ▸ (operator-of newline, tt, λ r. refl)
    ▸ (operator-of input, tt, λ r. refl)
    ▸ (operator-of add, tt, λ r. refl)
    ▸ (operator-of subtract, tt, λ r. refl)
    ▸ (operator-of multiply, tt, λ r. refl)
    ▸ (operator-of divide, tt, λ r. refl)
    ▸ refl
    ▸ refl
    ▸ (condition-of negative, tt, λ r. refl)
    ▸ (condition-of null, tt, λ r. refl)
    ▸ (condition-of equal, tt, λ r. refl)
    ▸ tt

class-classed : (b : ℕ) → Classed (class b) b
unfolding class
class-classed b =
    by-true (between first_letter last_letter b) (λ u. Classed (cond u (calling (b - first_letter)) (lookup classes stray b)) b)
    (λ q. let h = between-bounds first_letter last_letter b q in (call-of (b - first_letter), omega arith, λ r. ap (λ n. n ∷ r) (omega arith)))
    (lookup-classed classes b all-classed)

-- ── what bytes with no fault hold, from a mode on ───────────────────────────────────────────────

abbrev Spelled : List ℕ → Type 0
Spelled l = (xs : List Lexeme) × AllFormed xs × (l ≡ spell_all xs)

-- bytes that p allows, the byte e, and then lexemes
abbrev Delimited : (ℕ → Bool) → ℕ → List ℕ → Type 0
Delimited p e l = (b : List ℕ) × (r : List ℕ) × AllBytes p b × Spelled r × (l ≡ b ++ e ∷ r)

-- a counter's number is 1 or more
abbrev Valued : Form → ℕ → Type 0
Valued counter_form v = 1 ≤ v
Valued (constant_form s) v = Unit {0}

-- after n digits of the value v: more digits, the closing byte, and then lexemes
abbrev Numeral : Form → ℕ → ℕ → List ℕ → Type 0
Numeral f n v l =
    (ds : List ℕ) × (r : List ℕ) × Digits ds × (1 ≤ n + length ds) × (n + length ds ≤ most_digits f) × Valued f (value_from v ds) × Spelled r
    × (l ≡ digit_bytes ds (closing_byte f ∷ r))

-- what is left of the lexeme of a mode, and then lexemes
abbrev Rest : Mode → List ℕ → Type 0
Rest idle l = Spelled l
Rest comment l = Delimited comment_byte quote_byte l
Rest after-tick l = Spelled (tick_byte ∷ l)
Rest after-slash l = Spelled (tick_byte ∷ slash_byte ∷ l)
Rest (after-access a) l = Spelled (access_byte a ∷ l)
Rest (number f n v) l = n ≤ most_digits f → Numeral f n v l
Rest (printing p) l = Delimited print_byte tick_byte l

unless-clean : (u : Bool) (r : Fault) (k : Unit {0} → List Token) → Clean (unless u r k) → (u ≡ true) × Clean (k tt)
unfolding unless
unless-clean true r k c = (refl, c)
unless-clean false r k c = absurd c

spelled : (x : Lexeme) (l r : List ℕ) → Formed x → Spelled r → l ≡ spell x r → Spelled l
spelled x l r h (xs, hs, e) p = (x ∷ xs, (h, hs), p ∙ ap (spell x) e)

module _ (l : List ℕ) (k : Mode → List Token) (rest : (m : Mode) → Clean (k m) → Rest m l) where
  single-sound : (b : ℕ) → Single b → Clean (k idle) → Spelled (b ∷ l)
  single-sound b (x, h, e) c = spelled x (b ∷ l) l h (rest idle c) (e l)

  first-sound : (c : Class) (b : ℕ) → Classed c b → Clean (first c k) → Spelled (b ∷ l)
  unfolding first
  first-sound blank b h c = single-sound b h c
  first-sound quote b h c =
      let (bs, r, hb, s, e) = rest comment c in
      spelled (Lexeme.comment bs) (b ∷ l) r hb s (ap (λ n. n ∷ l) h ∙ ap (λ m. quote_byte ∷ m) e)
  first-sound opening b h c = single-sound b h c
  first-sound closing b h c = single-sound b h c
  first-sound semicolon b h c = single-sound b h c
  first-sound point b h c = single-sound b h c
  first-sound dollar b h c =
      let (ds, r, hd, lo, hi, hv, s, e) = rest (number counter_form 0 0) c (omega arith) in
      spelled (counter-of ds) (b ∷ l) r ((hd, omega arith, omega arith), hv) s (ap (λ n. n ∷ l) h ∙ ap (λ m. dollar_byte ∷ m) e)
  first-sound tick b h c = subst (λ n. Spelled (n ∷ l)) (sym h) (rest after-tick c)
  first-sound stray b h c = absurd c
  first-sound (operating o) b h c = single-sound b h c
  first-sound (accessing a) b h c = subst (λ n. Spelled (n ∷ l)) (sym h) (rest (after-access a) c)
  first-sound (comparing t) b h c = single-sound b h c
  first-sound (calling a) b h c = single-sound b h c

  commented-sound : (b : ℕ) (u v : Bool) → eqb b quote_byte ≡ u → comment_byte b ≡ v → Clean (commented u v k) → Delimited comment_byte quote_byte (b ∷ l)
  unfolding commented
  commented-sound b true v p q c = ([], l, tt, rest idle c, ap (λ n. n ∷ l) (eqb-true b quote_byte p))
  commented-sound b false true p q c = let (bs, r, hb, s, e) = rest comment c in (b ∷ bs, r, (q, hb), s, ap (λ m. b ∷ m) e)
  commented-sound b false false p q c = absurd c

  printed-sound : (b : ℕ) (a : List ℕ) (u v : Bool) → eqb b tick_byte ≡ u → print_byte b ≡ v → Clean (printed u v b a k) → Delimited print_byte tick_byte (b ∷ l)
  unfolding printed
  printed-sound b a true v p q c = ([], l, tt, rest idle c, ap (λ n. n ∷ l) (eqb-true b tick_byte p))
  printed-sound b a false true p q c = let (bs, r, hb, s, e) = rest (printing (b ∷ a)) c in (b ∷ bs, r, (q, hb), s, ap (λ m. b ∷ m) e)
  printed-sound b a false false p q c = absurd c

  numeral-sound : (f : Form) (v : ℕ) → Clean (numeral f v k) → Valued f v × Clean (k idle)
  unfolding numeral
  numeral-sound counter_form zero c = absurd c
  numeral-sound counter_form (suc m) c = (omega arith, c)
  numeral-sound (constant_form s) v c = (tt, c)

  numbered-sound : (b : ℕ) (f : Form) (n v : ℕ) (u w : Bool) → is_digit b ≡ u → eqb b (closing_byte f) ≡ w → Clean (numbered u w b f n v k)
      → n ≤ most_digits f → Numeral f n v (b ∷ l)
  unfolding numbered
  numbered-sound b f n v true w p q c hn =
      let h = between-bounds (digit_byte 0) (digit_byte 9) b p in
      let g = unless-clean (ltb n (most_digits f)) (form_fault f) (λ _. k (number f (suc n) (10 * v + (b - digit_byte 0)))) c in
      let lt = ltb-true n (most_digits f) g.0 in
      let (ds, r, hd, lo, hi, hv, s, e) = rest (number f (suc n) (10 * v + (b - digit_byte 0))) g.1 lt in
      let eb : b ≡ digit_byte (b - digit_byte 0) = omega arith in
      ((b - digit_byte 0) ∷ ds, r, (omega arith, hd), omega arith, omega arith, hv, s, ap (λ n. n ∷ l) eb ∙ ap (λ m. digit_byte (b - digit_byte 0) ∷ m) e)
  numbered-sound b f n v false true p q c hn =
      let g = unless-clean (ltb 0 n) (form_fault f) (λ _. numeral f v k) c in
      let lt = ltb-true 0 n g.0 in
      let (hv, c') = numeral-sound f v g.1 in
      ([], l, tt, omega arith, omega arith, hv, rest idle c', ap (λ n. n ∷ l) (eqb-true b (closing_byte f) q))
  numbered-sound b f n v false false p q c hn = absurd c

  number-sound : (b : ℕ) (f : Form) (n v : ℕ) → Clean (scan_number f n v b k) → n ≤ most_digits f → Numeral f n v (b ∷ l)
  unfolding scan_number
  number-sound b f n v c hn = numbered-sound b f n v (is_digit b) (eqb b (closing_byte f)) refl refl c hn

  ticked-sound : (b : ℕ) (u v : Bool) → eqb b tick_byte ≡ u → eqb b slash_byte ≡ v → Clean (ticked u v k) → Spelled (tick_byte ∷ b ∷ l)
  unfolding ticked
  ticked-sound b true v p q c =
      let (bs, r, hb, s, e) = rest (printing []) c in
      spelled (print-of bs) (tick_byte ∷ b ∷ l) r hb s (ap (λ n. tick_byte ∷ n ∷ l) (eqb-true b tick_byte p) ∙ ap (λ m. tick_byte ∷ tick_byte ∷ m) e)
  ticked-sound b false true p q c = subst (λ n. Spelled (tick_byte ∷ n ∷ l)) (sym (eqb-true b slash_byte q)) (rest after-slash c)
  ticked-sound b false false p q c = absurd c

  slashed-sound : (b : ℕ) (u : Bool) → eqb b minus_byte ≡ u → Clean (slashed u b k) → Spelled (tick_byte ∷ slash_byte ∷ b ∷ l)
  unfolding slashed
  slashed-sound b true p c =
      let (ds, r, hd, lo, hi, hv, s, e) = rest (number (constant_form true) 0 0) c (omega arith) in
      spelled (constant_of true ds) (tick_byte ∷ slash_byte ∷ b ∷ l) r (hd, omega arith, omega arith) s
      (ap (λ n. tick_byte ∷ slash_byte ∷ n ∷ l) (eqb-true b minus_byte p) ∙ ap (λ m. tick_byte ∷ slash_byte ∷ minus_byte ∷ m) e)
  slashed-sound b false p c =
      let (ds, r, hd, lo, hi, hv, s, e) = number-sound b (constant_form false) 0 0 c (omega arith) in
      spelled (constant_of false ds) (tick_byte ∷ slash_byte ∷ b ∷ l) r (hd, omega arith, omega arith) s (ap (λ m. tick_byte ∷ slash_byte ∷ m) e)

  accessed-sound : (b : ℕ) (a : Access) (u : Bool) → is_digit b ≡ u → Clean (accessed u a (b - digit_byte 0) k) → Spelled (access_byte a ∷ b ∷ l)
  unfolding accessed
  accessed-sound b a true p c =
      let h = between-bounds (digit_byte 0) (digit_byte 9) b p in
      spelled (variable-of a (b - digit_byte 0)) (access_byte a ∷ b ∷ l) l (omega arith) (rest idle c) (ap (λ n. access_byte a ∷ n ∷ l) (omega arith))
  accessed-sound b a false p c = absurd c

  scan-sound : (m : Mode) (b : ℕ) → Clean (scan m b k) → Rest m (b ∷ l)
  unfolding scan
  scan-sound idle b c = first-sound (class b) b (class-classed b) c
  scan-sound comment b c = commented-sound b (eqb b quote_byte) (comment_byte b) refl refl c
  scan-sound after-tick b c = ticked-sound b (eqb b tick_byte) (eqb b slash_byte) refl refl c
  scan-sound after-slash b c = slashed-sound b (eqb b minus_byte) refl c
  scan-sound (after-access a) b c = accessed-sound b a (is_digit b) refl c
  scan-sound (number f n v) b c = number-sound b f n v c
  scan-sound (printing p) b c = printed-sound b p (eqb b tick_byte) (print_byte b) refl refl c

rest-sound : (l : List ℕ) (m : Mode) → Clean (tokens l m) → Rest m l
unfolding tokens
rest-sound [] idle c = ([], tt, refl)
rest-sound [] comment c = absurd c
rest-sound [] after-tick c = absurd c
rest-sound [] after-slash c = absurd c
rest-sound [] (after-access a) c = absurd c
rest-sound [] (number f n v) c = absurd c
rest-sound [] (printing p) c = absurd c
rest-sound (b ∷ l) m c = scan-sound l (λ m'. tokens l m') (λ m' c'. rest-sound l m' c') m b c

pub lexing-sound : (l : List ℕ) → Clean (tokens l idle) → (xs : List Lexeme) × AllFormed xs × (l ≡ spell_all xs)
lexing-sound l c = rest-sound l idle c
