-- The steps over the bytes of lexemes write the fair copy of their marks.
use mathlib.Core.Path.{◌≡◌, refl, sym, ap, ◌∙◌}
use mathlib.Core.Bool.{Bool, true, false, cond, false≢true}
use mathlib.Core.List.{List, [], ◌∷◌, ◌++◌, append_assoc}
use Prim.Native.Nat.{ℕ, zero, suc, ◌+◌, ◌*◌, ◌≤◌, ◌<◌}
use native.Mathlib.Omega.{arith}
use lib.IntN.{pos}
use lib.ListN.{length, take, drop, length-append}
use lib.Dec.{leb}
use borrow.Author.Tests.{eq-eqb, ne_eqb, le-leb, lt-leb}
use Rattle.language.specs.Bytes.{quote_byte, dollar_byte, tick_byte, minus_byte, slash_byte, digit_byte}
use Rattle.language.specs.Letters.{letter_byte}
use Rattle.language.specs.Decimals.{max_digits, digits, decimal}
use Rattle.language.specs.Syntax.{Operator, absolute, discard, negate, copy, write, input, add, subtract, multiply, divide, operator_byte}
use Rattle.language.specs.Syntax.{Access, fetch, save, access_byte, Condition, negative, null, equal, condition_byte, Expr}
use Rattle.language.specs.Tokens.{comment_byte, print_byte, signed, digit_cell, constant_form}
use Rattle.language.specs.Grammar.{Lexeme, blank, comma, semicolon, colon-sign, point, left, right, comment, print-of, operator-of, variable-of, condition-of, call-of, counter-of, constant_of}
use Rattle.language.specs.Grammar.{digit_bytes, minus_sign, spell_all, AllBytes, Digits, value_from, Number, AllFormed, marks_of}
use Rattle.language.specs.Reading.{accepted, read}
use Rattle.language.proofs.Grammar.{reading-sound}
use Rattle.faircopy.specs.FairCopy.{variable_digit, counter_bytes, constant_bytes, print_bytes, marks_bytes, fair_copy}
use Rattle.faircopy.specs.Claims.{Plain}
use Rattle.faircopy.specs.Steps.{takes, after, prefixed, reach, through_step, zeros, sign_bytes, digits_step, constant_step, tick_step, step_of, steps}
use Rattle.faircopy.proofs.ClaimsLengths.{signed-length, counted}
use Rattle.faircopy.proofs.Decimals.{digit-bytes, digit-bytes-length, natural, plain-digits, value-least}
use Rattle.faircopy.proofs.StepsParts.{step_other}

-- ── lists ───────────────────────────────────────────────────────────────────────────────────────

-- past bytes and one more
drop_past : (b r : List ℕ) (z : ℕ) → drop (suc (length b)) (b ++ z ∷ r) ≡ r
drop_past [] r z = refl
drop_past (x ∷ b) r z = drop_past b r z

take_past : (b r : List ℕ) (z : ℕ) → take (suc (length b)) (b ++ z ∷ r) ≡ b ++ z ∷ []
take_past [] r z = refl
take_past (x ∷ b) r z = ap (λ (l : List ℕ). x ∷ l) (take_past b r z)

-- the first z is after the bytes of a form that has none
reach-past : (z : ℕ) (p : ℕ → Bool) → p z ≡ false → (b r : List ℕ) → AllBytes p b → reach z (b ++ z ∷ r) ≡ suc (length b)
reach-past z p n [] r h = rw (eq-eqb z z refl)
reach-past z p n (x ∷ b) r h =
    let m : x ≡ z → ⊥ = λ e. false≢true (sym n ∙ ap p (sym e) ∙ h.0) in
    rw (ne_eqb x z m) (ap suc (reach-past z p n b r h.1))

through-past : (z : ℕ) (p : ℕ → Bool) → p z ≡ false → (b r : List ℕ) → AllBytes p b → through_step z (b ++ z ∷ r) ≡ takes (suc (length b)) (b ++ z ∷ [])
through-past z p n b r h =
    ap (λ (k : ℕ). takes k (take k (b ++ z ∷ r))) (reach-past z p n b r h) ∙ ap (takes (suc (length b))) (take_past b r z)

-- ── digits ──────────────────────────────────────────────────────────────────────────────────────

-- the bytes of digits are as many, and none is below `0`
digits-as-many : (ds : List ℕ) → length (digit_bytes ds []) ≡ length ds
digits-as-many ds = let e = digit-bytes-length ds [] in omega arith

digits-high : (ds : List ℕ) → AllBytes (leb (digit_byte 0)) (digit_bytes ds [])
digits-high [] = tt
digits-high (d ∷ ds) = (le-leb (digit_byte 0) (digit_byte d) (omega arith), digits-high ds)

drop-digits : (ds r : List ℕ) (z : ℕ) → drop (suc (length ds)) (digit_bytes ds (z ∷ r)) ≡ r
drop-digits ds r z = (λ i. drop (suc (sym (digits-as-many ds) i)) (digit-bytes ds [] (z ∷ r) i)) ∙ drop_past (digit_bytes ds []) r z

through-digits : (z : ℕ) (ds r : List ℕ) → z < digit_byte 0 → through_step z (digit_bytes ds (z ∷ r)) ≡ takes (suc (length ds)) (digit_bytes ds (z ∷ []))
through-digits z ds r n =
    ap (through_step z) (digit-bytes ds [] (z ∷ r))
    ∙ through-past z (leb (digit_byte 0)) (lt-leb (digit_byte 0) z n) (digit_bytes ds []) r (digits-high ds)
    ∙ (λ i. takes (suc (digits-as-many ds i)) (sym (digit-bytes ds [] (z ∷ [])) i))

-- ── a byte as it stands ─────────────────────────────────────────────────────────────────────────

module _ (l : List ℕ) where
  step-operator : (o : Operator) → step_of (operator_byte o) l ≡ takes 1 (operator_byte o ∷ [])
  unfolding step_of
  step-operator absolute = refl
  step-operator discard = refl
  step-operator negate = refl
  step-operator copy = refl
  step-operator write = refl
  step-operator Operator.newline = refl
  step-operator input = refl
  step-operator add = refl
  step-operator subtract = refl
  step-operator multiply = refl
  step-operator divide = refl

  step-access : (a : Access) → step_of (access_byte a) l ≡ takes 1 (access_byte a ∷ [])
  unfolding step_of
  step-access fetch = refl
  step-access save = refl

  step-condition : (c : Condition) → step_of (condition_byte c) l ≡ takes 1 (condition_byte c ∷ [])
  unfolding step_of
  step-condition negative = refl
  step-condition null = refl
  step-condition equal = refl

  -- no byte above `/` is another's
  step-high : (b : ℕ) → slash_byte < b → step_of b l ≡ takes 1 (b ∷ [])
  step-high b h =
      step_other l b (omega arith) (λ e. omega arith) (λ e. omega arith) (λ e. omega arith) (λ e. omega arith) (λ e. omega arith)

-- ── leading zeros ───────────────────────────────────────────────────────────────────────────────

-- digits without their leading zeros, where the byte z and then r come after them
record Stripped (z : ℕ) (r ds : List ℕ) : Type 0 where
  list : List ℕ
  each : Digits list
  plain : Plain list
  some : 1 ≤ length list
  value : value_from 0 list ≡ value_from 0 ds
  count : zeros (digit_bytes ds (z ∷ r)) + length list ≡ length ds
  left : drop (zeros (digit_bytes ds (z ∷ r))) (digit_bytes ds (z ∷ r)) ≡ digit_bytes list (z ∷ r)

-- they have none
stays : (z : ℕ) (r ds : List ℕ) → zeros (digit_bytes ds (z ∷ r)) ≡ 0 → Digits ds → Plain ds → 1 ≤ length ds → Stripped z r ds
stays z r ds e h p l =
    record {
      list = ds;
      each = h;
      plain = p;
      some = l;
      value = refl;
      count = omega arith;
      left = ap (λ (n : ℕ). drop n (digit_bytes ds (z ∷ r))) e;
    }

-- a 0 before no digit is no leading one
last-zero : (d z : ℕ) (r : List ℕ) → z < digit_byte 0 → zeros (digit_byte d ∷ z ∷ r) ≡ 0
last-zero zero z r h = rw (lt-leb (digit_byte 0) z h)
last-zero (suc d) z r h = rw (ne_eqb (digit_byte (suc d)) (digit_byte 0) (λ e. omega arith))

stripped : (z : ℕ) (r ds : List ℕ) → z < digit_byte 0 → Digits ds → 1 ≤ length ds → Stripped z r ds
stripped z r [] n h l = absurd (omega arith)
stripped z r (d ∷ []) n h l = stays z r (d ∷ []) (last-zero d z r n) h tt l
stripped z r (zero ∷ e ∷ ds) n h l =
    let s = stripped z r (e ∷ ds) n h.1 (omega arith) in
    let k : zeros (digit_bytes (zero ∷ e ∷ ds) (z ∷ r)) ≡ suc (zeros (digit_bytes (e ∷ ds) (z ∷ r))) = rw (le-leb (digit_byte 0) (digit_byte e) (omega arith)) in
    record {
      list = s.list;
      each = s.each;
      plain = s.plain;
      some = s.some;
      value = s.value;
      count = omega (arith, s.count);
      left = ap (λ (i : ℕ). drop i (digit_bytes (zero ∷ e ∷ ds) (z ∷ r))) k ∙ s.left;
    }
stripped z r (suc d ∷ e ∷ ds) n h l = stays z r (suc d ∷ e ∷ ds) (rw (ne_eqb (digit_byte (suc d)) (digit_byte 0) (λ x. omega arith))) h (omega arith) l

-- ── a number or a print ─────────────────────────────────────────────────────────────────────────

-- the digits that are copied, as decimals
module _ (z : ℕ) (r ds : List ℕ) (s : Stripped z r ds) (m : length ds ≤ max_digits) where
  value-digits : digits 10 (value_from 0 ds) ≡ digit_bytes s.list []
  value-digits = ap (digits 10) (sym s.value) ∙ plain-digits s.list s.each s.plain s.some (omega (arith, s.count))

-- the digits of ds after its zeros and the byte z, and what is written before them
number_step : (z : ℕ) (r ds b : List ℕ) (s : Stripped z r ds) → z < digit_byte 0
    → after (zeros (digit_bytes ds (z ∷ r))) (prefixed b (through_step z (drop (zeros (digit_bytes ds (z ∷ r))) (digit_bytes ds (z ∷ r)))))
    ≡ takes (suc (length ds)) (b ++ digit_bytes s.list (z ∷ []))
number_step z r ds b s n =
    let k = zeros (digit_bytes ds (z ∷ r)) in
    let e : k + suc (length s.list) ≡ suc (length ds) = omega (arith, s.count) in
    ap (λ (l : List ℕ). after k (prefixed b (through_step z l))) s.left
    ∙ ap (λ x. after k (prefixed b x)) (through-digits z s.list r n)
    ∙ ap (λ (i : ℕ). takes i (b ++ digit_bytes s.list (z ∷ []))) e

step-counter : (ds r : List ℕ) → Digits ds → 1 ≤ length ds → length ds ≤ max_digits
    → step_of dollar_byte (digit_bytes ds (dollar_byte ∷ r)) ≡ takes (suc (suc (length ds))) (counter_bytes (value_from 0 ds))
unfolding step_of
step-counter ds r h l m =
    let s = stripped dollar_byte r ds (omega arith) h l in
    let e : 1 + suc (length ds) ≡ suc (suc (length ds)) = omega arith in
    let d : digit_bytes s.list (dollar_byte ∷ []) ≡ decimal (pos (value_from 0 ds)) ++ dollar_byte ∷ [] =
    digit-bytes s.list [] (dollar_byte ∷ [])
    ∙ ap (λ (l : List ℕ). l ++ dollar_byte ∷ []) (sym (natural (value_from 0 ds) ∙ value-digits dollar_byte r ds s m))
    in
    ap (after 1) (number_step dollar_byte r ds (dollar_byte ∷ []) s (omega arith)) ∙ (λ i. takes (e i) (dollar_byte ∷ d i))

-- the sign and the digits of a value
sign-decimal : (s : Bool) (ds r : List ℕ) (v : ℕ) → Plain ds → 1 ≤ length ds → value_from 0 ds ≡ v → digits 10 v ≡ digit_bytes ds []
    → sign_bytes s (digit_bytes ds r) ++ digit_bytes ds [] ≡ decimal (signed s v)
unfolding decimal
sign-decimal false ds r v p l e d = sym d
sign-decimal true [] r v p l e d = absurd (omega arith)
sign-decimal true (zero ∷ []) r zero p l e d = sym d
sign-decimal true (zero ∷ []) r (suc v) p l e d = absurd (omega arith)
sign-decimal true (zero ∷ x ∷ ds) r v p l e d = absurd (omega arith)
sign-decimal true (suc c ∷ ds) r zero p l e d = let h = value-least (10 * 0 + suc c) ds in absurd (omega arith)
sign-decimal true (suc c ∷ ds) r (suc v) p l e d =
    ap (λ u. cond u [] (minus_byte ∷ []) ++ digit_bytes (suc c ∷ ds) []) (ne_eqb (digit_byte (suc c)) (digit_byte 0) (λ x. omega arith))
    ∙ ap (λ (b : List ℕ). minus_byte ∷ b) (sym d)

digits_stepped : (s : Bool) (ds r : List ℕ) → Number (constant_form s) ds
    → digits_step s (digit_bytes ds (tick_byte ∷ r)) ≡ takes (suc (length ds)) (constant_bytes (signed s (value_from 0 ds)))
digits_stepped s ds r h =
    let t = stripped tick_byte r ds (omega arith) h.0 h.1 in
    let l = digit_bytes ds (tick_byte ∷ r) in
    let g = sign_bytes s (digit_bytes t.list (tick_byte ∷ r)) in
    let d : g ++ digit_bytes t.list (tick_byte ∷ []) ≡ decimal (signed s (value_from 0 ds)) ++ tick_byte ∷ [] =
    ap (λ (x : List ℕ). g ++ x) (digit-bytes t.list [] (tick_byte ∷ []))
    ∙ sym (append_assoc g (digit_bytes t.list []) (tick_byte ∷ []))
    ∙ ap (λ (x : List ℕ). x ++ tick_byte ∷ [])
    (sign-decimal s t.list (tick_byte ∷ r) (value_from 0 ds) t.plain t.some t.value (value-digits tick_byte r ds t h.2))
    in
    ap (λ (x : List ℕ). after (zeros l) (prefixed (tick_byte ∷ slash_byte ∷ []) (prefixed (sign_bytes s x) (through_step tick_byte (drop (zeros l) l))))) t.left
    ∙ ap (prefixed (tick_byte ∷ slash_byte ∷ [])) (number_step tick_byte r ds g t (omega arith))
    ∙ ap (λ (x : List ℕ). takes (suc (length ds)) (tick_byte ∷ slash_byte ∷ x)) d

constant-step : (s : Bool) (ds r : List ℕ) → Number (constant_form s) ds
    → constant_step (minus_sign s (digit_bytes ds (tick_byte ∷ r))) ≡ takes (length (minus_sign s []) + suc (length ds)) (constant_bytes (signed s (value_from 0 ds)))
unfolding constant_step
constant-step true ds r h = ap (after 1) (digits_stepped true ds r h)
constant-step false [] r h = absurd (omega (arith, h.1))
constant-step false (d ∷ ds) r h =
    let e : suc (suc (length ds)) ≡ 0 + suc (suc (length ds)) = omega arith in
    ap (λ u. cond u (after 1 (digits_step true (digit_bytes ds (tick_byte ∷ r)))) (digits_step false (digit_bytes (d ∷ ds) (tick_byte ∷ r))))
    (ne_eqb (digit_byte d) minus_byte (λ x. omega arith))
    ∙ digits_stepped false (d ∷ ds) r h
    ∙ ap (λ (n : ℕ). takes n (constant_bytes (signed false (value_from 0 (d ∷ ds))))) e

step-constant : (s : Bool) (ds r : List ℕ) → Number (constant_form s) ds
    → step_of tick_byte (slash_byte ∷ minus_sign s (digit_bytes ds (tick_byte ∷ r)))
    ≡ takes (suc (suc (length (minus_sign s []) + suc (length ds)))) (constant_bytes (signed s (value_from 0 ds)))
unfolding step_of tick_step
step-constant s ds r h =
    let n = length (minus_sign s []) + suc (length ds) in
    let e : 1 + (1 + n) ≡ suc (suc n) = omega arith in
    ap (λ x. after 1 (after 1 x)) (constant-step s ds r h) ∙ ap (λ (k : ℕ). takes k (constant_bytes (signed s (value_from 0 ds)))) e

drop-constant : (s : Bool) (ds r : List ℕ) → drop (length (minus_sign s []) + suc (length ds)) (minus_sign s (digit_bytes ds (tick_byte ∷ r))) ≡ r
drop-constant true ds r =
    let e : 1 + suc (length ds) ≡ suc (suc (length ds)) = omega arith in
    ap (λ (n : ℕ). drop n (minus_byte ∷ digit_bytes ds (tick_byte ∷ r))) e ∙ drop-digits ds r tick_byte
drop-constant false ds r =
    let e : 0 + suc (length ds) ≡ suc (length ds) = omega arith in
    ap (λ (n : ℕ). drop n (digit_bytes ds (tick_byte ∷ r))) e ∙ drop-digits ds r tick_byte

step-print : (b r : List ℕ) → AllBytes print_byte b → step_of tick_byte (tick_byte ∷ b ++ tick_byte ∷ r) ≡ takes (suc (suc (suc (length b)))) (print_bytes b)
unfolding step_of tick_step
step-print b r h =
    let e : 1 + (1 + suc (length b)) ≡ suc (suc (suc (length b))) = omega arith in
    ap (λ x. after 1 (after 1 (prefixed (tick_byte ∷ tick_byte ∷ []) x))) (through-past tick_byte print_byte refl b r h)
    ∙ ap (λ (n : ℕ). takes n (print_bytes b)) e

step-comment : (b r : List ℕ) → AllBytes comment_byte b → step_of quote_byte (b ++ quote_byte ∷ r) ≡ takes (suc (suc (length b))) []
unfolding step_of
step-comment b r h =
    let e : 1 + suc (length b) ≡ suc (suc (length b)) = omega arith in
    ap (λ (n : ℕ). takes (1 + n) []) (reach-past quote_byte comment_byte refl b r h) ∙ ap (λ (n : ℕ). takes n []) e

-- ── lexemes ─────────────────────────────────────────────────────────────────────────────────────

steps-more : (b : ℕ) (l r : List ℕ) (k : ℕ) (a m : List ℕ) (n : ℕ) → step_of b l ≡ takes k a → drop k (b ∷ l) ≡ r → length (b ∷ l) ≤ n
    → ((j : ℕ) → length l ≤ j → steps j r ≡ m) → steps n (b ∷ l) ≡ a ++ m
steps-more b l r k a m zero e d h f = absurd (omega arith)
steps-more b l r k a m (suc n) e d h f =
    (λ i. (e i).bytes ++ steps n (drop (e i).taken (b ∷ l))) ∙ ap (λ (x : List ℕ). a ++ steps n x) d ∙ ap (λ (x : List ℕ). a ++ x) (f n (omega arith))

variable-digit : (d : ℕ) → d < 10 → variable_digit (digit_cell d) ≡ d
variable-digit zero h = refl
variable-digit (suc d) h = omega arith

pub steps-marks : (xs : List Lexeme) (c n : ℕ) → AllFormed xs → length (spell_all xs) ≤ n → steps n (spell_all xs) ≡ marks_bytes (marks_of c xs)
unfolding step_of
steps-marks [] c zero f h = refl
steps-marks [] c (suc n) f h = refl
steps-marks (blank ∷ xs) c n f h = steps-more _ _ _ 1 [] _ n refl refl h (λ j l. steps-marks xs c j f.1 l)
steps-marks (Lexeme.newline ∷ xs) c n f h = steps-more _ _ _ 1 [] _ n refl refl h (λ j l. steps-marks xs c j f.1 l)
steps-marks (comment b ∷ xs) c n f h =
    steps-more _ _ _ (suc (suc (length b))) [] _ n (step-comment b (spell_all xs) f.0) (drop_past b (spell_all xs) quote_byte) h
    (λ j l. steps-marks xs c j f.1 (omega (arith, length-append b (quote_byte ∷ spell_all xs))))
steps-marks (left ∷ xs) c n f h = steps-more _ _ _ 1 _ _ n refl refl h (λ j l. steps-marks xs c j f.1 l)
steps-marks (right ∷ xs) c n f h = steps-more _ _ _ 1 _ _ n refl refl h (λ j l. steps-marks xs c j f.1 l)
steps-marks (semicolon ∷ xs) c n f h = steps-more _ _ _ 1 _ _ n refl refl h (λ j l. steps-marks xs c j f.1 l)
steps-marks (comma ∷ xs) c n f h = steps-more _ _ _ 1 _ _ n refl refl h (λ j l. steps-marks xs c j f.1 l)
steps-marks (colon-sign ∷ xs) c n f h = steps-more _ _ _ 1 _ _ n refl refl h (λ j l. steps-marks xs c j f.1 l)
steps-marks (point ∷ xs) c n f h = steps-more _ _ _ 1 _ _ n refl refl h (λ j l. steps-marks xs c j f.1 l)
steps-marks (operator-of o ∷ xs) c n f h = steps-more _ _ _ 1 _ _ n (step-operator (spell_all xs) o) refl h (λ j l. steps-marks xs c j f.1 l)
steps-marks (condition-of t ∷ xs) c n f h = steps-more _ _ _ 1 _ _ n (step-condition (spell_all xs) t) refl h (λ j l. steps-marks xs c j f.1 l)
steps-marks (call-of a ∷ xs) c n f h = steps-more _ _ _ 1 _ _ n (step-high (spell_all xs) (letter_byte a) (omega arith)) refl h (λ j l. steps-marks xs c j f.1 l)
steps-marks (variable-of a d ∷ xs) c n f h =
    steps-more _ _ _ 1 (access_byte a ∷ []) (digit_byte d ∷ marks_bytes (marks_of c xs)) n (step-access (digit_byte d ∷ spell_all xs) a) refl h
    (λ j l. steps-more _ _ _ 1 (digit_byte d ∷ []) _ j (step-high (spell_all xs) (digit_byte d) (omega arith)) refl l (λ j' l'. steps-marks xs c j' f.1 l'))
    ∙ ap (λ (k : ℕ). access_byte a ∷ digit_byte k ∷ marks_bytes (marks_of c xs)) (sym (variable-digit d f.0))
steps-marks (counter-of ds ∷ xs) c n f h =
    steps-more _ _ _ (suc (suc (length ds))) (counter_bytes (value_from 0 ds)) _ n (step-counter ds (spell_all xs) f.0.0.0 f.0.0.1 (omega (arith, f.0.0.2)))
    (drop-digits ds (spell_all xs) dollar_byte) h (λ j l. steps-marks xs (suc c) j f.1 (omega (arith, digit-bytes-length ds (dollar_byte ∷ spell_all xs))))
    ∙ ap (λ (k : ℕ). counter_bytes k ++ marks_bytes (marks_of (suc c) xs)) (sym (counted (value_from 0 ds) f.0.1))
steps-marks (constant_of s ds ∷ xs) c n f h =
    steps-more _ _ _ (suc (suc (length (minus_sign s []) + suc (length ds)))) _ _ n (step-constant s ds (spell_all xs) f.0) (drop-constant s ds (spell_all xs)) h
    (λ j l. steps-marks xs c j f.1 (omega (arith, signed-length s ds (tick_byte ∷ spell_all xs))))
steps-marks (print-of b ∷ xs) c n f h =
    steps-more _ _ _ (suc (suc (suc (length b)))) (print_bytes b) _ n (step-print b (spell_all xs) f.0) (drop_past b (spell_all xs) tick_byte) h
    (λ j l. steps-marks xs c j f.1 (omega (arith, length-append b (tick_byte ∷ spell_all xs))))

-- Over an accepted text they write its fair copy.
pub steps-copy : (t : List ℕ) (w : Expr) → read t ≡ accepted w → steps (length t) t ≡ fair_copy w
steps-copy t w h =
    let g = (reading-sound t w h).grammar in
    (λ i. steps (length (g.bytes i)) (g.bytes i)) ∙ steps-marks g.lexemes 0 (length (spell_all g.lexemes)) g.formed (omega arith) ∙ ap marks_bytes g.order
