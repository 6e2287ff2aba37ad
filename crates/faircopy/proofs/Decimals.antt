-- A number in decimals: the digits that it has, and how many.
use mathlib.Core.Path.{◌≡◌, refl, sym, ap, ◌∙◌}
use mathlib.Core.Bool.{Bool, true, false}
use mathlib.Core.List.{List, [], ◌∷◌, ◌++◌, append_assoc, append-nil}
use Prim.Native.Nat.{ℕ, zero, suc, ◌+◌, ◌*◌, ◌-◌, ◌/◌, ◌%◌, ◌^◌, ◌≤◌, ◌<◌}
use native.Mathlib.Nat.{pow-succ'}
use native.Mathlib.Omega.{arith}
use lib.Dec.{ltb}
use lib.IntN.{pos}
use lib.ListN.{length, length-append}
use borrow.Author.Tests.{ltb-true, ltb-false}
use Rattle.language.specs.Bytes.{digit_byte}
use Rattle.language.specs.Decimals.{max_digits, digits, decimal}
use Rattle.language.specs.Grammar.{Digits, digit_bytes, minus_sign, value_from}
use Rattle.language.specs.Tokens.{signed}
use Rattle.language.proofs.GrammarMarks.{value-bound}
use Rattle.language.proofs.Decimals.{room_for, many, few}
use Rattle.numerals.proofs.Numerals.{digits_more, value-more, bytes-more, pow-up}
use Rattle.faircopy.specs.Claims.{Plain}

-- ── digits as bytes ─────────────────────────────────────────────────────────────────────────────

pub digit-bytes : (ds a r : List ℕ) → digit_bytes ds (a ++ r) ≡ digit_bytes ds a ++ r
digit-bytes [] a r = refl
digit-bytes (d ∷ ds) a r = ap (λ (l : List ℕ). digit_byte d ∷ l) (digit-bytes ds a r)

pub digit-bytes-length : (ds r : List ℕ) → length (digit_bytes ds r) ≡ length ds + length r
digit-bytes-length [] r = omega arith
digit-bytes-length (d ∷ ds) r = let e = digit-bytes-length ds r in omega arith

-- ── the digits of a number ──────────────────────────────────────────────────────────────────────

-- the bytes b are digits of the value n
pub record Spelled (n : ℕ) (b : List ℕ) : Type 0 where
  pub list : List ℕ
  pub each : Digits list
  pub some : 1 ≤ length list
  pub value : value_from 0 list ≡ n
  pub bytes : b ≡ digit_bytes list []

one-digit : (f n : ℕ) → n < 10 → Spelled n (digits (suc f) n)
one-digit f n h = record { list = n ∷ []; each = (h, tt); some = omega arith; value = omega arith; bytes = few f n h }

-- A number below ten to the f + 1 is what its digits say.
pub spelled : (f n : ℕ) → n < 10 ^ suc f → Spelled n (digits (suc f) n)
spelled zero n h = one-digit zero n (omega arith)
spelled (suc f) n h = let p = pow-succ' 10 (suc f) in go (ltb n 10) refl (spelled f (n / 10) (omega arith))
  where
    go : (u : Bool) → ltb n 10 ≡ u → Spelled (n / 10) (digits (suc f) (n / 10)) → Spelled n (digits (suc (suc f)) n)
    go true e s = one-digit (suc f) n (ltb-true n 10 e)
    go false e s =
        let v = s.value in
        record {
          list = s.list ++ (n % 10 ∷ []);
          each = digits_more s.list (n % 10) s.each (omega arith);
          some = omega (arith, length-append s.list (n % 10 ∷ []), s.some);
          value = value-more 0 s.list (n % 10) ∙ omega arith;
          bytes =
              many (suc f) n (ltb-false n 10 e)
              ∙ ap (λ (l : List ℕ). l ++ (digit_byte (n % 10) ∷ [])) s.bytes
              ∙ sym (digit-bytes s.list [] (digit_byte (n % 10) ∷ []))
              ∙ sym (bytes-more s.list (n % 10) []);
        }

-- A number below ten to the k has at most k digits.
pub digits-few : (f n k : ℕ) → 1 ≤ k → n < 10 ^ k → length (digits f n) ≤ k
unfolding digits
digits-few zero n k h s = omega arith
digits-few (suc f) n zero h s = absurd (omega arith)
digits-few (suc f) n (suc k) h s =
    let p = pow-succ' 10 k in
    go (ltb n 10) refl (λ g. digits-few f (n / 10) k (room_for n k g s) (omega arith))
  where
    go : (u : Bool) → ltb n 10 ≡ u → (9 < n → length (digits f (n / 10)) ≤ k) → length (digits (suc f) n) ≤ suc k
    go true e r = let c = ap length (few f n (ltb-true n 10 e)) in omega arith
    go false e r =
        let g : 9 < n = ltb-false n 10 e in
        let c = ap length (many f n g) in
        let a = length-append (digits f (n / 10)) (digit_byte (n % 10) ∷ []) in
        let i = r g in
        omega arith

-- Digits are at least as many as their value has.
pub value-few : (ds : List ℕ) → Digits ds → 1 ≤ length ds → length (digits 10 (value_from 0 ds)) ≤ length ds
value-few ds h l = digits-few 10 (value_from 0 ds) (length ds) l (value-bound ds 0 0 (length ds) h (omega arith) (omega arith))

-- ── a value ─────────────────────────────────────────────────────────────────────────────────────

-- a natural number in decimals
pub natural : (n : ℕ) → decimal (pos n) ≡ digits 10 n
unfolding decimal
natural n = refl

-- With its sign a value takes no more bytes than the sign and the digits that it is written with.
pub value-shorter : (s : Bool) (n k : ℕ) → length (digits 10 n) ≤ k → 1 ≤ k → length (decimal (signed s n)) ≤ length (minus_sign s []) + k
unfolding decimal
value-shorter true zero k h l = omega arith
value-shorter true (suc n) k h l = omega arith
value-shorter false n k h l = omega arith

-- ── digits without leading zeros ────────────────────────────────────────────────────────────────

digits-snoc : (f v d : ℕ) → 1 ≤ v → d < 10 → digits (suc f) (10 * v + d) ≡ digits f v ++ (digit_byte d ∷ [])
digits-snoc f v d h l =
    let q : (10 * v + d) / 10 ≡ v = omega arith in
    let r : (10 * v + d) % 10 ≡ d = omega arith in
    many f (10 * v + d) (omega arith) ∙ (λ i. digits f (q i) ++ (digit_byte (r i) ∷ []))

-- the digits of a number, and then more
digits-after : (ds : List ℕ) (f v : ℕ) → 1 ≤ v → Digits ds → digits (f + length ds) (value_from v ds) ≡ digits f v ++ digit_bytes ds []
digits-after [] f v h k = let e : f + 0 ≡ f = omega arith in ap (λ (n : ℕ). digits n v) e ∙ sym (append-nil (digits f v))
digits-after (d ∷ ds) f v h k =
    let e : f + suc (length ds) ≡ suc f + length ds = omega arith in
    ap (λ (n : ℕ). digits n (value_from (10 * v + d) ds)) e
    ∙ digits-after ds (suc f) (10 * v + d) (omega arith) k.1
    ∙ ap (λ (l : List ℕ). l ++ digit_bytes ds []) (digits-snoc f v d h k.0)
    ∙ append_assoc (digits f v) (digit_byte d ∷ []) (digit_bytes ds [])

-- A number of at most f digits has no more where one more is allowed.
digits-enough : (f n : ℕ) → 1 ≤ f → n < 10 ^ f → digits (suc f) n ≡ digits f n
digits-enough zero n h s = absurd (omega arith)
digits-enough (suc f) n h s =
    let p = pow-succ' 10 f in
    go (ltb n 10) refl (λ g. digits-enough f (n / 10) (room_for n f g s) (omega arith))
  where
    go : (u : Bool) → ltb n 10 ≡ u → (9 < n → digits (suc f) (n / 10) ≡ digits f (n / 10)) → digits (suc (suc f)) n ≡ digits (suc f) n
    go true e r = few (suc f) n (ltb-true n 10 e) ∙ sym (few f n (ltb-true n 10 e))
    go false e r =
        let g : 9 < n = ltb-false n 10 e in
        many (suc f) n g ∙ ap (λ (d : List ℕ). d ++ (digit_byte (n % 10) ∷ [])) (r g) ∙ sym (many f n g)

-- more digits than there are change nothing
digits-more-than : (j k n : ℕ) → 1 ≤ k → n < 10 ^ k → digits (j + k) n ≡ digits k n
digits-more-than zero k n h l = let e : 0 + k ≡ k = omega arith in ap (λ (m : ℕ). digits m n) e
digits-more-than (suc j) k n h l =
    let e : suc j + k ≡ suc (j + k) = omega arith in
    ap (λ (m : ℕ). digits m n) e ∙ digits-enough (j + k) n (omega arith) (pow-up n k (j + k) (omega arith) l) ∙ digits-more-than j k n h l

-- Digits without leading zeros are those of their value.
pub plain-digits : (ds : List ℕ) → Digits ds → Plain ds → 1 ≤ length ds → length ds ≤ max_digits → digits 10 (value_from 0 ds) ≡ digit_bytes ds []
plain-digits [] h p l m = absurd (omega arith)
plain-digits (d ∷ []) h p l m = let e : 10 * 0 + d ≡ d = omega arith in ap (digits 10) e ∙ few 9 d h.0
plain-digits (zero ∷ e ∷ ds) h p l m = absurd (omega arith)
plain-digits (suc d ∷ e ∷ ds) h p l m =
    let r = e ∷ ds in
    let n = value_from 0 (suc d ∷ r) in
    let k = 1 + length r in
    let x : 10 * 0 + suc d ≡ suc d = omega arith in
    let j : 10 ≡ (10 - k) + k = omega arith in
    ap (λ (f : ℕ). digits f n) j
    ∙ digits-more-than (10 - k) k n (omega arith) (value-bound (suc d ∷ r) 0 0 k h (omega arith) (omega arith))
    ∙ ap (λ (v : ℕ). digits k (value_from v r)) x
    ∙ digits-after r 1 (suc d) (omega arith) h.1
    ∙ ap (λ (b : List ℕ). b ++ digit_bytes r []) (few 0 (suc d) h.0)

-- the value of digits after v is no less
pub value-least : (v : ℕ) (ds : List ℕ) → v ≤ value_from v ds
value-least v [] = omega arith
value-least v (d ∷ ds) = let h = value-least (10 * v + d) ds in omega arith
