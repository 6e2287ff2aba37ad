-- Digits read one after the other, and bytes written one after the other.
use mathlib.Core.Path.{◌≡◌, refl, sym, ap, ◌∙◌}
use mathlib.Core.Bool.{true, false}
use mathlib.Core.List.{List, [], ◌∷◌, ◌++◌, append_assoc}
use Prim.Native.Nat.{ℕ, suc, ◌+◌, ◌*◌, ◌-◌, ◌^◌, ◌≤◌, ◌<◌}
use native.Mathlib.Nat.{pow-suc, pow-le-pow_right}
use native.Mathlib.Numerals.{add-one}
use native.Mathlib.Omega.{arith}
use lib.ListN.{length, get_or, take, drop, replicate, length-append, length-drop, length-replicate}
use Rattle.std.specs.List.{slice_range}
use lib.Seq.{get_or-take, get_or-drop, paste, drop-cons, drop-drop, take_all, take-length, take-paste, drop-paste, length-paste, length-take-le}
use lib.Dec.{lit<, leb}
use borrow.Rule.Slice.PartMut.{put_mid}
use borrow.Author.Tests.{le-leb, lt-leb, leb-true}
use Rattle.language.specs.Decimals.{max_digits, justified}
use Rattle.language.specs.Bytes.{blank_byte, digit_byte}
use Rattle.language.specs.Grammar.{Digits, digit_bytes, value_from}
use Rattle.language.proofs.Copies.{Pasting, pasting-done}
use Rattle.numerals.specs.Numerals.{DigitsAt, Written, wrote, written, delivers, delivered, Ends}

-- ── read ────────────────────────────────────────────────────────────────────────────────────────

pub digits_more : (l : List ℕ) (d : ℕ) → Digits l → d < 10 → Digits (l ++ (d ∷ []))
digits_more [] d h k = (k, tt)
digits_more (x ∷ l) d h k = (h.0, digits_more l d h.1 k)

pub value-more : (v : ℕ) (l : List ℕ) (d : ℕ) → value_from v (l ++ (d ∷ [])) ≡ 10 * value_from v l + d
value-more v [] d = refl
value-more v (x ∷ l) d = value-more (10 * v + x) l d

pub bytes-more : (l : List ℕ) (d : ℕ) (r : List ℕ) → digit_bytes (l ++ (d ∷ [])) r ≡ digit_bytes l (digit_byte d ∷ r)
bytes-more [] d r = refl
bytes-more (x ∷ l) d r = ap (λ (t : List ℕ). digit_byte x ∷ t) (bytes-more l d r)

-- the value of one more digit
pub pow_more : (v d n : ℕ) → v < 10 ^ n → d < 10 → 10 * v + d < 10 ^ (n + 1)
pow_more v d n h k = let e : 10 ^ (n + 1) ≡ 10 ^ n * 10 = ap (λ j. 10 ^ j) (add-one n) ∙ pow-suc 10 n in omega arith

-- A number of n digits has m digits at most, where m is no less.
pub pow-up : (v n m : ℕ) → n ≤ m → v < 10 ^ n → v < 10 ^ m
pow-up v n m h k = let l = pow-le-pow_right {n = 10} (lit< tt) h in omega arith

-- after n digits of the value v, at place i
pub record Reading (s : List ℕ) (from most i n v : ℕ) : Type 0 where
  pub stand : DigitsAt s from n v
  pub place : i ≡ from + n
  pub few : n ≤ most
  pub short : n ≤ max_digits
  pub below : v < 10 ^ n
  pub inside : from ≤ length s → i ≤ length s

module _ (s : List ℕ) (from most i n v : ℕ) (r : Reading s from most i n v) where
  -- one digit more
  pub reading-more : i < length s → n < most → n < max_digits → digit_byte 0 ≤ get_or s i 0 → get_or s i 0 ≤ digit_byte 9
      → Reading s from most (i + 1) (n + 1) (10 * v + (get_or s i 0 - digit_byte 0))
  reading-more h m k a b =
      let d = get_or s i 0 - digit_byte 0 in
      let e : digit_byte d ≡ get_or s i 0 = omega arith in
      let j : suc i ≡ from + (n + 1) = omega (arith, r.place) in
      record {
        stand =
            record {
              list = r.stand.list ++ (d ∷ []);
              each = digits_more r.stand.list d r.stand.each (omega arith);
              counted = length-append r.stand.list (d ∷ []) ∙ ap (λ (x : ℕ). x + 1) r.stand.counted;
              valued = value-more 0 r.stand.list d ∙ ap (λ (x : ℕ). 10 * x + d) r.stand.valued;
              bytes =
                  r.stand.bytes
                  ∙ ap (λ (x : ℕ). digit_bytes r.stand.list (drop x s)) (sym r.place)
                  ∙ ap (digit_bytes r.stand.list) (drop-cons s i 0 h)
                  ∙ ap (λ (x : ℕ). digit_bytes r.stand.list (x ∷ drop (suc i) s)) (sym e)
                  ∙ sym (bytes-more r.stand.list d (drop (suc i) s))
                  ∙ ap (λ (x : ℕ). digit_bytes (r.stand.list ++ (d ∷ [])) (drop x s)) j;
            };
        place = omega (arith, r.place);
        few = omega arith;
        short = omega arith;
        below = pow_more v d n r.below (omega arith);
        inside = λ _. omega arith;
      }

-- a byte of the rest of a text
pub rest-at : (s r : List ℕ) (from i : ℕ) → r ≡ slice_range s from (length s) → length r + from ≡ length s → i < length r
    → get_or r i 0 ≡ get_or s (from + i) 0
rest-at s r from i e n h = ap (λ (t : List ℕ). get_or t i 0) e ∙ get_or-take (length s - from) (drop from s) i 0 (omega arith) ∙ get_or-drop from s i 0

-- ── written ─────────────────────────────────────────────────────────────────────────────────────

module _ (o : List ℕ) (at : ℕ) (b : List ℕ) where
  -- Bytes that fit are written.
  pub written-room : at + length b ≤ length o → wrote (at + length b) (paste o at b (length b)) ≡ written o at b
  unfolding written
  written-room h = sym (rw (le-leb (at + length b) (length o) h))

  -- Bytes that do not all fit are not.
  pub written-no-room : leb (at + length b) (length o) ≡ false → wrote at o ≡ written o at b
  unfolding written
  written-no-room e = sym (rw e)

-- the same over a whole buffer, as a call leaves it
module _ (short : ℕ) (o b : List ℕ) where
  pub delivered-whole : length b ≤ length o → delivers 0 (length b) (paste o 0 b (length b)) ≡ delivered short o b
  delivered-whole h = sym (rw (le-leb (length b) (length o) h))

  pub delivered-short : length o < length b → delivers short 0 o ≡ delivered short o b
  delivered-short h = sym (rw (lt-leb (length b) (length o) h))

-- the bytes b stand in the place of as many of the buffer
pub placed : (o : List ℕ) (at m : ℕ) (b part : List ℕ) → m ≡ length b → part ≡ b → at + m ≤ length o
    → wrote (at + m) (put_mid at (at + m - at) o part) ≡ written o at b
placed o at m b part n e h =
    let k : at + length b - at ≡ length b = omega arith in
    let s : put_mid at (at + length b - at) o b ≡ paste o at b (length b) =
    (λ i. take at o ++ (b ++ drop (k i) (drop at o)))
    ∙ (λ i. take at o ++ (b ++ drop-drop (length b) at o i))
    ∙ sym (append_assoc (take at o) b (drop (at + length b) o))
    ∙ (λ i. take at o ++ sym (take-length b) i ++ drop (at + length b) o) in
    rw (n, e) (ap (wrote (at + length b)) s ∙ written-room o at b (omega arith))

-- all bytes b are copied to a place of the buffer
pub pasted : (o : List ℕ) (at : ℕ) (b out : List ℕ) (i : ℕ) → Pasting o at b (length b) out i → length b ≤ i → wrote (at + i) out ≡ written o at b
pasted o at b out i p h =
    let e : i ≡ length b = omega (arith, p.within) in
    (λ j. wrote (at + e j) (pasting-done o at b (length b) out i p h j)) ∙ written-room o at b p.room

-- a place has as many bytes as fit
pub place-length : (o : List ℕ) (at m : ℕ) → at + m ≤ length o → length (take (at + m - at) (drop at o)) ≡ m
place-length o at m h = let k : at + m - at ≡ m = omega arith in rw k (length-take-le m (drop at o) (omega (arith, length-drop at o)))

-- bytes pasted after others
paste-two : (o : List ℕ) (at : ℕ) (a b : List ℕ) → at + length a ≤ length o
    → paste (paste o at a (length a)) (at + length a) b (length b) ≡ paste o at (a ++ b) (length (a ++ b))
paste-two o at a b h =
    let p = paste o at a (length a) in
    let d : drop (at + length a + length b) p ≡ drop (at + length (a ++ b)) o =
    sym (drop-drop (length b) (at + length a) p)
    ∙ ap (drop (length b)) (drop-paste o at a (length a) (omega arith) (omega arith))
    ∙ drop-drop (length b) (at + length a) o
    ∙ (let e : at + length a + length b ≡ at + length (a ++ b) = omega (arith, length-append a b) in ap (λ (n : ℕ). drop n o) e) in
    (λ i. take-paste o at a (length a) (omega arith) (omega arith) i ++ take (length b) b ++ d i)
    ∙ (λ i. take at o ++ take-length a i ++ take-length b i ++ drop (at + length (a ++ b)) o)
    ∙ ap (λ (l : List ℕ). l ++ drop (at + length (a ++ b)) o) (append_assoc (take at o) a b)
    ∙ (λ i. take at o ++ sym (take-length (a ++ b)) i ++ drop (at + length (a ++ b)) o)

-- Bytes written, and others after them, all of which fit, are written as one.
pub written-two : (o : List ℕ) (at : ℕ) (a b : List ℕ) {o₁ o₂ : List ℕ} {m r : ℕ}
    → wrote m o₁ ≡ written o at a → wrote r o₂ ≡ written o₁ m b → at + length a + length b ≤ length o → wrote r o₂ ≡ written o at (a ++ b)
written-two o at a b {o₁} {o₂} {m} {r} p q h =
    let s = p ∙ sym (written-room o at a (omega arith)) in
    let em : m ≡ at + length a = ap (λ (x : Written). x.next) s in
    let eo : o₁ ≡ paste o at a (length a) = ap (λ (x : Written). x.buffer) s in
    let n : length o₁ ≡ length o = ap length eo ∙ length-paste o at a (length a) (omega arith) (omega arith) in
    q
    ∙ sym (written-room o₁ m b (omega arith))
    ∙ (λ i. wrote (em i + length b) (paste (eo i) (em i) b (length b)))
    ∙ (let e : at + length a + length b ≡ at + length (a ++ b) = omega (arith, length-append a b) in λ i. wrote (e i) (paste-two o at a b (omega arith) i))
    ∙ written-room o at (a ++ b) (omega (arith, length-append a b))

-- ── a number in a width ─────────────────────────────────────────────────────────────────────────

-- the part of the columns in which it stands
pub ends-part : (text : List ℕ) (k : ℕ) (d : List ℕ) → Ends text k d → take (length text - k) (drop k text) ≡ d
ends-part text k d e = take_all (length text - k) (drop k text) (omega (arith, length-drop k text)) ∙ e.rest

module _ (o : List ℕ) (at w b : ℕ) (d : List ℕ) (f : b ≡ w - length d) where
  by-blanks : justified w d ≡ replicate b blank_byte ++ d
  unfolding justified
  by-blanks = ap (λ (n : ℕ). replicate n blank_byte ++ d) (sym f)

  by-columns : length (justified w d) ≡ b + length d
  by-columns = ap length by-blanks ∙ simp (length-append, length-replicate)

  -- it does not fit
  pub number-no-room : leb (at + (b + length d)) (length o) ≡ false → wrote at o ≡ written o at (justified w d)
  number-no-room h = written-no-room o at (justified w d) (ap (λ (n : ℕ). leb (at + n) (length o)) by-columns ∙ h)

  -- the blanks, and then the bytes
  pub number-written : {o₁ o₂ : List ℕ} {m r : ℕ} → leb (at + (b + length d)) (length o) ≡ true
      → wrote m o₁ ≡ written o at (replicate b blank_byte) → wrote r o₂ ≡ written o₁ m d → wrote r o₂ ≡ written o at (justified w d)
  number-written {o₁} {o₂} {m} {r} h p q =
      let g : at + (b + length d) ≤ length o = leb-true _ _ h in
      let room : at + length (replicate b blank_byte) + length d ≤ length o = omega (arith, length-replicate b blank_byte) in
      rw by-blanks (written-two o at (replicate b blank_byte) d p q room)
