-- Numbers as decimal bytes: read from a text, and written into a buffer.
use Rattle.std.specs.Prelude.{◌≡◌, ℕ, ◌+◌, ◌-◌, ◌^◌, ◌≤◌, ◌<◌, Bool, false, cond, List, ℤ, pos, length, get_or, take, drop, replicate, leb}
use Rattle.std.proofs.Math.Seq.{paste}
use Rattle.language.specs.Limits.{max_value, write_width}
use Rattle.language.specs.Decimals.{max_digits, max_decimals}
use Rattle.language.specs.Bytes.{blank_byte, is_digit}
use Rattle.language.specs.Tokens.{signed}
use Rattle.language.specs.Grammar.{Digits, digit_bytes, value_from}
use Rattle.numerals.specs.declared.Numeral.{Numeral}

-- ── read ────────────────────────────────────────────────────────────────────────────────────────

-- n digits of the value v stand at place `from` of the text s
pub record DigitsAt (s : List ℕ) (from n v : ℕ) : Type 0 where
  pub list : List ℕ
  pub each : Digits list
  pub counted : length list ≡ n
  pub valued : value_from 0 list ≡ v
  pub bytes : drop from s ≡ digit_bytes list (drop (from + n) s)

-- The digits that stand at place `from` of the text s, at most `most` and at most 9. Where there are fewer, no digit comes after them, or the text ends.
pub record Reads (s : List ℕ) (from most : ℕ) (r : Numeral) : Type 0 where
  pub stand : DigitsAt s from r.count r.value
  pub few : r.count ≤ most
  pub short : r.count ≤ max_digits
  pub below : r.value < 10 ^ r.count
  pub inside : from ≤ length s → from + r.count ≤ length s
  pub whole : r.count < most → r.count < max_digits → from + r.count < length s → is_digit (get_or s (from + r.count) 0) ≡ false

-- a number, or its negative, where it is within the values; 0 where it is not
abbrev pub value_of : Bool → ℕ → ℤ
value_of minus n = cond (leb n max_value) (signed minus n) (pos 0)

-- ── written ─────────────────────────────────────────────────────────────────────────────────────

-- a buffer that bytes were written into, and the place after them
pub record Written : Type 0 where
  pub next : ℕ
  pub buffer : List ℕ

-- the two together
abbrev pub wrote : ℕ → List ℕ → Written
wrote n o = record { next = n; buffer = o }

-- The bytes b at a place of the buffer o. Where they do not all fit, nothing is written.
unfoldable pub written : List ℕ → ℕ → List ℕ → Written
written o at b = cond (leb (at + length b) (length o)) (wrote (at + length b) (paste o at b (length b))) (wrote at o)

-- ── delivered ───────────────────────────────────────────────────────────────────────────────────

-- What a call that writes bytes into a lent buffer leaves: its number, how many it wrote, and the buffer.
pub record Delivery : Type 0 where
  pub number : ℕ
  pub length : ℕ
  pub buffer : List ℕ

-- these three together
abbrev pub delivers : ℕ → ℕ → List ℕ → Delivery
delivers n k o = record { number = n; length = k; buffer = o }

-- The bytes b for the buffer o: 0 and all of them at its start, the bytes past them as they were; or, where they do not all fit, the number `short`
-- alone, and the buffer as it was.
abbrev pub delivered : ℕ → List ℕ → List ℕ → Delivery
delivered short o b = cond (leb (length b) (length o)) (delivers 0 (length b) (paste o 0 b (length b))) (delivers short 0 o)

-- ── columns ─────────────────────────────────────────────────────────────────────────────────────

-- the columns that a number is rendered in: a `-` and ten digits fit, and a point and two digits after them
abbrev pub max_columns : ℕ
max_columns = write_width

-- the column of the point: two digits stand after it
abbrev pub point_column : ℕ
point_column = max_columns - 3

-- the bytes d are the last of a text of so many columns, from place k on, and blanks stand before them
pub record Ends (text : List ℕ) (k : ℕ) (d : List ℕ) : Type 0 where
  pub columns : length text ≡ max_columns
  pub room : k ≤ max_columns
  pub blanks : take k text ≡ replicate k blank_byte
  pub rest : drop k text ≡ d

-- blanks stand before place k of a text of so many columns, and a `-` and ten digits fit there
pub record Roomy (text : List ℕ) (k : ℕ) : Type 0 where
  pub fits : max_decimals ≤ k
  pub ends : Ends text k (drop k text)
