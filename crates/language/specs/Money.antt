-- Document 02, U6: "Money with a point." How `O` writes a value, which is an amount in cents, and how that is read back.
use Rattle.std.specs.Prelude.{ℕ, suc, ◌+◌, ◌*◌, ◌/◌, ◌%◌, Bool, true, false, cond, ◌&&◌, List, [], ◌∷◌, ◌++◌, ℤ, pos, negsuc, eqb}
use Rattle.std.proofs.Math.Option.{Option, none, some}
use Rattle.language.specs.Bytes.{blank_byte, minus_byte, point_byte, digit_byte, is_digit, digit_of}
use Rattle.language.specs.Decimals.{digits, decimals}
use Rattle.language.specs.Tokens.{signed}

-- ── written ─────────────────────────────────────────────────────────────────────────────────────

-- "units .. and two digits of cents": so many cents are a unit
abbrev pub unit_cents : ℕ
unit_cents = 100

-- "a point and two digits of cents"
abbrev pub pointed : ℕ → List ℕ
pointed c = point_byte ∷ digit_byte (c / 10) ∷ digit_byte (c % 10) ∷ []

-- "units, a point and two digits of cents": n cents, after a `-` if it is said
abbrev pub amount : Bool → ℕ → List ℕ
amount minus n = decimals minus (n / unit_cents) ++ pointed (n % unit_cents)

-- a value so, after a `-` where it is negative: "5 is `0.05`, -5 is `-0.05`, -1250 is `-12.50`, 0 is `0.00`"
unfoldable pub money : ℤ → List ℕ
unfolding digits
money (pos n) = amount false n
money (negsuc n) = amount true (suc n)

-- ── read back ───────────────────────────────────────────────────────────────────────────────────

-- after u units and the point: two digits of cents, and nothing more
abbrev pub read_cents : ℕ → List ℕ → Option ℕ
read_cents u [] = none
read_cents u (t ∷ []) = none
read_cents u (t ∷ o ∷ []) = cond (is_digit t && is_digit o) (some (unit_cents * u + (10 * digit_of t + digit_of o))) none
read_cents u (t ∷ o ∷ b ∷ l) = none

-- after digits of the value u: digits of units, and then the point
unfoldable pub read_units : ℕ → List ℕ → Option ℕ
read_units u [] = none
read_units u (b ∷ l) = let r = read_units (10 * u + digit_of b) l in cond (is_digit b) r (cond (eqb b point_byte) (read_cents u l) none)

-- at least one digit of units
abbrev pub read_amount : List ℕ → Option ℕ
read_amount [] = none
read_amount (b ∷ l) = cond (is_digit b) (read_units (digit_of b) l) none

-- an amount, or minus an amount
abbrev pub with_sign : Bool → Option ℕ → Option ℤ
with_sign minus none = none
with_sign minus (some n) = some (signed minus n)

-- What the bytes of a slip say, in cents: blanks, a `-` if there is one, units, a point and two digits of cents. Other bytes are no amount.
unfoldable pub read_money : List ℕ → Option ℤ
unfolding read_units
read_money [] = none
read_money (b ∷ l) =
    let r = read_money l in
    cond (eqb b blank_byte) r (cond (eqb b minus_byte) (with_sign true (read_amount l)) (with_sign false (read_amount (b ∷ l))))
