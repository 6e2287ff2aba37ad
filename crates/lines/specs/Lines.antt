-- The form of a desk line: from its bytes, without the newline, to what it asks for. The form of the whole line comes before what it asks for.
use Rattle.std.specs.Prelude.{ℕ, suc, ◌+◌, ◌*◌, ◌-◌, Bool, true, false, cond, List, [], ◌∷◌, ◌++◌, ℤ, length, leb, ltb, eqb}
use Rattle.language.specs.Decimals.{max_digits}
use Rattle.language.specs.Bytes.{blank_byte, digit_byte, is_digit, minus_byte}
use Rattle.language.specs.Tokens.{signed}

-- "lines to 300 bytes before the newline"
abbrev pub max_line : ℕ
max_line = 300

-- inputs "at most 64"
abbrev pub max_inputs : ℕ
max_inputs = 64

-- "14 bad line: a desk line breaks its form"
abbrev pub bad_line : ℕ
bad_line = 14

-- the byte of `D`
abbrev pub define_byte : ℕ
define_byte = 68

-- the byte of `X`
abbrev pub withdraw_byte : ℕ
withdraw_byte = 88

-- the byte of `R`
abbrev pub run_byte : ℕ
run_byte = 82

-- "`D` letter text, `X` letter, `R` letter allowance inputs". "bad line: a desk line breaks its form" is `bad`.
pub data Request : Type 0 where
  define : ℕ → List ℕ → Request
  withdraw : ℕ → Request
  run : ℕ → ℕ → List ℤ → Request
  bad : Request

-- k where a test holds, and `bad` where it does not
unfoldable pub provided : Bool → (Unit {0} → Request) → Request
provided true k = k tt
provided false k = bad

-- ── the numbers of a run ────────────────────────────────────────────────────────────────────────

-- The number being read: the allowance, or an input after the allowance and the inputs before it, `true` after a `-`.
pub data Field : Type 0 where
  allowance : Field
  input : ℕ → List ℤ → Bool → Field

-- the allowance once the number is whole, v its digits' value
abbrev pub allowed : Field → ℕ → ℕ
allowed allowance v = v
allowed (input a x s) v = a

-- the inputs then
abbrev pub given : Field → ℕ → List ℤ
given allowance v = []
given (input a x s) v = x ++ (signed s v ∷ [])

-- Where the scan is: an input is due, "perhaps with `-`", after an allowance and inputs; or in a number, after n digits of the value v.
pub data Mode : Type 0 where
  sign : ℕ → List ℤ → Mode
  number : Field → ℕ → ℕ → Mode

-- In what follows k gives what the bytes that come after ask for, from a mode on.

-- a byte of a number: a digit, the blank after it, or another. "whole numbers of 1 to 9 digits", "one blank between fields", inputs "at most 64"
unfoldable pub numbered : Bool → Bool → ℕ → Field → ℕ → ℕ → (Mode → Request) → Request
unfolding provided
numbered true e b f n v k = provided (ltb n max_digits) (λ _. k (number f (suc n) (10 * v + (b - digit_byte 0))))
numbered false true b f n v k = provided (ltb 0 n) (λ _. provided (ltb (length (given f v)) max_inputs) (λ _. k (sign (allowed f v) (given f v))))
numbered false false b f n v k = bad

-- the byte b in a number
unfoldable pub scan_number : Field → ℕ → ℕ → ℕ → (Mode → Request) → Request
unfolding numbered
scan_number f n v b k = numbered (is_digit b) (eqb b blank_byte) b f n v k

-- the first byte of an input: `-`, or one of its number
unfoldable pub signs : Bool → ℕ → ℕ → List ℤ → (Mode → Request) → Request
unfolding scan_number
signs true b a x k = k (number (input a x true) 0 0)
signs false b a x k = scan_number (input a x false) 0 0 b k

-- the byte b in a mode
unfoldable pub scan : Mode → ℕ → (Mode → Request) → Request
unfolding scan_number signs
scan (sign a x) b k = signs (eqb b minus_byte) b a x k
scan (number f n v) b k = scan_number f n v b k

-- the end of the line, in a run of letter l
unfoldable pub finish : ℕ → Mode → Request
unfolding provided
finish l (sign a x) = bad
finish l (number f n v) = provided (ltb 0 n) (λ _. run l (allowed f v) (given f v))

-- what the rest of a run's line asks for, from a mode on
unfoldable pub fields : List ℕ → ℕ → Mode → Request
unfolding scan finish
fields [] l m = finish l m
fields (b ∷ t) l m = scan m b (λ m'. fields t l m')

-- ── lines ───────────────────────────────────────────────────────────────────────────────────────

-- "else 14, so too `D q` with no blank after the letter, while `D q` and one blank carries the empty text"
unfoldable pub definition : ℕ → List ℕ → Request
unfolding provided
definition l [] = bad
definition l (b ∷ t) = provided (eqb b blank_byte) (λ _. define l t)

-- nothing comes after the letter of a withdrawal
unfoldable pub withdrawal : ℕ → List ℕ → Request
withdrawal l [] = withdraw l
withdrawal l (b ∷ t) = bad

-- a blank and the allowance come after the letter of a run
unfoldable pub execution : ℕ → List ℕ → Request
unfolding provided fields
execution l [] = bad
execution l (b ∷ t) = provided (eqb b blank_byte) (λ _. fields t l (number allowance 0 0))

-- the line's first byte, `D`, `X` or `R`, its letter, and what comes after the letter
unfoldable pub ordered : ℕ → ℕ → List ℕ → Request
unfolding definition withdrawal execution
ordered c l t =
    cond (eqb c define_byte) (definition l t) (cond (eqb c withdraw_byte) (withdrawal l t) (cond (eqb c run_byte) (execution l t) bad))

-- "the letter one byte", "one blank between fields"
unfoldable pub form : List ℕ → Request
unfolding provided ordered
form [] = bad
form (c ∷ []) = bad
form (c ∷ b ∷ []) = bad
form (c ∷ b ∷ l ∷ t) = provided (eqb b blank_byte) (λ _. ordered c l t)

-- what a line asks for
unfoldable pub request : List ℕ → Request
unfolding provided form
request s = provided (leb (length s) max_line) (λ _. form s)
