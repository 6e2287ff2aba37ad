-- The lexer: from the bytes of a text to its tokens, the marks of document 01. It stops at the first byte that breaks a form.
use Rattle.std.specs.Prelude.{ℕ, zero, suc, ◌+◌, ◌*◌, Bool, true, false, cond, List, [], ◌∷◌, ◌++◌, map, reverse, ℤ, pos, neg_ℤ, ltb, eqb}
use Rattle.language.specs.declared.Fault.{Fault}
use Rattle.language.specs.declared.Fault.TheVariants.{StrayMark, BadCounter, BadConstant, Unfinished}
use Rattle.language.specs.Between.{between}
use Rattle.language.specs.Lookup.{lookup}
use Rattle.language.specs.Bytes.{blank_byte, newline_byte, quote_byte, dollar_byte, tick_byte, open_byte, close_byte, comma_byte, minus_byte, point_byte}
use Rattle.language.specs.Bytes.{slash_byte, colon_byte, semicolon_byte, is_digit, digit_of}
use Rattle.language.specs.Letters.{is_letter, letter_index}
use Rattle.language.specs.Syntax.{Operator, operators, operator_byte, Access, accesses, access_byte, Condition, conditions, condition_byte}
use Rattle.language.specs.Syntax.{Operation, operator, variable, constant, print}

-- A counter has its number less 1, a call its letter. `begins` announces, at its first byte, a mark that stands inside an expression.
pub data Token : Type 0 where
  opens closes semis colons begins ends : Token
  does : Operation → Token
  asks : Condition → Token
  counts calls : ℕ → Token
  faults : Fault → Token

-- ── bytes ───────────────────────────────────────────────────────────────────────────────────────

-- what a byte is where a mark may begin
pub data Class : Type 0 where
  blank quote opening closing semicolon point dollar tick stray : Class
  operating : Operator → Class
  accessing : Access → Class
  comparing : Condition → Class
  calling : ℕ → Class

-- "Blank (32) and newline (10) are skipped between marks." "`;` or `,` (one meaning); `:` or `.` (one meaning)."
abbrev pub classes : List (ℕ × Class)
classes =
    (blank_byte, blank) ∷ (newline_byte, blank) ∷ (quote_byte, quote) ∷ (open_byte, opening) ∷ (close_byte, closing)
    ∷ (semicolon_byte, semicolon) ∷ (comma_byte, semicolon) ∷ (colon_byte, point) ∷ (point_byte, point) ∷ (dollar_byte, dollar) ∷ (tick_byte, tick)
    ∷ map (λ o. (operator_byte o, operating o)) operators
    ++ map (λ a. (access_byte a, accessing a)) accesses
    ++ map (λ c. (condition_byte c, comparing c)) conditions

-- "and `a` to `z`, which call the procedure of that letter"
unfoldable pub class : ℕ → Class
class b = cond (is_letter b) (calling (letter_index b)) (lookup classes stray b)

-- "zero or more bytes 32 to 126 or 10 other than `"`"
abbrev pub comment_byte : ℕ → Bool
comment_byte b = cond (eqb b quote_byte) false (cond (eqb b newline_byte) true (between 32 126 b))

-- "zero or more bytes 32 to 126 other than `'`"
abbrev pub print_byte : ℕ → Bool
print_byte b = cond (eqb b tick_byte) false (between 32 126 b)

-- ── forms ───────────────────────────────────────────────────────────────────────────────────────

-- "Counter: `$`, 1 to 4 digits, `$`; its number is 1 or more." "Constant: `'/`, perhaps `-`, 1 to 9 digits, `'`." `true` after a `-`.
pub data Form : Type 0 where
  counter_form : Form
  constant_form : Bool → Form

-- the most digits of a number
abbrev pub most_digits : Form → ℕ
most_digits counter_form = 4
most_digits (constant_form s) = 9

-- the byte that ends a number's mark
abbrev pub closing_byte : Form → ℕ
closing_byte counter_form = dollar_byte
closing_byte (constant_form s) = tick_byte

-- "bad counter: a byte breaks its form"; "bad constant: a byte after `'/` breaks its form"
abbrev pub form_fault : Form → Fault
form_fault counter_form = BadCounter
form_fault (constant_form s) = BadConstant

-- a value after a `-`, or without
abbrev pub signed : Bool → ℕ → ℤ
signed true v = neg_ℤ (pos v)
signed false v = pos v

-- "digit (0 as 10, as in 000)"
abbrev pub digit_cell : ℕ → ℕ
digit_cell zero = 10
digit_cell (suc d) = suc d

-- ── the lexer ───────────────────────────────────────────────────────────────────────────────────

-- Where the lexer is: between marks, in a comment, after `'`, after `'/`, after `F` or `S`, after n digits of a number whose value is v, or in a
-- print whose bytes so far stand last first.
pub data Mode : Type 0 where
  idle comment after-tick after-slash : Mode
  after-access : Access → Mode
  number : Form → ℕ → ℕ → Mode
  printing : List ℕ → Mode

-- a fault ends the tokens
abbrev pub fault : Fault → List Token
fault r = faults r ∷ []

-- on where a test holds, else a fault
unfoldable pub unless : Bool → Fault → (Unit {0} → List Token) → List Token
unless true r k = k tt
unless false r k = fault r

-- In all that follows k gives the tokens of the bytes that come after, from a mode on.

-- a byte between marks
unfoldable pub first : Class → (Mode → List Token) → List Token
first blank k = k idle
first quote k = k comment
first opening k = opens ∷ k idle
first closing k = closes ∷ k idle
first semicolon k = semis ∷ k idle
first point k = colons ∷ k idle
first dollar k = begins ∷ k (number counter_form 0 0)
first tick k = begins ∷ k after-tick
first stray k = fault StrayMark
first (operating o) k = begins ∷ does (operator o) ∷ k idle
first (accessing a) k = begins ∷ k (after-access a)
first (comparing c) k = begins ∷ asks c ∷ k idle
first (calling a) k = begins ∷ calls a ∷ k idle

-- a number's closing byte: "n is 0 at the closing `$`" is a bad counter
unfoldable pub numeral : Form → ℕ → (Mode → List Token) → List Token
numeral counter_form zero k = fault BadCounter
numeral counter_form (suc m) k = counts m ∷ k idle
numeral (constant_form s) v k = does (constant (signed s v)) ∷ k idle

-- a byte of a number: a digit, its closing byte, or another
unfoldable pub numbered : Bool → Bool → ℕ → Form → ℕ → ℕ → (Mode → List Token) → List Token
unfolding unless numeral
numbered true c b f n v k = unless (ltb n (most_digits f)) (form_fault f) (λ _. k (number f (suc n) (10 * v + digit_of b)))
numbered false true b f n v k = unless (ltb 0 n) (form_fault f) (λ _. numeral f v k)
numbered false false b f n v k = fault (form_fault f)

-- a byte of a number, after n digits of the value v
unfoldable pub scan_number : Form → ℕ → ℕ → ℕ → (Mode → List Token) → List Token
unfolding numbered
scan_number f n v b k = numbered (is_digit b) (eqb b (closing_byte f)) b f n v k

-- a byte after `'/`: perhaps a `-`
unfoldable pub slashed : Bool → ℕ → (Mode → List Token) → List Token
unfolding scan_number
slashed true b k = k (number (constant_form true) 0 0)
slashed false b k = scan_number (constant_form false) 0 0 b k

-- a byte after `'`: another `'`, or a `/`
unfoldable pub ticked : Bool → Bool → (Mode → List Token) → List Token
ticked true s k = k (printing [])
ticked false true k = k after-slash
ticked false false k = fault StrayMark

-- a byte after `F` or `S`: a digit
unfoldable pub accessed : Bool → Access → ℕ → (Mode → List Token) → List Token
accessed true a d k = does (variable a (digit_cell d)) ∷ k idle
accessed false a d k = fault StrayMark

-- a byte of a print, or the `'` that ends it
unfoldable pub printed : Bool → Bool → ℕ → List ℕ → (Mode → List Token) → List Token
printed true u b l k = does (print (reverse l)) ∷ k idle
printed false true b l k = k (printing (b ∷ l))
printed false false b l k = fault StrayMark

-- a byte of a comment, or the `"` that ends it
unfoldable pub commented : Bool → Bool → (Mode → List Token) → List Token
commented true u k = k idle
commented false true k = k comment
commented false false k = fault StrayMark

-- a byte in any mode
unfoldable pub scan : Mode → ℕ → (Mode → List Token) → List Token
unfolding class first scan_number slashed ticked accessed printed commented
scan idle b k = first (class b) k
scan comment b k = commented (eqb b quote_byte) (comment_byte b) k
scan after-tick b k = ticked (eqb b tick_byte) (eqb b slash_byte) k
scan after-slash b k = slashed (eqb b minus_byte) b k
scan (after-access a) b k = accessed (is_digit b) a (digit_of b) k
scan (number f n v) b k = scan_number f n v b k
scan (printing l) b k = printed (eqb b tick_byte) (print_byte b) b l k

-- the end of the text; "unfinished: the text ends before its grammar does"
unfoldable pub finish : Mode → List Token
finish idle = ends ∷ []
finish comment = fault Unfinished
finish after-tick = fault Unfinished
finish after-slash = fault Unfinished
finish (after-access a) = fault Unfinished
finish (number f n v) = fault Unfinished
finish (printing l) = fault Unfinished

-- the tokens of bytes, from a mode on
unfoldable pub tokens : List ℕ → Mode → List Token
unfolding scan finish
tokens [] m = finish m
tokens (b ∷ l) m = scan m b (λ m'. tokens l m')
