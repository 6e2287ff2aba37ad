-- Numbers as decimal bytes, and right-justified in columns. "Numbers are in base ten."
use Rattle.std.specs.Prelude.{ℕ, zero, suc, ◌-◌, ◌/◌, ◌%◌, Bool, true, false, cond, List, [], ◌∷◌, ◌++◌, ℤ, pos, negsuc, length, replicate, ltb}
use Rattle.language.specs.Bytes.{blank_byte, minus_byte, digit_byte}

-- "1 to 9 digits": the most that a number has where it is read
abbrev pub max_digits : ℕ
max_digits = 9

-- the decimal digits of n, of which there are at most f
unfoldable pub digits : ℕ → ℕ → List ℕ
digits zero n = []
digits (suc f) n = let d = digits f (n / 10) in cond (ltb n 10) (digit_byte n ∷ []) (d ++ (digit_byte (n % 10) ∷ []))

-- the digits of a number below ten to the tenth, after a `-` if it is said
abbrev pub decimals : Bool → ℕ → List ℕ
decimals true n = minus_byte ∷ digits 10 n
decimals false n = digits 10 n

-- the most bytes of these: a `-` and ten digits
abbrev pub max_decimals : ℕ
max_decimals = 11

-- the digits of a value, after a `-` where it is negative
unfoldable pub decimal : ℤ → List ℕ
unfolding digits
decimal (pos n) = decimals false n
decimal (negsuc n) = decimals true (suc n)

-- "right-justified": blanks and then the bytes d, in w columns, or in as many as d has
unfoldable pub justified : ℕ → List ℕ → List ℕ
justified w d = replicate (w - length d) blank_byte ++ d

-- a number right-justified in w columns
unfoldable pub padded : ℕ → ℤ → List ℕ
unfolding justified decimal
padded w v = justified w (decimal v)
