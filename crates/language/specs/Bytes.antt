-- The bytes that document 01 writes as marks and in numbers, by name. Letters are in Letters, operators and conditions in Syntax.
use Rattle.std.specs.Prelude.{ℕ, ◌+◌, ◌-◌, Bool}
use Rattle.language.specs.Between.{between}

-- "Blank (32) and newline (10) are skipped between marks."
abbrev pub blank_byte : ℕ
blank_byte = 32

-- the newline
abbrev pub newline_byte : ℕ
newline_byte = 10

-- the `"` around a comment
abbrev pub quote_byte : ℕ
quote_byte = 34

-- the `$` around a counter
abbrev pub dollar_byte : ℕ
dollar_byte = 36

-- the `'` around a constant or a print
abbrev pub tick_byte : ℕ
tick_byte = 39

-- the `(`
abbrev pub open_byte : ℕ
open_byte = 40

-- the `)`
abbrev pub close_byte : ℕ
close_byte = 41

-- the `,`
abbrev pub comma_byte : ℕ
comma_byte = 44

-- the `-`
abbrev pub minus_byte : ℕ
minus_byte = 45

-- the `.`
abbrev pub point_byte : ℕ
point_byte = 46

-- the `/`
abbrev pub slash_byte : ℕ
slash_byte = 47

-- a digit
abbrev pub digit_byte : ℕ → ℕ
digit_byte d = 48 + d

-- the `:`
abbrev pub colon_byte : ℕ
colon_byte = 58

-- the `;`
abbrev pub semicolon_byte : ℕ
semicolon_byte = 59

-- the byte is a digit's
abbrev pub is_digit : ℕ → Bool
is_digit b = between (digit_byte 0) (digit_byte 9) b

-- the digit of a digit's byte
abbrev pub digit_of : ℕ → ℕ
digit_of b = b - digit_byte 0
