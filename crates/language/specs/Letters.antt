-- The letters `a` to `z`, as bytes and by their index from 0.
use Rattle.std.specs.Prelude.{ℕ, ◌+◌, ◌-◌, Bool}
use Rattle.language.specs.Between.{between}

-- the byte of `a`
abbrev pub first_letter : ℕ
first_letter = 97

-- the byte of `z`
abbrev pub last_letter : ℕ
last_letter = 122

-- "no such letter: not `a` to `z`"
abbrev pub is_letter : ℕ → Bool
is_letter l = between first_letter last_letter l

-- the index of a letter's byte, a as 0
abbrev pub letter_index : ℕ → ℕ
letter_index l = l - first_letter

-- the byte of an index
abbrev pub letter_byte : ℕ → ℕ
letter_byte a = first_letter + a
