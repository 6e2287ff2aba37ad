-- The numbers that a run works with.
use Rattle.std.specs.Prelude.{Bool, true, ◌&&◌, List, [], ◌∷◌, ℤ, nat_abs, leb}
use Rattle.language.specs.Limits.{max_value}

-- "Values lie in ±999,999,999."
unfoldable pub is_value : ℤ → Bool
is_value z = leb (nat_abs z) max_value

-- "An input within the values is lawful." All of a list are so.
unfoldable pub lawful : List ℤ → Bool
unfolding is_value
lawful [] = true
lawful (v ∷ l) = is_value v && lawful l
