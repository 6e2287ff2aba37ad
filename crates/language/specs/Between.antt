-- The test of a range of numbers.
use Rattle.std.specs.Prelude.{ℕ, Bool, ◌&&◌, leb}

-- n lies from a to b, both included
abbrev pub between : ℕ → ℕ → ℕ → Bool
between a b n = leb a n && leb n b
