-- The day over a lent output.
use Rattle.std.specs.Prelude.{◌≡◌, ℕ, ◌≤◌, List, length, Result, Ok, Err}
use Rattle.std.proofs.Math.Seq.{paste}
use Rattle.numerals.specs.Numerals.{Delivery, delivers, delivered}
use Rattle.day.specs.declared.ShortOutput.{ShortOutput}

-- the number of an output that has no room for the day; none of document 01's or 02's
abbrev pub short_output : ℕ
short_output = 50

-- the day d over the output o
abbrev pub played : List ℕ → List ℕ → Delivery
played o d = delivered short_output o d

-- what a day answers, over the output o: how many bytes it wrote, or that they had no room
abbrev pub gives : Result ℕ ShortOutput → List ℕ → Delivery
gives (Ok n) o = delivers 0 n o
gives (Err e) o = delivers short_output 0 o

-- n is the length of the day d, and where it fits the output o has become o'
pub record Prints (d o o' : List ℕ) (n : ℕ) : Type 0 where
  pub count : n ≡ length d
  pub fits : n ≤ length o → o' ≡ paste o 0 d n
