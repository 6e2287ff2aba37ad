-- The numbers of a call for a report.
use Rattle.std.specs.Prelude.{ℕ, Result, Ok, Err}
use Rattle.language.specs.declared.Ending.TheVariants as Ending
use Rattle.language.specs.Answers.{ending_number}
use Rattle.book.specs.Refusals.{refusal_number}
use Rattle.reach.specs.declared.ReachError.{ReachError}
use Rattle.reach.specs.declared.ReachError.TheVariants.{Refused, Damaged}

-- "13, 1, 10 in that order, then 29"
abbrev pub error_number : ReachError → ℕ
error_number (Refused r) = refusal_number r
error_number Damaged = ending_number Ending.Damaged

-- 0, or the number of the error
abbrev pub reach_number : Result Unit ReachError → ℕ
reach_number (Ok u) = 0
reach_number (Err e) = error_number e
