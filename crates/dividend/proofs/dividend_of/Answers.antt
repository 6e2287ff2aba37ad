-- `dividend::dividend_of` meets its contract.
use native.Mathlib.Nat.{lt_of_le_of_lt}
use Rattle.dividend.proofs.Laws.{steps-le, highest-dividend}
use Rattle.dividend.proofs.dividend_of.Goals as goal

pub overflow_mul-result-2 : goal.overflow_mul-result-2
overflow_mul-result-2 c = record { fits = rw c.from.ensures (lt_of_le_of_lt (steps-le _ _ _ c.requires) c.ranges.net.fits) }

pub returns : goal.returns
returns c = rw c.from.ensures (highest-dividend _ _ c.requires)
