-- A byte that a test found to be a letter.
use mathlib.Core.Path.{◌≡◌, sym, ◌∙◌}
use Prim.Native.Nat.{ℕ, ◌<◌, ◌≤◌}
use native.Mathlib.Omega.{arith}
use mathlib.Core.Bool.{Bool, true, false, not}
use borrow.Author.Tests.{not-false}
use Rattle.language.specs.Letters.{is_letter, letter_index, first_letter, last_letter}
use Rattle.language.specs.Limits.{max_letters}
use Rattle.language.proofs.Between.{between-bounds}

-- the index of a letter is below 26
pub letter-lt : (l : ℕ) → is_letter l ≡ true → letter_index l < max_letters
letter-lt l h = let k = between-bounds first_letter last_letter l h in omega arith

-- where the test u was not false: the byte is not below `a`, and its index is below 26
module _ (l : ℕ) (u : Bool) (tested : u ≡ is_letter l) (passed : not u ≡ false) where
  -- it is not below `a`
  pub letter-from : first_letter ≤ l
  letter-from = (between-bounds first_letter last_letter l (sym tested ∙ not-false u passed)).0

  -- its index is below 26
  pub letter-index : letter_index l < max_letters
  letter-index = letter-lt l (sym tested ∙ not-false u passed)
