-- The conditions `N 0 J`, as the code has them.
use Rattle.std.specs.Prelude.{Bool, List, ℕ, ◌-◌, ◌≤◌, ℤ, pos, nat_abs, ◌-ℤ◌, get_or, eqb}
use Rattle.std.specs.Int.Signed.{lt_z}
use Rattle.language.specs.Limits.{max_height}
use Rattle.language.specs.Syntax.{Condition as Mark, negative, null, equal}
use Rattle.predicates.specs.declared.conditions.Condition.{Condition}
use Rattle.predicates.specs.declared.conditions.Condition.TheVariants.{Negative, Null, Equal}

-- which mark it is
abbrev pub condition_of : Condition → Mark
condition_of Negative = negative
condition_of Null = null
condition_of Equal = equal

-- how many values it needs
abbrev pub needed : Condition → ℕ
needed Negative = 1
needed Null = 1
needed Equal = 2

-- "`N` top negative, `0` top zero, `J` the two top values equal": of a stack l of height h
abbrev pub holding : Condition → List ℤ → ℕ → Bool
holding Negative l h = lt_z (get_or l (h - 1) (pos 0)) (pos 0)
holding Null l h = eqb (nat_abs (get_or l (h - 1) (pos 0))) 0
holding Equal l h = eqb (nat_abs (get_or l (h - 2) (pos 0) -ℤ get_or l (h - 1) (pos 0))) 0

-- a stack of height h has the values that it needs
pub record Holding (c : Condition) (h : ℕ) : Type 0 where
  pub values : needed c ≤ h
  pub height : h ≤ max_height
