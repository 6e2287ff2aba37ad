-- Tables of pairs, searched from the first on.
use Rattle.std.specs.Prelude.{ℕ, cond, List, [], ◌∷◌, eqb}

-- the entry of the first pair with key b, or d where there is none
abbrev pub lookup : {A : Type 0} → List (ℕ × A) → A → ℕ → A
lookup [] d b = d
lookup ((k, x) ∷ l) d b = cond (eqb k b) x (lookup l d b)
