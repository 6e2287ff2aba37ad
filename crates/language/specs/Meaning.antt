-- The nested meaning: a definitional interpreter of expressions.
use Rattle.std.specs.Prelude.{ℕ, zero, suc, Bool, true, false}
use Rattle.std.proofs.Math.Option.{Option}
use Rattle.language.specs.declared.Ending.{Ending}
use Rattle.language.specs.declared.Ending.TheVariants.{Spent}
use Rattle.language.specs.Roles.{bars}
use Rattle.language.specs.Syntax.{Expr, close, semi, colon, operate, test, call, inner}
use Rattle.language.specs.Effects.{State, goes, stops, answers, stops_by, perform, ask, on_call}

-- What an expression or a run comes to: its truth, or what stopped it; with the state and the steps that are left of the allowance then.
pub data Outcome : Type 0 where
  ended : Bool → State → ℕ → Outcome
  stopped : Ending → State → ℕ → Outcome

-- Inside the letter l, with d calls open. `texts` are the standing texts, `marks` the letters' marks and `role` the caller's role: "The nested meaning
-- carries role and marks" (document 02, U7). `again` obeys an expression of a letter from its start.
module _ (texts : ℕ → Option Expr) (permissions : ℕ → ℕ) (role : ℕ) (again : ℕ → Expr → ℕ → State → ℕ → Outcome) (l d : ℕ) where
  unfoldable mutual
    -- Obey the rest e of the expression w, with r steps left. "spent: steps equal the allowance and another step is due." "Reaching `;` ends
    -- true, `:` starts the expression again, `)` ends false." "A mark that stops a run changes nothing and is not counted."
    pub obey : Expr → Expr → State → ℕ → Outcome
    obey close w s zero = stopped Spent s zero
    obey close w s (suc r) = ended false s r
    obey (semi e) w s zero = stopped Spent s zero
    obey (semi e) w s (suc r) = ended true s r
    obey (colon e) w s zero = stopped Spent s zero
    obey (colon e) w s (suc r) = again l w d s r
    obey (operate o e) w s zero = stopped Spent s zero
    obey (operate o e) w s (suc r) = elim (perform o s) [ goes s' ↦ obey e w s' r | stops k ↦ stopped k s (suc r) ]
    obey (test p e) w s zero = stopped Spent s zero
    obey (test p e) w s (suc r) =
        elim (ask l p s) [ answers true s' ↦ obey e w s' r | answers false s' ↦ skip e w s' r | stops_by k ↦ stopped k s (suc r) ]
    obey (call a e) w s zero = stopped Spent s zero
    obey (call a e) w s (suc r) =
        on_call (texts a) (bars role (permissions a)) d (λ k. stopped k s (suc r))
        (λ v. elim (again a v (suc d) s r) [ ended true s' r' ↦ obey e w s' r' | ended false s' r' ↦ skip e w s' r' | stopped k s' r' ↦ stopped k s' r' ])
    obey (inner f e) w s r =
        elim (obey f f s r) [ ended true s' r' ↦ obey e w s' r' | ended false s' r' ↦ skip e w s' r' | stopped k s' r' ↦ stopped k s' r' ]

    -- "A false predicate goes to the next segment; in the last segment it ends the expression **true**". "nor is a jump on false" a step
    pub skip : Expr → Expr → State → ℕ → Outcome
    skip close w s r = ended true s r
    skip (semi e) w s r = obey e w s r
    skip (colon e) w s r = obey e w s r
    skip (operate o e) w s r = skip e w s r
    skip (test p e) w s r = skip e w s r
    skip (call a e) w s r = skip e w s r
    skip (inner f e) w s r = skip e w s r

-- The expression w of letter l from its start, with d calls open and r steps left. A restart and a call each take a step, so recursion deeper
-- than the steps left does not occur: any g above r gives the same outcome.
unfoldable pub meaning : (ℕ → Option Expr) → (ℕ → ℕ) → ℕ → ℕ → ℕ → Expr → ℕ → State → ℕ → Outcome
unfolding obey bars
meaning texts permissions role zero l w d s r = stopped Spent s r
meaning texts permissions role (suc g) l w d s r = obey texts permissions role (meaning texts permissions role g) l d w w s r
