-- The nested meaning in one function over a truth, with continuations: the form that the simulation is proved of, and that it is the meaning.
use mathlib.Core.Path.{◌≡◌, refl, ap, ◌∙◌}
use Prim.Native.Nat.{ℕ, zero, suc}
use mathlib.Core.Bool.{Bool, true, false}
use mathlib.Core.Option.{Option}
use Rattle.language.specs.declared.Ending.TheVariants.{Spent}
use Rattle.language.specs.Roles.{bars}
use Rattle.language.specs.Syntax.{Expr, close, semi, colon, operate, test, call, inner}
use Rattle.language.specs.Effects.{State, goes, stops, answers, stops_by, perform, ask, on_call}
use Rattle.language.specs.Meaning.{Outcome, ended, stopped, obey, skip, meaning}
use Rattle.language.specs.Machine.{on_effect, on_verdict}

-- a step is due: with none left, spent
unfoldable pub step : ℕ → State → (ℕ → Outcome) → Outcome
step zero s k = stopped Spent s zero
step (suc r) s k = k r

-- on with an expression's truth, if it ended
unfoldable pub and_then : Outcome → (Bool → State → ℕ → Outcome) → Outcome
and_then (ended t s r) k = k t s r
and_then (stopped e s r) k = stopped e s r

module _ (texts : ℕ → Option Expr) (permissions : ℕ → ℕ) (role : ℕ) where
  -- `follow e true` obeys e, of the expression w of the letter l; `follow e false` looks for the next segment
  unfoldable pub follow : (ℕ → Expr → ℕ → State → ℕ → Outcome) → ℕ → Expr → ℕ → Expr → Bool → State → ℕ → Outcome
  follow again l w d close true s r = step r s (λ r'. ended false s r')
  follow again l w d (semi e) true s r = step r s (λ r'. ended true s r')
  follow again l w d (colon e) true s r = step r s (λ r'. again l w d s r')
  follow again l w d (operate o e) true s r =
      step r s (λ r'. on_effect (perform o s) s (suc r') (λ s'. follow again l w d e true s' r'))
  follow again l w d (test p e) true s r =
      step r s (λ r'. on_verdict (ask l p s) s (suc r') (λ t s'. follow again l w d e t s' r'))
  follow again l w d (call a e) true s r =
      step r s (λ r'. on_call (texts a) (bars role (permissions a)) d (λ k. stopped k s (suc r'))
      (λ v. and_then (again a v (suc d) s r') (λ t s' r''. follow again l w d e t s' r'')))
  follow again l w d (inner f e) true s r =
      and_then (follow again l f d f true s r) (λ t s' r'. follow again l w d e t s' r')
  follow again l w d close false s r = ended true s r
  follow again l w d (semi e) false s r = follow again l w d e true s r
  follow again l w d (colon e) false s r = follow again l w d e true s r
  follow again l w d (operate o e) false s r = follow again l w d e false s r
  follow again l w d (test p e) false s r = follow again l w d e false s r
  follow again l w d (call a e) false s r = follow again l w d e false s r
  follow again l w d (inner f e) false s r = follow again l w d e false s r

  -- an expression from its start, g deep at the most
  unfoldable pub followed : ℕ → ℕ → Expr → ℕ → State → ℕ → Outcome
  followed zero l w d s r = stopped Spent s r
  followed (suc g) l w d s r = follow (followed g) l w d w true s r

module _ (texts : ℕ → Option Expr) (permissions : ℕ → ℕ) (role : ℕ) (again : ℕ → Expr → ℕ → State → ℕ → Outcome) (l d : ℕ) where
  abbrev on : Bool → Expr → Expr → State → ℕ → Outcome
  on true e w s r = obey texts permissions role again l d e w s r
  on false e w s r = skip texts permissions role again l d e w s r

  -- on with a truth and what is left, in the two forms
  abbrev then_on : Expr → Expr → Outcome → Outcome
  then_on e w z =
      elim z [
        | ended true s' r' ↦ obey texts permissions role again l d e w s' r'
        | ended false s' r' ↦ skip texts permissions role again l d e w s' r'
        | stopped k s' r' ↦ stopped k s' r'
      ]

  on-outcome : (e w : Expr) (z : Outcome) → ((t : Bool) (s : State) (r : ℕ) → on t e w s r ≡ follow texts permissions role again l w d e t s r)
      → then_on e w z ≡ and_then z (λ t s r. follow texts permissions role again l w d e t s r)
  unfolding and_then
  on-outcome e w (ended true s r) h = h true s r
  on-outcome e w (ended false s r) h = h false s r
  on-outcome e w (stopped k s r) h = refl

  both : (e : Expr) (t : Bool) (w : Expr) (s : State) (r : ℕ) → on t e w s r ≡ follow texts permissions role again l w d e t s r
  unfolding obey follow step on_effect on_verdict
  both close true w s zero = refl
  both close true w s (suc r) = refl
  both close false w s r = refl
  both (semi e) true w s zero = refl
  both (semi e) true w s (suc r) = refl
  both (semi e) false w s r = both e true w s r
  both (colon e) true w s zero = refl
  both (colon e) true w s (suc r) = refl
  both (colon e) false w s r = both e true w s r
  both (operate o e) true w s zero = refl
  both (operate o e) true w s (suc r) =
      (elim (perform o s) as (λ x. elim x [ goes s' ↦ obey texts permissions role again l d e w s' r | stops k ↦ stopped k s (suc r) ]
      ≡ on_effect x s (suc r) (λ s'. follow texts permissions role again l w d e true s' r)) [ goes s' ↦ both e true w s' r | stops k ↦ refl ])
  both (operate o e) false w s r = both e false w s r
  both (test p e) true w s zero = refl
  both (test p e) true w s (suc r) =
      (elim (ask l p s) as (λ x. elim x [ answers true s' ↦ obey texts permissions role again l d e w s' r | answers false s' ↦ skip texts permissions role again l d e w s' r | stops_by k ↦ stopped k s (suc r) ]
      ≡ on_verdict x s (suc r) (λ t s'. follow texts permissions role again l w d e t s' r))
      [ answers true s' ↦ both e true w s' r | answers false s' ↦ both e false w s' r | stops_by k ↦ refl ])
  both (test p e) false w s r = both e false w s r
  both (call a e) true w s zero = refl
  both (call a e) true w s (suc r) =
      ap (λ k. on_call (texts a) (bars role (permissions a)) d (λ e. stopped e s (suc r)) k)
      (λ i v. on-outcome e w (again a v (suc d) s r) (λ t s' r'. both e t w s' r') i)
  both (call a e) false w s r = both e false w s r
  both (inner f e) true w s r =
      on-outcome e w (obey texts permissions role again l d f f s r) (λ t s' r'. both e t w s' r')
      ∙ ap (λ z. and_then z (λ t s' r'. follow texts permissions role again l w d e t s' r')) (both f true f s r)
  both (inner f e) false w s r = both e false w s r

pub meaning-followed : (texts : ℕ → Option Expr) (permissions : ℕ → ℕ) (role g l : ℕ) (w : Expr) (d : ℕ) (s : State) (r : ℕ)
    → meaning texts permissions role g l w d s r ≡ followed texts permissions role g l w d s r
unfolding meaning followed
meaning-followed texts permissions role zero l w d s r = refl
meaning-followed texts permissions role (suc g) l w d s r =
    both texts permissions role (meaning texts permissions role g) l d w true w s r
    ∙ ap (λ z. follow texts permissions role z l w d w true s r) (λ i l' w' d' s' r'. meaning-followed texts permissions role g l' w' d' s' r' i)
