-- The examples hold, by computation.
use mathlib.Core.Path.{◌≡◌, refl, subst}
use mathlib.Core.List.{List, [], ◌∷◌, map}
use Rattle.dividend.specs.Dividend.{Settlement, Settles}
use Rattle.dividend.specs.Examples.{Race, races, Hold, RacesHold, AnswersHold, PayoutHolds}
use Rattle.dividend.proofs.Settled.{settled, settles}

-- what comes of a race, computed
comes : Race → Settlement
comes x = settled x.pool x.rate x.stakes

-- where that is what is written, they hold
computed : (xs : List Race) → map comes xs ≡ map (λ x. x.settlement) xs → Hold xs
unfolding comes
computed [] e = tt
computed (x ∷ xs) e =
    let h : comes x ≡ x.settlement = cc in
    (subst (λ (s : Settlement). Settles x.pool x.rate x.stakes s) h (settles x.pool x.rate x.stakes), computed xs cc)

pub races-hold : RacesHold
unfolding comes
races-hold = computed races refl

pub answers-hold : AnswersHold
answers-hold = (refl, refl, refl, refl, refl, refl)

pub payout-holds : PayoutHolds
payout-holds = refl
