-- Pools paid out and refused, every figure written out.
use Rattle.std.specs.Prelude.{◌≡◌, List, [], ◌∷◌, ℕ, Ok, Err}
use Rattle.dividend.specs.declared.PoolError.TheVariants.{BadPool, NoWinner}
use Rattle.dividend.specs.Dividend.{Settlement, Settles, settlement_number, payout_of, payout_figures}

-- a pool, its takeout, the winning stakes, and what comes of it
pub record Race : Type 0 where
  pub pool : ℕ
  pub rate : ℕ
  pub stakes : ℕ
  pub settlement : Settlement

-- the four together
abbrev pub race : ℕ → ℕ → ℕ → Settlement → Race
race p r s x = record { pool = p; rate = r; stakes = s; settlement = x }

-- takeout, net, dividend, payments and breakage
abbrev pub paid : ℕ → ℕ → ℕ → ℕ → ℕ → Settlement
paid t n d p b = Ok (record { takeout = t; net = n; dividend = d; payments = p; breakage = b })

-- Races as the manual and the page for C have them; each rest dropped, and none to drop; a dividend that just is not above the net, and one cent less; a net too small for its
-- stakes; nothing taken out, and all; the ends of the bounds; each figure outside, stakes of 0, and both.
abbrev pub races : List Race
races =
    race 1234500 175 4560 (paid 216037 1018463 220 1003200 15263)
    ∷ race 1234567 150 4560 (paid 185185 1049382 230 1048800 582)
    ∷ race 1999 1 1 (paid 1 1998 1990 1990 8)
    ∷ race 2000 1 1 (paid 2 1998 1990 1990 8)
    ∷ race 1000 100 3 (paid 100 900 300 900 0)
    ∷ race 999 100 3 (paid 99 900 300 900 0)
    ∷ race 998 100 3 (paid 99 899 290 870 29)
    ∷ race 9 0 1 (paid 0 9 0 0 9)
    ∷ race 10 0 1 (paid 0 10 10 10 0)
    ∷ race 500 0 51 (paid 0 500 0 0 500)
    ∷ race 0 150 7 (paid 0 0 0 0 0)
    ∷ race 12345 1000 7 (paid 12345 0 0 0 0)
    ∷ race 999999999 0 1 (paid 0 999999999 999999990 999999990 9)
    ∷ race 999999999 999 1 (paid 998999999 1000000 1000000 1000000 0)
    ∷ race 999999999 1000 999999999 (paid 999999999 0 0 0 0)
    ∷ race 999999999 0 999999999 (paid 0 999999999 0 0 999999999)
    ∷ race 999999999 0 99999999 (paid 0 999999999 10 999999990 9)
    ∷ race 1000000000 0 1 (Err BadPool)
    ∷ race 1000 1001 1 (Err BadPool)
    ∷ race 1000 0 1000000000 (Err BadPool)
    ∷ race 1000 0 0 (Err NoWinner)
    ∷ race 999999999 1000 0 (Err NoWinner)
    ∷ race 0 0 0 (Err NoWinner)
    ∷ race 1000000000 0 0 (Err BadPool)
    ∷ race 1000 1001 0 (Err BadPool)
    ∷ []

-- each of them
abbrev pub Hold : List Race → Type 0
Hold [] = Unit {0}
Hold (x ∷ xs) = Settles x.pool x.rate x.stakes x.settlement × Hold xs

-- proofs/Examples `races-hold`
abbrev pub RacesHold : Type 0
RacesHold = Hold races

-- the number of each answer; a refused pool has no figure but 0. proofs/Examples `answers-hold`
abbrev pub AnswersHold : Type 0
AnswersHold =
    (settlement_number (paid 1 2 3 4 5) ≡ 0)
    × (settlement_number (Err BadPool) ≡ 31)
    × (settlement_number (Err NoWinner) ≡ 32)
    × (Ok (payout_of (paid 1 2 3 4 5)) ≡ paid 1 2 3 4 5)
    × (Ok (payout_of (Err BadPool)) ≡ paid 0 0 0 0 0)
    × (Ok (payout_of (Err NoWinner)) ≡ paid 0 0 0 0 0)

-- takeout, net, dividend, payments, breakage. proofs/Examples `payout-holds`
abbrev pub PayoutHolds : Type 0
PayoutHolds = payout_figures (record { takeout = 1; net = 2; dividend = 3; payments = 4; breakage = 5 }) ≡ 1 ∷ 2 ∷ 3 ∷ 4 ∷ 5 ∷ []
