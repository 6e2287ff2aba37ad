-- Document 02, U4: paying on the pool.
use Rattle.std.specs.Prelude.{◌≡◌, Bool, true, false, ◌&&◌, List, [], ◌∷◌, ℕ, ◌*◌, ◌-◌, ◌/◌, ◌%◌, ◌≤◌, leb, Result, Ok, Err}
use Rattle.dividend.specs.declared.Payout.{Payout}
use Rattle.dividend.specs.declared.PoolError.{PoolError}
use Rattle.dividend.specs.declared.PoolError.TheVariants.{BadPool, NoWinner}

-- ── bounds ──────────────────────────────────────────────────────────────────────────────────────

-- "the pool in cents (0 to 999,999,999)"
abbrev pub max_pool : ℕ
max_pool = 999999999

-- "the takeout in tenths of a percent (0 to 1000)"
abbrev pub max_rate : ℕ
max_rate = 1000

-- "the number of winning one-unit stakes (0 to 999,999,999)"
abbrev pub max_stakes : ℕ
max_stakes = 999999999

-- no figure is "outside its bounds"
abbrev pub in_bounds : ℕ → ℕ → ℕ → Bool
in_bounds pool rate stakes = leb pool max_pool && leb rate max_rate && leb stakes max_stakes

-- ── the figures ─────────────────────────────────────────────────────────────────────────────────

-- the whole in tenths of a percent
abbrev pub whole_rate : ℕ
whole_rate = 1000

-- "takeout is pool × rate / 1000 with the rest dropped"
abbrev pub takeout_of : ℕ → ℕ → ℕ
takeout_of pool rate = pool * rate / whole_rate

-- "The net is what remains."
abbrev pub net_of : ℕ → ℕ → ℕ
net_of pool rate = pool - takeout_of pool rate

-- "10 cents"
abbrev pub dividend_step : ℕ
dividend_step = 10

-- a "multiple of 10 cents that, times the stakes, is not above the net"
pub record Affords (net stakes dividend : ℕ) : Type 0 where
  pub multiple : dividend % dividend_step ≡ 0
  pub not-above : dividend * stakes ≤ net

-- "The dividend is the greatest multiple of 10 cents that, times the stakes, is not above the net."
pub record IsDividend (net stakes dividend : ℕ) : Type 0 where
  pub affords : Affords net stakes dividend
  pub greatest : (d : ℕ) → Affords net stakes d → d ≤ dividend

-- "The call returns takeout, net, dividend, payments (dividend × stakes) and breakage"
pub record PaysOut (pool rate stakes : ℕ) (p : Payout) : Type 0 where
  pub takeout : p.takeout ≡ takeout_of pool rate
  pub net : p.net ≡ net_of pool rate
  pub dividend : IsDividend p.net stakes p.dividend
  pub payments : p.payments ≡ p.dividend * stakes
  -- "Breakage is the net less dividend × stakes."
  pub breakage : p.breakage ≡ p.net - p.dividend * stakes

-- ── the call ────────────────────────────────────────────────────────────────────────────────────

-- what comes of a pool: its figures, or why there are none
abbrev pub Settlement : Type 0
Settlement = Result Payout PoolError

-- What may come of a pool. "Errors: 31 bad pool, a figure outside its bounds; 32 no winner, stakes are 0; in that order."
abbrev pub Settles : ℕ → ℕ → ℕ → Settlement → Type 0
Settles pool rate stakes (Err BadPool) = in_bounds pool rate stakes ≡ false
Settles pool rate stakes (Err NoWinner) = (in_bounds pool rate stakes ≡ true) × (stakes ≡ 0)
Settles pool rate stakes (Ok p) = (in_bounds pool rate stakes ≡ true) × (1 ≤ stakes) × PaysOut pool rate stakes p

-- "31 bad pool"
abbrev pub bad_pool : ℕ
bad_pool = 31

-- "32 no winner"
abbrev pub no_winner : ℕ
no_winner = 32

-- the number of a refusal
abbrev pub pool_error_number : PoolError → ℕ
pool_error_number BadPool = bad_pool
pool_error_number NoWinner = no_winner

-- the number of what comes of a pool
abbrev pub settlement_number : Settlement → ℕ
settlement_number (Ok p) = 0
settlement_number (Err e) = pool_error_number e

-- "A refusal of any call returns its number, every other figure 0"
abbrev pub no_payout : Payout
no_payout = record { takeout = 0; net = 0; dividend = 0; payments = 0; breakage = 0 }

-- the figures of what comes of a pool
abbrev pub payout_of : Settlement → Payout
payout_of (Ok p) = p
payout_of (Err e) = no_payout

-- ── for C ───────────────────────────────────────────────────────────────────────────────────────

-- "takeout, net, dividend, payments (dividend × stakes) and breakage"
abbrev pub payout_figures : Payout → List ℕ
payout_figures p = p.takeout ∷ p.net ∷ p.dividend ∷ p.payments ∷ p.breakage ∷ []

-- the number n that is returned and the figures f are those of what comes of the pool
pub record SettledInto (pool rate stakes n : ℕ) (f : List ℕ) : Type 0 where
  pub settlement : Settlement
  pub settles : Settles pool rate stakes settlement
  pub number : n ≡ settlement_number settlement
  pub figures : f ≡ payout_figures (payout_of settlement)
