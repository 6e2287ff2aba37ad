-- Document 02, U4: what is proved of every pool, each statement with the name of its proof.
use Rattle.std.specs.Prelude.{◌≡◌, true, ℕ, ◌+◌, ◌*◌, ◌≤◌, ◌<◌, Ok}
use Rattle.dividend.specs.declared.Payout.{Payout}
use Rattle.dividend.specs.Dividend.{in_bounds, net_of, dividend_step, IsDividend, Settlement, Settles}

-- ── the dividend ────────────────────────────────────────────────────────────────────────────────

-- some dividend
pub record HasDividend (net stakes : ℕ) : Type 0 where
  pub dividend : ℕ
  pub is : IsDividend net stakes dividend

-- It exists, whatever the net, where there is a winning stake. proofs/Claims `dividend-exists`
abbrev pub DividendExists : Type 0
DividendExists = (net stakes : ℕ) → 1 ≤ stakes → HasDividend net stakes

-- Where there is none, every multiple of 10 cents would do, and none is the greatest: so 32. proofs/Claims `no-stake-no-dividend`
abbrev pub NoStakeNoDividend : Type 0
NoStakeNoDividend = (net d : ℕ) → IsDividend net 0 d → ⊥

-- It is unique. proofs/Claims `dividend-unique`
abbrev pub DividendUnique : Type 0
DividendUnique = (net stakes d e : ℕ) → IsDividend net stakes d → IsDividend net stakes e → d ≡ e

-- a settlement that pays this dividend
pub record PaysDividend (s : Settlement) (dividend : ℕ) : Type 0 where
  pub payout : Payout
  pub pays : s ≡ Ok payout
  pub is : payout.dividend ≡ dividend

-- It is what is returned, wherever the call is not refused: `dividend::settle` promises `Settles`. proofs/Claims `dividend-returned`
abbrev pub DividendReturned : Type 0
DividendReturned =
    (pool rate stakes d : ℕ) (s : Settlement) → Settles pool rate stakes s → in_bounds pool rate stakes ≡ true → 1 ≤ stakes
    → IsDividend (net_of pool rate) stakes d → PaysDividend s d

-- ── the other figures ───────────────────────────────────────────────────────────────────────────

-- "takeout, payments and breakage add up to the pool". proofs/Claims `adds-up`
abbrev pub AddsUp : Type 0
AddsUp = (pool rate stakes : ℕ) (p : Payout) → Settles pool rate stakes (Ok p) → p.takeout + p.payments + p.breakage ≡ pool

-- The breakage is below 10 cents a stake. proofs/Claims `breakage-below`
abbrev pub BreakageBelow : Type 0
BreakageBelow = (pool rate stakes : ℕ) (p : Payout) → Settles pool rate stakes (Ok p) → p.breakage < dividend_step * stakes

-- No figure is above the pool. proofs/Claims `within-pool`
abbrev pub WithinPool : Type 0
WithinPool =
    (pool rate stakes : ℕ) (p : Payout) → Settles pool rate stakes (Ok p)
    → (p.takeout ≤ pool) × (p.net ≤ pool) × (p.dividend ≤ pool) × (p.payments ≤ pool) × (p.breakage ≤ pool)

-- ── the call ────────────────────────────────────────────────────────────────────────────────────

-- some settlement that fits
pub record HasSettlement (pool rate stakes : ℕ) : Type 0 where
  pub settlement : Settlement
  pub settles : Settles pool rate stakes settlement

-- For any three numbers one settlement fits. proofs/Claims `settlement-exists`
abbrev pub SettlementExists : Type 0
SettlementExists = (pool rate stakes : ℕ) → HasSettlement pool rate stakes

-- And no other, so that `Settles` says all that is returned. proofs/Claims `settlement-unique`
abbrev pub SettlementUnique : Type 0
SettlementUnique = (pool rate stakes : ℕ) (s t : Settlement) → Settles pool rate stakes s → Settles pool rate stakes t → s ≡ t
