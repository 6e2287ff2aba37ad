-- What is proved of every pool.
use mathlib.Core.Path.{◌≡◌, refl, sym, ap, subst, ◌∙◌}
use mathlib.Core.Bool.{true≢false}
use Prim.Native.Nat.{ℕ, ◌*◌, ◌-◌}
use native.Mathlib.Omega.{arith}
use Rattle.dividend.specs.declared.Payout.{Payout}
use Rattle.std.specs.Prelude.{Ok, Err}
use Rattle.dividend.specs.declared.PoolError.TheVariants.{BadPool, NoWinner}
use Rattle.dividend.specs.Dividend.{net_of, IsDividend, PaysOut}
use Rattle.dividend.specs.Claims.{DividendExists, NoStakeNoDividend, DividendUnique, DividendReturned, AddsUp, BreakageBelow, WithinPool, SettlementExists, SettlementUnique}
use Rattle.dividend.proofs.Laws.{rate-in, takeout-le, highest, highest-dividend, dividend-le, unique-dividend, step-above}
use Rattle.dividend.proofs.Settled.{settled, settles}

pub dividend-exists : DividendExists
dividend-exists net stakes h = record { dividend = highest net stakes; is = highest-dividend net stakes h }

pub no-stake-no-dividend : NoStakeNoDividend
no-stake-no-dividend net d p = let a = step-above net 0 d p in omega (arith, a)

pub dividend-unique : DividendUnique
dividend-unique net stakes d e p q = unique-dividend net stakes d e p q

pub dividend-returned : DividendReturned
dividend-returned pool rate stakes d (Ok p) (b, h, x) _ _ q =
    record {
      payout = p;
      pays = refl;
      is = unique-dividend (net_of pool rate) stakes p.dividend d (subst (λ (n : ℕ). IsDividend n stakes p.dividend) x.net x.dividend) q;
    }
dividend-returned pool rate stakes d (Err BadPool) x b _ q = absurd (true≢false (sym b ∙ x))
dividend-returned pool rate stakes d (Err NoWinner) (b, z) _ h q = absurd (omega (arith, h, z))

pub adds-up : AddsUp
adds-up pool rate stakes p (b, h, x) =
    let t = takeout-le pool rate (rate-in pool rate stakes b) in
    let a = x.dividend.affords.not-above in
    omega (arith, t, a, x.takeout, x.net, x.payments, x.breakage)

pub breakage-below : BreakageBelow
breakage-below pool rate stakes p (b, h, x) =
    let a = step-above p.net stakes p.dividend x.dividend in
    omega (arith, a, h, x.breakage)

pub within-pool : WithinPool
within-pool pool rate stakes p (b, h, x) =
    let t = takeout-le pool rate (rate-in pool rate stakes b) in
    let a = x.dividend.affords.not-above in
    let d = dividend-le p.net stakes p.dividend h x.dividend in (
      omega (arith, t, x.takeout),
      omega (arith, x.net),
      omega (arith, d, x.net),
      omega (arith, a, x.net, x.payments),
      omega (arith, x.net, x.breakage),
    )

-- the figures of a pool are these and no others
payout-unique : (pool rate stakes : ℕ) (p q : Payout) → PaysOut pool rate stakes p → PaysOut pool rate stakes q → p ≡ q
payout-unique pool rate stakes p q x y =
    let t : p.takeout ≡ q.takeout = x.takeout ∙ sym y.takeout in
    let n : p.net ≡ q.net = x.net ∙ sym y.net in
    let d : p.dividend ≡ q.dividend = unique-dividend q.net stakes p.dividend q.dividend (subst (λ (m : ℕ). IsDividend m stakes p.dividend) n x.dividend) y.dividend in
    let m : p.payments ≡ q.payments = x.payments ∙ ap (λ (e : ℕ). e * stakes) d ∙ sym y.payments in
    let b : p.breakage ≡ q.breakage = x.breakage ∙ (λ i. n i - d i * stakes) ∙ sym y.breakage in
    λ i. record { takeout = t i; net = n i; dividend = d i; payments = m i; breakage = b i }

pub settlement-unique : SettlementUnique
settlement-unique pool rate stakes (Ok p) (Ok q) (_, _, x) (_, _, y) = ap Ok (payout-unique pool rate stakes p q x y)
settlement-unique pool rate stakes (Ok p) (Err BadPool) (b, _, _) c = absurd (true≢false (sym b ∙ c))
settlement-unique pool rate stakes (Ok p) (Err NoWinner) (_, h, _) (_, z) = absurd (omega (arith, h, z))
settlement-unique pool rate stakes (Err BadPool) (Ok q) b (c, _, _) = absurd (true≢false (sym c ∙ b))
settlement-unique pool rate stakes (Err BadPool) (Err BadPool) b c = refl
settlement-unique pool rate stakes (Err BadPool) (Err NoWinner) b (c, _) = absurd (true≢false (sym c ∙ b))
settlement-unique pool rate stakes (Err NoWinner) (Ok q) (_, z) (_, h, _) = absurd (omega (arith, h, z))
settlement-unique pool rate stakes (Err NoWinner) (Err BadPool) (b, _) c = absurd (true≢false (sym b ∙ c))
settlement-unique pool rate stakes (Err NoWinner) (Err NoWinner) b c = refl

pub settlement-exists : SettlementExists
settlement-exists pool rate stakes = record { settlement = settled pool rate stakes; settles = settles pool rate stakes }
