-- The laws of takeout and dividend.
use mathlib.Core.Path.{◌≡◌, refl, sym, ap, ◌∙◌}
use mathlib.Core.Bool.{true, ◌&&◌}
use Prim.Native.Nat.{ℕ, ◌+◌, ◌*◌, ◌-◌, ◌/◌, ◌%◌, ◌≤◌, ◌<◌}
use lib.Dec.{leb}
use borrow.Author.Tests.{leb-true}
use native.Mathlib.Omega.{arith}
use Rattle.std.specs.Prelude.{Ok}
use native.Mathlib.Nat.{mul_comm, mul_assoc, mul-le-mul_left, mul-le-mul_right, mul-mod_left, div-add-mod', div-mul-le_self, div-le_of_le-mul, le-div_iff_mul-le, add-mul, add-mod_right, le_antisymm, lt_of_not-le, le-mul_of_pos_right}
use Rattle.language.proofs.Tests.{first-true, second-true}
use Rattle.dividend.specs.Dividend.{max_pool, max_rate, max_stakes, in_bounds, whole_rate, takeout_of, dividend_step, Affords, IsDividend, Settles}

-- a rate within its bounds
pub rate-in : (pool rate stakes : ℕ) → in_bounds pool rate stakes ≡ true → rate ≤ max_rate
rate-in pool rate stakes h =
    leb-true rate max_rate (second-true (leb pool max_pool) (leb rate max_rate) (first-true (leb pool max_pool && leb rate max_rate) (leb stakes max_stakes) h))

-- at most the whole pool is taken out
pub takeout-le : (pool rate : ℕ) → rate ≤ max_rate → takeout_of pool rate ≤ pool
takeout-le pool rate h =
    let m : pool * rate ≤ pool * whole_rate = mul-le-mul_left pool h in
    div-le_of_le-mul whole_rate (omega (arith, m))

-- so many steps, on each stake
steps : (q stakes : ℕ) → q * dividend_step * stakes ≡ q * (stakes * dividend_step)
steps q stakes = mul_assoc q dividend_step stakes ∙ ap (λ (x : ℕ). q * x) (mul_comm dividend_step stakes)

-- as many steps of k as the stakes can all be paid are at most the net
pub steps-le : (net stakes k : ℕ) → 1 ≤ stakes → net / (stakes * k) * k ≤ net
steps-le net stakes k h =
    let m = mul-le-mul_left (net / (stakes * k)) (mul-le-mul_right k h) in
    let d = div-mul-le_self net (stakes * k) in
    omega (arith, m, d)

-- a multiple of 10 is its tenth, ten times
tenth : (d : ℕ) → d % dividend_step ≡ 0 → d / dividend_step * dividend_step ≡ d
tenth d z = let w = div-add-mod' d dividend_step in omega (arith, w, z)

-- the dividend, computed
abbrev pub highest : ℕ → ℕ → ℕ
highest net stakes = net / (stakes * dividend_step) * dividend_step

-- the net affords it
highest-afforded : (net stakes : ℕ) → Affords net stakes (highest net stakes)
highest-afforded net stakes =
    record {
      multiple = mul-mod_left (net / (stakes * dividend_step)) dividend_step;
      not-above = rw (steps (net / (stakes * dividend_step)) stakes) (div-mul-le_self net (stakes * dividend_step));
    }

-- and nothing greater
highest-greatest : (net stakes : ℕ) → 1 ≤ stakes → (d : ℕ) → Affords net stakes d → d ≤ highest net stakes
highest-greatest net stakes h d a =
    let t = tenth d a.multiple in
    let p : d / dividend_step * dividend_step * stakes ≤ net = rw t a.not-above in
    let q : d / dividend_step * (stakes * dividend_step) ≤ net = rw (sym (steps (d / dividend_step) stakes)) p in
    let m = (le-div_iff_mul-le {k = stakes * dividend_step} (omega (arith, h))).1 q in
    omega (arith, m, t)

-- so it is the dividend
pub highest-dividend : (net stakes : ℕ) → 1 ≤ stakes → IsDividend net stakes (highest net stakes)
highest-dividend net stakes h = record { affords = highest-afforded net stakes; greatest = highest-greatest net stakes h }

-- a dividend is at most the net
pub dividend-le : (net stakes d : ℕ) → 1 ≤ stakes → IsDividend net stakes d → d ≤ net
dividend-le net stakes d h p = let m = le-mul_of_pos_right d h in let a = p.affords.not-above in omega (arith, m, a)

-- one dividend at most
pub unique-dividend : (net stakes d e : ℕ) → IsDividend net stakes d → IsDividend net stakes e → d ≡ e
unique-dividend net stakes d e p q = le_antisymm (q.greatest d p.affords) (p.greatest e q.affords)

-- 10 cents more on each stake would be above the net
pub step-above : (net stakes d : ℕ) → IsDividend net stakes d → net < d * stakes + dividend_step * stakes
step-above net stakes d p = lt_of_not-le (λ h. absurd (more h))
  where
    more : d * stakes + dividend_step * stakes ≤ net → ⊥
    more h =
        let a : Affords net stakes (d + dividend_step)
        = record { multiple = add-mod_right d dividend_step ∙ p.affords.multiple; not-above = rw (add-mul d dividend_step stakes) h } in
        let g = p.greatest (d + dividend_step) a in
        omega (arith, g)

-- what is paid, of a takeout t and a dividend d
pub pays : (pool rate stakes t d : ℕ) → in_bounds pool rate stakes ≡ true → 1 ≤ stakes → t ≡ takeout_of pool rate → IsDividend (pool - t) stakes d
    → Settles pool rate stakes (Ok (record { takeout = t; net = pool - t; dividend = d; payments = d * stakes; breakage = pool - t - d * stakes }))
pays pool rate stakes t d b h e p =
    (b, h, record { takeout = e; net = ap (λ (x : ℕ). pool - x) e; dividend = p; payments = refl; breakage = refl })
