-- What comes of a pool, computed.
use mathlib.Core.Path.{◌≡◌, refl}
use mathlib.Core.Bool.{Bool, true, false, cond}
use Prim.Native.Nat.{ℕ, zero, suc, ◌*◌, ◌-◌}
use native.Mathlib.Omega.{arith}
use Rattle.std.specs.Prelude.{Ok, Err}
use Rattle.dividend.specs.declared.PoolError.TheVariants.{BadPool, NoWinner}
use Rattle.dividend.specs.Dividend.{Settlement, in_bounds, takeout_of, net_of, Settles}
use Rattle.dividend.proofs.Laws.{highest, highest-dividend, pays}

-- of figures within their bounds
abbrev lawful : ℕ → ℕ → ℕ → Settlement
lawful pool rate zero = Err NoWinner
lawful pool rate (suc n) =
    let net = net_of pool rate in
    let d = highest net (suc n) in
    Ok (record { takeout = takeout_of pool rate; net = net; dividend = d; payments = d * suc n; breakage = net - d * suc n })

-- of any figures
abbrev pub settled : ℕ → ℕ → ℕ → Settlement
settled pool rate stakes = cond (in_bounds pool rate stakes) (lawful pool rate stakes) (Err BadPool)

settles-lawful : (pool rate stakes : ℕ) → in_bounds pool rate stakes ≡ true → Settles pool rate stakes (lawful pool rate stakes)
settles-lawful pool rate zero b = (b, refl)
settles-lawful pool rate (suc n) b = pays pool rate (suc n) _ _ b (omega arith) refl (highest-dividend _ _ (omega arith))

pub settles : (pool rate stakes : ℕ) → Settles pool rate stakes (settled pool rate stakes)
settles pool rate stakes = go (in_bounds pool rate stakes) refl
  where
    go : (u : Bool) → in_bounds pool rate stakes ≡ u → Settles pool rate stakes (cond u (lawful pool rate stakes) (Err BadPool))
    go true b = settles-lawful pool rate stakes b
    go false b = b
