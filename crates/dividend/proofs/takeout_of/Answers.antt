-- `dividend::takeout_of` meets its contract.
use native.Mathlib.Omega.{arith}
use native.Mathlib.Nat.{mul-le-mul}
use Rattle.dividend.proofs.takeout_of.Goals as goal

-- a product of two numbers of 32 bits
pub overflow_mul-result : goal.overflow_mul-result
overflow_mul-result c =
    let m = mul-le-mul c.ranges.pool.fits c.ranges.rate.fits in
    record { fits = rw (c.from.ensures, c.from-2.ensures) (omega (arith, m)) }
