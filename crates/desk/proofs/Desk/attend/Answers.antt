-- `desk::Desk::attend` meets its contract. The loop's invariant: the buffers keep their lengths.
use native.Mathlib.Omega.{arith}
use Rattle.console.proofs.Places.{end_goes}
use Rattle.desk.proofs.Desk.attend.Goals as goal

pub shared_ref_as_front-write_all : goal.shared_ref_as_front-write_all
shared_ref_as_front-write_all c =
    let q = c.loop.invariant in
    let z = end_goes _ _ _ _ (omega (arith, q.line)) (omega (arith, q.out)) c.finish-e.ensures in
    omega (arith, z.little)
