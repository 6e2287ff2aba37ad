-- `past_zeros` meets its contract. The loop's invariant: after their leading zeros, what is left and the whole text are the same.
use mathlib.Core.Path.{sym, ap, ◌∙◌}
use lib.ListN.{drop}
use native.Mathlib.Omega.{arith}
use Prim.Native.Nat.{ℕ}
use Rattle.faircopy.proofs.StepsParts.{zeros-last, zeros-more}
use Rattle.faircopy.proofs.past_zeros.Goals as goal

pub returns-in_default : goal.returns-in_default
returns-in_default c =
    let r = c.loop-rest.rest.now in
    sym (ap (λ (n : ℕ). drop n r) (zeros-last r c.in_default.len_below)) ∙ c.loop-rest.invariant

pub loop-rest-preserved : goal.loop-rest-preserved
loop-rest-preserved c = zeros-more c.loop-rest.rest.now c.in-48.len_at_least (omega arith) c.if-next-lt48.false ∙ c.loop-rest.invariant
