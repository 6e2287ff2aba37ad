-- `language::bars`: the test of the role, then that of the mark.
use Rattle.std.proofs.Common.{eq-eqb, ne_eqb}
use Rattle.language.specs.Roles.{bars}
use Rattle.language.proofs.bars.Goals as goal

pub returns-then-role-eq-CASHIER : goal.returns-then-role-eq-CASHIER
unfolding bars
returns-then-role-eq-CASHIER c = rw (eq-eqb _ _ c.if-role-eq-CASHIER.true)

pub returns-else-role-eq-CASHIER : goal.returns-else-role-eq-CASHIER
unfolding bars
returns-else-role-eq-CASHIER c = rw (ne_eqb _ _ c.if-role-eq-CASHIER.false)
