-- `write_output` meets its contract.
use native.Mathlib.Omega.{arith}
use Rattle.std.proofs.lemmas.Bool.Decides.{nat_tests}
use Rattle.columns.proofs.Printed.{output-none, output-no-room, output-written}
use Rattle.columns.proofs.write_output.Goals as goal

pub returns-then-is_empty : goal.returns-then-is_empty
returns-then-is_empty c = output-none _ _ _ (grind (arith, nat_tests))

pub returns-then-saturating_sub-output : goal.returns-then-saturating_sub-output
returns-then-saturating_sub-output c =
    let s = c.args in
    output-no-room s.out.now s.at s.output.now (grind (arith, nat_tests)) (omega arith)

pub returns : goal.returns
returns c =
    let s = c.args in
    output-written s.out.now s.at s.output.now (grind (arith, nat_tests)) (omega arith) c.write_bytes-end.ensures c.write_bytes.ensures
