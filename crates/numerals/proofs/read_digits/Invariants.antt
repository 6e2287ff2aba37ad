-- `read_digits` meets its contract. The loop's invariant: the digits before the place are read.
use Prim.Native.Nat.{◌+◌}
use Rattle.numerals.proofs.Numerals.{Reading}
use Rattle.numerals.proofs.read_digits.Given as goal

abbrev pub invariant-loop-b : goal.invariant-loop-b
invariant-loop-b l = Reading l.text l.from l.most (l.from + l.b-index) l.read.count l.read.value
