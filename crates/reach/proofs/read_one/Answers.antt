-- `reach::read_one` meets its contract.
use mathlib.Core.Path.{◌∙◌}
use native.Mathlib.Omega.{arith}
use borrow.Author.Tests.{eq-eqb, ne_eqb}
use Rattle.reach.specs.Reach.{called_by, readable}
use Rattle.reach.proofs.Rounds.{count-bounds}
use Rattle.reach.proofs.read_one.Goals as goal

pub returns-then-end-eq0 : goal.returns-then-end-eq0
unfolding readable called_by
returns-then-end-eq0 c = record { sound = rw (eq-eqb _ 0 c.if-end-eq0.true); calls = rw (eq-eqb _ 0 c.if-end-eq0.true) }

pub read-requires : goal.read-requires
read-requires c = let b = count-bounds _ c.requires.count c.if-end-eq0.false in
    record { placed = record { cells = omega (arith, c.requires.letter); used = b.1 }; low = b.0; row = omega (arith, c.requires.letter) }

pub returns : goal.returns
unfolding readable called_by
returns c = record {
  sound = c.read.ensures.sound ∙ (rw (ne_eqb _ 0 c.if-end-eq0.false));
  calls = c.read.ensures.calls ∙ (rw (ne_eqb _ 0 c.if-end-eq0.false));
}
