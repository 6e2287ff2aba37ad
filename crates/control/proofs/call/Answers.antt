-- `control::call` meets its contract. What the tests say of the counts is left to `omega`, whichever test says it.
use mathlib.Core.Path.{sym, ◌∙◌}
use Prim.Native.Nat.{◌+◌}
use native.Mathlib.Omega.{arith}
use lib.ListN.{get_or, length-set}
use borrow.Author.Tests.{lt-ltb, le-ltb, eq-eqb, ne_eqb}
use Rattle.language.specs.Limits.{max_calls}
use Rattle.language.specs.Effects.{on_call}
use Rattle.operands.specs.Operands.{table_in}
use Rattle.operands.proofs.Operands.{exit-le}
use Rattle.operands.proofs.OperandsDecoding.{call-read}
use Rattle.operands.proofs.Held.{length-frames, frames-push}
use Rattle.control.proofs.call.Goals as goal

pub returns-in_default : goal.returns-in_default
returns-in_default c =
    record {
      turns = λ h. rw (c.stop.ensures, call-read, ← c.exit_of.ensures, c.in_default.is);
      size = c.requires.size;
    }

pub returns-then-m-eq0 : goal.returns-then-m-eq0
returns-then-m-eq0 c =
    record {
      turns = λ h. rw (c.stop-then-m-eq0.ensures, call-read, ← c.exit_of.ensures, c.in-Some.is, eq-eqb _ _ c.if-m-eq0.true);
      size = c.requires.size;
    }

pub returns-then-used-a-eq0 : goal.returns-then-used-a-eq0
unfolding on_call
returns-then-used-a-eq0 c =
    let none = eq-eqb (get_or c.args.used.now c.args.a 0) 0 (omega arith) in
    record {
      turns = λ h. rw (c.stop-then-used-a-eq0.ensures, call-read, ← c.exit_of.ensures, c.in-Some.is, ne_eqb _ _ c.if-m-eq0.false, none);
      size = c.requires.size;
    }

pub returns-then-bars : goal.returns-then-bars
unfolding on_call
returns-then-bars c =
    let some = ne_eqb (get_or c.args.used.now c.args.a 0) 0 (λ e. omega arith) in
    record {
      turns = λ h. rw (c.stop-then-bars.ensures, call-read, ← c.exit_of.ensures, c.in-Some.is, ne_eqb _ _ c.if-m-eq0.false, some, sym c.bars.ensures ∙ c.if-bars.true);
      size = c.requires.size;
    }

pub overflow_cast-frames-then-d-lt-CALLS-2 : goal.overflow_cast-frames-then-d-lt-CALLS-2
overflow_cast-frames-then-d-lt-CALLS-2 c =
    let near = exit-le (table_in c.args.cells.now c.args.code) c.args.m.at _ (sym c.exit_of.ensures ∙ c.in-Some.is) in
    record { fits = omega (arith, near, c.requires.inside.placed.used) }

pub returns-then-d-lt-CALLS : goal.returns-then-d-lt-CALLS
unfolding on_call
returns-then-d-lt-CALLS c =
    let m = c.args.m in
    let fr = c.args.frames.now in
    let some = ne_eqb (get_or c.args.used.now c.args.a 0) 0 (λ e. omega arith) in
    record {
      turns = λ h.
          rw (
            call-read,
            ← c.exit_of.ensures,
            c.in-Some.is,
            ne_eqb _ _ c.if-m-eq0.false,
            some,
            sym c.bars.ensures ∙ c.if-bars.false,
            length-frames fr m.depth,
            lt-ltb m.depth max_calls (omega arith),
            frames-push fr m.depth (record { letter = m.letter; next = m.at + 2; exit = c.in-Some.f }) (omega arith),
          );
      size = simp length-set c.requires.size;
    }

pub returns-else-d-lt-CALLS : goal.returns-else-d-lt-CALLS
unfolding on_call
returns-else-d-lt-CALLS c =
    let some = ne_eqb (get_or c.args.used.now c.args.a 0) 0 (λ e. omega arith) in
    record {
      turns = λ h.
          rw (
            call-read,
            ← c.exit_of.ensures,
            c.in-Some.is,
            ne_eqb _ _ c.if-m-eq0.false,
            some,
            sym c.bars.ensures ∙ c.if-bars.false,
            length-frames c.args.frames.now c.args.m.depth,
            le-ltb c.args.m.depth max_calls (omega arith),
            c.stop-else-d-lt-CALLS.ensures,
          );
      size = c.requires.size;
    }
