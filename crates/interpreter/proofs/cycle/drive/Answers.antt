-- `interpreter::cycle::drive` meets its contract. The loops come to what the run comes to. The measure: steps left twice, and open calls.
use mathlib.Core.Path.{refl}
use native.Mathlib.Omega.{arith}
use Rattle.language.specs.Effects.{start}
use Rattle.language.specs.Tables.{execute}
use Rattle.language.proofs.EffectsLent.{lent-start}
use Rattle.operands.specs.Held.{Held, held, frames_of}
use Rattle.operands.proofs.Held.{length-frames}
use Rattle.interpreter.proofs.Loop.{after, run_at}
use Rattle.interpreter.proofs.Runs.{stretch-fit, allowed_of, left-resumed, resume, falls, stretch-none, stretch-more, driven}
use Rattle.interpreter.proofs.cycle.drive.Goals as goal

pub loop-m-init : goal.loop-m-init
unfolding execute after run_at frames_of start
loop-m-init c =
    let a = c.args in
    record {
      loop =
          record {
            comes = refl;
            kept =
                record {
                  letter = c.requires.letter;
                  cell = record { first = omega arith; final = omega arith };
                  callers = tt;
                  calls = omega arith;
                  lent = lent-start a.output.now a.vars.now a.inputs.now;
                  spent = omega arith;
                };
            allowed = record { letter = c.requires.allowed; callers = tt };
            size = refl;
          };
      between = λ e. cc;
    }

pub loop-m-2-init : goal.loop-m-2-init
loop-m-2-init c = stretch-none _ _ refl c.fetch-pair.ensures

pub loop-m-smaller : goal.loop-m-smaller
loop-m-smaller c = omega (arith, c.loop-m-2.invariant.fewer c.in_default-status.not-Goes, left-resumed c.loop-m.m c.in-Enters.is)

pub loop-m-preserved : goal.loop-m-preserved
loop-m-preserved c =
    record { loop = c.loop-m-2.invariant.keeps _ _ _ (resume _ _ _ _ c.loop-m.invariant.loop c.in-Enters.is); between = c.in_default-status.not-Goes }

pub obey-m-requires : goal.obey-m-requires
obey-m-requires c =
    let entered = resume _ _ _ _ c.loop-m.invariant.loop c.in-Enters.is in
    let looping = c.loop-m-2.invariant.keeps _ _ _ entered in
    let f = stretch-fit c.loop-m-2.invariant entered c.in-Goes.is in
    let p = c.loop-m-2.invariant.pair c.in-Goes.is in
    record {
      turning =
          rw p
          (record {
            placed = record { cells = omega (arith, f.letter); used = c.requires.counted c.loop-m-2.m.letter };
            letter = f.letter;
            first = f.cell.first;
            cell = f.cell.final;
            height = f.lent.height;
            depth = omega (arith, f.calls, length-frames c.loop-m-2.frames c.loop-m-2.m.depth);
            written = omega (arith, f.lent.written, f.lent.bytes);
            size = looping.size;
          });
      pair = p;
      allowed = (allowed_of _ _ _ _ looping c.in-Goes.is).letter;
    }

pub loop-m-2-smaller : goal.loop-m-2-smaller
loop-m-2-smaller c =
    let looping = c.loop-m-2.invariant.keeps _ _ _ (resume _ _ _ _ c.loop-m.invariant.loop c.in-Enters.is) in
    let next : Held =
    held c.obey-m.result c.args.cells.now c.args.used.now c.args.permissions.now c.args.role c.args.inputs.now c.obey-m.new.frames c.obey-m.new.counts c.obey-m.new.vars
    c.obey-m.new.list c.obey-m.new.output in
    falls _ _ _ _ next _ looping c.in-Goes.is (c.loop-m-2.invariant.pair c.in-Goes.is) c.obey-m.ensures.turns c.requires.letters c.requires.counted

pub loop-m-2-preserved : goal.loop-m-2-preserved
loop-m-2-preserved c =
    let looping = c.loop-m-2.invariant.keeps _ _ _ (resume _ _ _ _ c.loop-m.invariant.loop c.in-Enters.is) in
    stretch-more _ _ _ _ _ _ _ c.loop-m-2.invariant looping
    c.in-Goes.is c.obey-m.ensures.turns c.requires.letters c.requires.counted refl refl refl refl c.obey-m.ensures.size

pub returns : goal.returns
returns c = rw c.copy_from_slice.ensures.after (driven _ _ _ _ c.loop-m.invariant.loop c.loop-m.invariant.between c.in_default.not-Enters)
