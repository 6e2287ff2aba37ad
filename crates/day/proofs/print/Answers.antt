-- `day::print` meets its contract. The loop's invariant: what was printed is a beginning of the day.
use mathlib.Core.Path.{refl, sym}
use Prim.Native.Nat.{ℕ}
use native.Mathlib.Omega.{arith}
use lib.ListN.{length-take, length-drop, length-replicate}
use lib.Seq.{length-take-le}
use borrow.Author.Tests.{eqb-true, eqb-false}
use Rattle.day.proofs.Played.{playing-none, playing-more, playing-ends, turning-goes, turning-leaves}
use Rattle.day.proofs.print.Goals as goal

pub loop-rest-init : goal.loop-rest-init
loop-rest-init c = rw c.fresh-store.ensures (record { playing = playing-none _ _; line = refl; paper = length-replicate {A = ℕ} 4200 0 })

pub slice_bounds-paper-end : goal.slice_bounds-paper-end
slice_bounds-paper-end c = let z = turning-goes c.loop-rest.invariant c.step-a.ensures in omega arith

pub slice_bounds-write_bytes-end : goal.slice_bounds-write_bytes-end
slice_bounds-write_bytes-end c = let z = turning-goes c.loop-rest.invariant c.step-a.ensures in sym (length-take-le _ _ (omega arith))

pub overflow_add-count : goal.overflow_add-count
overflow_add-count c = let z = turning-goes c.loop-rest.invariant c.step-a.ensures in record { fits = omega arith }

pub slice_bounds-rest-count : goal.slice_bounds-rest-count
slice_bounds-rest-count c = let z = turning-goes c.loop-rest.invariant c.step-a.ensures in omega arith

pub slice_bounds-rest-start : goal.slice_bounds-rest-start
slice_bounds-rest-start c = let z = turning-goes c.loop-rest.invariant c.step-a.ensures in omega arith

pub loop-rest-smaller : goal.loop-rest-smaller
loop-rest-smaller c =
    let z = turning-goes c.loop-rest.invariant c.step-a.ensures in
    let more = eqb-false _ _ (sym c.loop-rest-test.ensures) in
    omega (arith, more, length-take {A = ℕ}, length-drop {A = ℕ})

pub loop-rest-preserved : goal.loop-rest-preserved
loop-rest-preserved c =
    let l = c.loop-rest in
    record {
      playing = playing-more _ _ _ _ _ _ l.invariant.playing _ _ (omega (arith, l.invariant.line)) (omega (arith, l.invariant.paper)) _ _ _ c.write_bytes.ensures (omega (arith, c.write_bytes.auto.out)) c.step-a.ensures;
      line = omega (arith, c.step-a.auto.line, l.invariant.line);
      paper = omega (arith, c.step-a.auto.paper, l.invariant.paper);
    }

pub slice_bounds-paper-end-2 : goal.slice_bounds-paper-end-2
slice_bounds-paper-end-2 c = let z = turning-leaves c.loop-rest.invariant c.finish-e.ensures in omega arith

pub slice_bounds-write_bytes-end-2 : goal.slice_bounds-write_bytes-end-2
slice_bounds-write_bytes-end-2 c = let z = turning-leaves c.loop-rest.invariant c.finish-e.ensures in sym (length-take-le _ _ (omega arith))

pub overflow_add-result : goal.overflow_add-result
overflow_add-result c = let z = turning-leaves c.loop-rest.invariant c.finish-e.ensures in record { fits = omega arith }

pub returns : goal.returns
returns c =
    let l = c.loop-rest in
    playing-ends _ _ _ _ _ _ l.invariant.playing _ _ (omega (arith, l.invariant.line)) (omega (arith, l.invariant.paper)) _ _ _ c.write_bytes-2.ensures (omega (arith, c.write_bytes-2.auto.out)) (eqb-true _ _ (sym c.loop-rest-test.ensures)) c.finish-e.ensures
