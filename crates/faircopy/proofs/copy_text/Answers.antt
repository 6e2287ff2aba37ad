-- `copy_text` meets its contract. The loop's invariant: what is written, and what the steps will write of the rest, are the fair copy.
use native.Mathlib.Omega.{arith}
use Rattle.faircopy.proofs.StepsLoop.{copying-none, copying-fits, copying-fewer, copying-more, copying-done}
use Rattle.faircopy.proofs.copy_text.Goals as goal

pub loop-left-init : goal.loop-left-init
loop-left-init c w h = copying-none _ _ w h

pub copy_step-moved-requires : goal.copy_step-moved-requires
copy_step-moved-requires c =
    let p = c.requires in
    copying-fits _ _ p.expression p.reads p.room c.loop-left.left.now _ _ (c.loop-left.invariant p.expression p.reads) c.in-len1-up.len_at_least

pub loop-left-smaller : goal.loop-left-smaller
loop-left-smaller c =
    let p = c.requires in
    copying-fewer _ _ p.expression p.reads p.room c.loop-left.left.now _ _ (c.loop-left.invariant p.expression p.reads) c.in-len1-up.len_at_least _ _ c.copy_step-moved.ensures

pub loop-left-preserved : goal.loop-left-preserved
loop-left-preserved c w h =
    copying-more _ _ w h c.requires.room c.loop-left.left.now _ _ (c.loop-left.invariant w h) c.in-len1-up.len_at_least _ _ c.copy_step-moved.ensures
    (omega arith)

pub returns : goal.returns
returns c w h = copying-done _ _ w h c.requires.room c.loop-left.left.now _ _ (c.loop-left.invariant w h) (omega arith)
