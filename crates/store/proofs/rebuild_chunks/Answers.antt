-- A chunk's nodes more.
use Rattle.std.proofs.Common.{arith, refl}
use Rattle.store.proofs.Chunks.{making_starts, making_on, making_end, turn, new_room}
use Rattle.store.proofs.rebuild_chunks.Goals as goal

pub loop-p-init : goal.loop-p-init
loop-p-init c = let a = c.args in making_starts a.unitsize a.from a.top a.samples.now a.l1.now c.requires.0 c.requires.1

pub rebuild_new-requires : goal.rebuild_new-requires
rebuild_new-requires c =
    let a = c.args in
    let p = c.loop-p in
    new_room a.unitsize a.from a.top a.samples.now a.l1.now c.requires.1 p.p _ c.min-stop.result p.invariant.low c.loop-p-test.true refl c.min-stop.ensures
    (p.invariant.begins c.loop-p-test.true) _ _ refl p.invariant.nodes.kept

pub loop-p-smaller : goal.loop-p-smaller
loop-p-smaller c =
    let a = c.args in
    let p = c.loop-p in
    omega (arith, (turn a.unitsize a.from a.top a.samples.now a.l1.now c.requires.1 p.p _ c.min-stop.result p.invariant.low c.loop-p-test.true refl c.min-stop.ensures))

pub loop-p-preserved : goal.loop-p-preserved
loop-p-preserved c =
    let a = c.args in
    let p = c.loop-p in
    making_on a.unitsize a.from a.top a.samples.now a.l1.now c.requires.0 c.requires.1 p.l1 p.p p.invariant c.loop-p-test.true _ c.min-stop.result
    (turn a.unitsize a.from a.top a.samples.now a.l1.now c.requires.1 p.p _ c.min-stop.result p.invariant.low c.loop-p-test.true refl c.min-stop.ensures)
    _ c.rebuild_new.ensures

pub returns : goal.returns
returns c =
    let a = c.args in
    let p = c.loop-p in
    making_end a.unitsize a.from a.top a.samples.now a.l1.now c.requires.0 c.requires.1 p.l1 p.p p.invariant c.loop-p-test.false
