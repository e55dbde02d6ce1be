-- The loop follows the walk, run by run.
use Rattle.std.proofs.Common.{arith}
use Rattle.node.specs.Lent.{levels_of}
use Rattle.find.proofs.Turn.{stands_first, stands_last, turn_room, turn_moves, turn_some, turn_past, turn_found, turn_lower}
use Rattle.find.proofs.find.Goals as goal

pub loop-room-init : goal.loop-room-init
loop-room-init c =
    let a = c.args in
    let p = a.part.now in
    stands_first a.back p.unitsize p.base p.hi p.samples.now (levels_of p.levels) a.mask a.start c.left-room.result a.before c.requires.0 c.requires.1 c.requires.2 c.left-room.ensures

pub moved-pos-requires : goal.moved-pos-requires
moved-pos-requires c = turn_moves c.loop-room.invariant c.take-t.ensures (omega arith)

pub returns-then-t-eq0 : goal.returns-then-t-eq0
returns-then-t-eq0 c = turn_found c.loop-room.invariant c.take-t.ensures c.moved-pos.ensures c.if-t.true c.if-t-eq0.true

pub loop-room-preserved-then-t : goal.loop-room-preserved-then-t
loop-room-preserved-then-t c = turn_lower c.loop-room.invariant c.take-t.ensures c.moved-pos.ensures c.if-t.true c.if-t-eq0.false

pub loop-room-smaller : goal.loop-room-smaller
loop-room-smaller c = omega (arith, turn_room c.loop-room.invariant c.take-t.ensures, turn_some c.loop-room.invariant c.take-t.ensures c.if-t.false)

pub loop-room-preserved : goal.loop-room-preserved
loop-room-preserved c = turn_past c.loop-room.invariant c.take-t.ensures c.moved-pos.ensures

pub returns : goal.returns
returns c = stands_last c.loop-room.invariant (omega arith)
