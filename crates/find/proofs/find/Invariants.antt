-- The walk from here on, its steps counted on, is the whole walk; a turn moves on, or lowers the cap.
use Rattle.std.proofs.Common.{◌+◌}
use Rattle.rules.specs.Walk.{walk_from}
use Rattle.node.specs.Lent.{levels_of}
use Rattle.find.specs.Takes.{walk_in}
use Rattle.find.proofs.Turn.{Stands}
use Rattle.find.proofs.find.Given as goal

abbrev pub invariant-loop-room : goal.invariant-loop-room
invariant-loop-room l =
    Stands l.back l.part.unitsize l.part.base l.part.hi l.part.samples.now (levels_of l.part.levels) l.mask (walk_from (walk_in l.part l.back) l.mask l.start l.before) l.count l.pos l.room l.maxl l.value

abbrev pub decreases-loop-room : goal.decreases-loop-room
decreases-loop-room l = l.room + l.maxl
