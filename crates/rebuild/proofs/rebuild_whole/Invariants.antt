-- The nodes before j are put.
use Rattle.std.proofs.Common.{◌+◌, ◌/◌, ◌≤◌, max}
use Rattle.rules.specs.Node.{level_node}
use Rattle.range.specs.Part.{part_sample}
use Rattle.rebuild.proofs.Nodes.{Putting}
use Rattle.rebuild.proofs.rebuild_whole.Given as goal

abbrev pub invariant-loop-j : goal.invariant-loop-j
invariant-loop-j l = (l.j ≤ max l.first l.end) × Putting (level_node (part_sample l.unitsize l.part l.base) (l.top + 1) 1) l.fn.level l.first (l.top / 32) l.level l.j
