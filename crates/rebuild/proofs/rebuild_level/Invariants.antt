-- The nodes before j are put.
use Rattle.std.proofs.Common.{◌/◌}
use Rattle.node.specs.Memory.{node_in}
use Rattle.range.specs.Join.{made_over}
use Rattle.rebuild.proofs.Nodes.{Putting}
use Rattle.rebuild.proofs.rebuild_level.Given as goal

abbrev pub invariant-loop-j : goal.invariant-loop-j
invariant-loop-j l = Putting (made_over (node_in l.below) l.top) l.fn.level l.first (l.top / 32) l.level l.j
