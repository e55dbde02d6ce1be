-- What is left to join gives what all give.
use Rattle.std.proofs.Common.{false, ◌-◌}
use Rattle.node.specs.Memory.{as_node, node_in}
use Rattle.range.proofs.Joins.{Joining}
use Rattle.range.proofs.lines_on.Given as goal

abbrev pub invariant-loop-i : goal.invariant-loop-i
invariant-loop-i l = Joining false (node_in l.below) (as_node l.fn.n) l.from l.b (as_node l.acc) l.i

abbrev pub decreases-loop-i : goal.decreases-loop-i
decreases-loop-i l = l.b - l.i
