-- What is added up so far is, once it is cut, the count of the nodes so far.
use Rattle.node.specs.Memory.{as_node, node_in}
use Rattle.range.proofs.Joins.{Counting}
use Rattle.range.proofs.count_on.Given as goal

abbrev pub invariant-loop-i : goal.invariant-loop-i
invariant-loop-i l = Counting (node_in l.below) (as_node l.fn.n) l.from l.b l.sum l.last.last l.i
