-- So far each node was quiet.
use Rattle.find.specs.Run.{nth_node, Quiets}
use Rattle.find.specs.Row.{row_node}
use Rattle.find.proofs.Row.run.Given as goal

abbrev pub invariant-loop-k : goal.invariant-loop-k
invariant-loop-k l = Quiets (nth_node l.back (row_node l.self) l.from) l.mask l.fn.before l.k l.value
