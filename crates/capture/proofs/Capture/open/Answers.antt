-- What passed rows 1 and 2 lies in memory.
use Rattle.std.proofs.Common.{sym}
use Rattle.node.specs.Lent.{levels_of}
use Rattle.capture.proofs.Backed.{passes_backed}
use Rattle.capture.proofs.Capture.open.Goals as goal

pub invariant_of-result : goal.invariant_of-result
invariant_of-result c = record { backed = passes_backed c.args.self.now c.args.memory.samples.now (levels_of c.args.memory.levels) (sym c.in_ok-check.ensures) }
