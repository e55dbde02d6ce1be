-- Part by part the range is gathered.
use Rattle.std.proofs.Common.{◌-◌}
use Rattle.std.specs.Option.{option_map}
use Rattle.node.specs.Memory.{as_node}
use Rattle.node.specs.Lent.{levels_of}
use Rattle.capture.specs.Stored.{sample_in}
use Rattle.summary.specs.Summary.{step_node, step_end}
use Rattle.summary.proofs.Gather.{Gathered}
use Rattle.summary.proofs.chunk_summary.Given as goal

abbrev pub invariant-loop-pos : goal.invariant-loop-pos
invariant-loop-pos l = Gathered (step_node (levels_of l.stored.memory.levels) (sample_in l.stored)) step_end l.counted l.a l.b (option_map as_node l.acc) l.pos

abbrev pub decreases-loop-pos : goal.decreases-loop-pos
decreases-loop-pos l = l.b - l.pos
