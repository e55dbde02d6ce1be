-- Chunk by chunk the range is gathered.
use Rattle.std.proofs.Common.{ℕ, ◌-◌}
use Rattle.std.specs.Option.{option_map}
use Rattle.node.specs.Memory.{as_node}
use Rattle.node.specs.Lent.{levels_of}
use Rattle.capture.specs.Stored.{sample_in}
use Rattle.summary.specs.Summary.{cut_at, chunk_node}
use Rattle.summary.proofs.Gather.{Gathered}
use Rattle.summary.proofs.by_levels.Given as goal

abbrev pub invariant-loop-pos : goal.invariant-loop-pos
invariant-loop-pos l = Gathered (λ (p e : ℕ). chunk_node (levels_of l.stored.memory.levels) (sample_in l.stored) p (cut_at p e)) cut_at l.counted l.a l.b (option_map as_node l.acc) l.pos

abbrev pub decreases-loop-pos : goal.decreases-loop-pos
decreases-loop-pos l = l.b - l.pos
