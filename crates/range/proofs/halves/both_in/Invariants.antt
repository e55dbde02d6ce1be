-- What is known of the first k places of each run.
use Rattle.std.proofs.Common.{◌+◌, ◌≤◌}
use Rattle.rules.specs.Sample.{sample_of}
use Rattle.range.specs.Run.{Both}
use Rattle.range.proofs.halves.both_in.Given as goal

abbrev pub invariant-loop-k : goal.invariant-loop-k
invariant-loop-k g l = let m = g.L.Lane in (m.value l.count ≤ l.k + l.k) × Both (sample_of m.size l.part) l.a l.k (m.value l.mask) (m.value l.count)
