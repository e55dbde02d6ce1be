-- So far each chunk was quiet.
use Rattle.std.proofs.Common.{◌≡◌, true, ℕ, ◌<◌}
use Rattle.search.specs.Quiet.{quiet_nth}
use Rattle.search.proofs.quiet_chunks.Given as goal

abbrev pub invariant-loop-k : goal.invariant-loop-k
invariant-loop-k l = (j : ℕ) → j < l.k → quiet_nth l.stored l.back l.mask l.border j ≡ true
