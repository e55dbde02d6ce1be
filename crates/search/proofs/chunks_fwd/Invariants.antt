-- The walk over the chunks that are left, its steps counted on, is the whole walk.
use Rattle.std.proofs.Common.{◌-◌, ◌+◌, ◌*◌, ◌<◌, ◌≤◌}
use Rattle.rules.specs.Node.{chunk}
use Rattle.rules.specs.Walk.{ahead, chunks_for, next_walk, all_levels}
use Rattle.capture.specs.Stored.{reader_in}
use Rattle.search.proofs.Chunks.{Coursing}
use Rattle.search.proofs.chunks_fwd.Given as goal

abbrev pub invariant-loop-ci : goal.invariant-loop-ci
invariant-loop-ci l =
    let reader = reader_in l.stored in
    let len = l.stored.len in
    Coursing (ahead all_levels reader len) l.mask (next_walk all_levels reader len l.mask l.from) l.count (chunks_for len - l.ci) l.ci l.lo (reader 0 (l.lo - 1)).first × (1 ≤ l.lo) × (l.ci * chunk ≤ l.lo) × (l.lo ≤ (l.ci + 1) * chunk) × (l.ci * chunk < len → l.lo ≤ len)

abbrev pub decreases-loop-ci : goal.decreases-loop-ci
decreases-loop-ci l = chunks_for l.stored.len - l.ci
