-- The walk over the chunks that are left, its steps counted on, is the whole walk.
use Rattle.std.proofs.Common.{◌-◌, ◌+◌, ◌*◌, ◌<◌, ◌≤◌}
use Rattle.rules.specs.Node.{chunk}
use Rattle.rules.specs.Walk.{behind, previous_from, all_levels}
use Rattle.capture.specs.Stored.{reader_in}
use Rattle.search.proofs.Chunks.{Coursing}
use Rattle.search.proofs.chunks_back.Given as goal

abbrev pub invariant-loop-left : goal.invariant-loop-left
invariant-loop-left l =
    let reader = reader_in l.stored in
    Coursing (behind all_levels reader) l.mask (previous_from all_levels reader l.mask l.start) l.count l.left (l.left - 1) l.at (reader 0 l.at).first × (l.at < l.stored.len) × (l.at ≤ l.left * chunk) × (l.left * chunk ≤ l.at + chunk)

abbrev pub decreases-loop-left : goal.decreases-loop-left
decreases-loop-left l = l.left
