-- What is left after each stretch; what is counted stays below the next place.
use Rattle.std.proofs.Common.{◌+◌, ◌-◌, ◌<◌, ◌≤◌}
use Rattle.capture.specs.Stored.{sample_in}
use Rattle.encoder.specs.Replayed.{onward_from, hops_in}
use Rattle.encoder.proofs.Stretch.{Left}
use Rattle.encoder.proofs.hops.Given as goal

abbrev pub invariant-loop-p : goal.invariant-loop-p
invariant-loop-p l = record {
  upto : l.p ≤ l.replay.stored.len + 1;
  below : l.forward + l.backward + l.skipped < l.p;
  left : Left l.replay.stored.unitsize (onward_from l.replay) (sample_in l.replay.stored) l.replay.stored.len l.replay.a l.replay.b (hops_in l.replay) l.p l.quiet l.forward l.backward l.skipped;
}

abbrev pub decreases-loop-p : goal.decreases-loop-p
decreases-loop-p l = l.replay.stored.len - l.p
