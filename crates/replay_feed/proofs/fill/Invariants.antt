-- What is to come never grows, and is less once there are bytes: it is the measure.
use Rattle.std.proofs.Common.{◌≤◌, ◌<◌, length}
use Rattle.replay_feed.specs.Rest.{rest}
use Rattle.replay_feed.proofs.fill.Given as goal

abbrev pub invariant-loop-feed : goal.invariant-loop-feed
invariant-loop-feed l = (l.bytes ≤ length l.piece) × (rest l.feed ≤ rest l.fn.f) × (0 < l.bytes → rest l.feed < rest l.fn.f)

abbrev pub decreases-loop-feed : goal.decreases-loop-feed
decreases-loop-feed l = rest l.feed
