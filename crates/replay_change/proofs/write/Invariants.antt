-- What is to come of the feed falls with each piece that another follows.
use Rattle.replay_feed.specs.Rest.{rest}
use Rattle.replay_change.proofs.write.Given as goal

abbrev pub invariant-loop-samples : goal.invariant-loop-samples
invariant-loop-samples l = Unit {0}

abbrev pub decreases-loop-samples : goal.decreases-loop-samples
decreases-loop-samples l = rest l.feed
