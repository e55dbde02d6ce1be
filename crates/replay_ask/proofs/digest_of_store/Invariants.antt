-- A digest stays below the prime; each turn takes at least one sample.
use Rattle.std.proofs.Common.{◌-◌, ◌<◌}
use Rattle.replay_text.specs.Digests.{prime}
use Rattle.replay_ask.proofs.digest_of_store.Given as goal

abbrev pub invariant-loop-start : goal.invariant-loop-start
invariant-loop-start l = l.d < prime

abbrev pub decreases-loop-start : goal.decreases-loop-start
decreases-loop-start l = l.c.len - l.start
