-- The nodes up to place p are made.
use Rattle.std.proofs.Common.{◌+◌, ◌-◌}
use Rattle.store.proofs.Chunks.{Making}
use Rattle.store.proofs.rebuild_chunks.Given as goal

abbrev pub invariant-loop-p : goal.invariant-loop-p
invariant-loop-p l = Making l.unitsize l.from l.top l.samples l.fn.l1 l.l1 l.p

abbrev pub decreases-loop-p : goal.decreases-loop-p
decreases-loop-p l = l.top + 1 - l.p
