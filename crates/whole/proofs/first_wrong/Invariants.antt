-- The levels below the one at hand are right, and so are the nodes below the one at hand.
use Rattle.std.proofs.Common.{◌≡◌, false, ℕ, ◌<◌}
use Rattle.rules.specs.Wrong.{wrong_at}
use Rattle.node.specs.Lent.{levels_of}
use Rattle.capture.specs.Stored.{sample_in}
use Rattle.whole.specs.Wrong.{held_in}
use Rattle.whole.proofs.Laws.{Checking}
use Rattle.whole.proofs.first_wrong.Given as goal

abbrev pub invariant-loop-level : goal.invariant-loop-level
invariant-loop-level l = Checking (sample_in l.stored) l.stored.len (levels_of l.stored.memory.levels) l.level

abbrev pub invariant-loop-number : goal.invariant-loop-number
invariant-loop-number l = (i : ℕ) → i < l.number → wrong_at (sample_in l.stored) l.stored.len (held_in (levels_of l.stored.memory.levels)) l.level i ≡ false
