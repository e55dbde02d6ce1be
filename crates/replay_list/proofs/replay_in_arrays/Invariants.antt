-- Each line ends behind where it starts.
use Rattle.std.proofs.Common.{◌-◌, ◌≤◌}
use Rattle.replay_list.proofs.replay_in_arrays.Given as goal

abbrev pub invariant-loop-at : goal.invariant-loop-at
invariant-loop-at l = l.at ≤ l.n

abbrev pub decreases-loop-at : goal.decreases-loop-at
decreases-loop-at l = l.n - l.at
