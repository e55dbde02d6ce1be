-- k stretches are passed.
use Rattle.std.proofs.Common.{◌≡◌, None}
use Rattle.unknown.specs.Crossing.{nth_stretch}
use Rattle.unknown.specs.Meeting.{met}
use Rattle.unknown.proofs.met.Given as goal

abbrev pub invariant-loop-k : goal.invariant-loop-k
invariant-loop-k l = met l.back l.p (nth_stretch l.back l.known.list.now) l.k ≡ None
