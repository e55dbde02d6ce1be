-- k stretches are crossed.
use Rattle.std.proofs.Common.{◌≡◌, Some}
use Rattle.capture.specs.Stored.{reader_in}
use Rattle.unknown.specs.Crossing.{walked, nth_stretch, crossed}
use Rattle.unknown.proofs.certain_in.Given as goal

abbrev pub invariant-loop-k : goal.invariant-loop-k
invariant-loop-k l = let s = walked l.back (reader_in l.known.stored) l.mask l.known.stored.len in Some l.i ≡ crossed s l.back (nth_stretch l.back l.known.list.now) l.k (s l.from)
