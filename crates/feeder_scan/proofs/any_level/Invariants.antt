-- No sample before i has the levels.
use Rattle.feeder_scan.specs.Scan.{wanted_of, sample_in}
use Rattle.feeder_scan.proofs.Level.{Missed}
use Rattle.feeder_scan.proofs.any_level.Given as goal

abbrev pub invariant-loop-i : goal.invariant-loop-i
invariant-loop-i l = Missed (wanted_of l.fn.masks) (sample_in l.samples) l.i
