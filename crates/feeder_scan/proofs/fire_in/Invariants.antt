-- No place before i fires, and p is the sample before i.
use Rattle.std.proofs.Common.{◌≡◌}
use Rattle.feeder_scan.specs.Scan.{masks_for, sample_in, fire_from}
use Rattle.feeder_scan.proofs.fire_in.Given as goal

abbrev pub invariant-loop-i : goal.invariant-loop-i
invariant-loop-i l = fire_from (masks_for l.w) (sample_in l.samples) l.p l.i l.e ≡ fire_from (masks_for l.w) (sample_in l.samples) l.prev l.a l.e
