-- Whether one of the places before i fires.
use Rattle.std.proofs.Common.{◌≡◌, ◌-◌, ltb}
use Rattle.feeder_scan.specs.Scan.{masks_for, sample_in, fire_from}
use Rattle.feeder_scan.proofs.any_fires.Given as goal

abbrev pub invariant-loop-i : goal.invariant-loop-i
invariant-loop-i l = l.any ≡ ltb (fire_from (masks_for l.w) (sample_in l.samples) (sample_in l.samples (l.a - 1)) l.a l.i) l.i
