-- No place before a fires.
use Rattle.std.proofs.Common.{◌≡◌, ◌-◌, ◌≤◌}
use Rattle.feeder_scan.specs.Scan.{masks_for, sample_in, fire_from}
use Rattle.feeder_scan.proofs.fire_in_blocks.Given as goal

abbrev pub invariant-loop-a : goal.invariant-loop-a
invariant-loop-a l =
    (1 ≤ l.a) × (l.a ≤ l.n) × (fire_from (masks_for l.w) (sample_in l.samples) (sample_in l.samples (l.a - 1)) l.a l.n ≡ fire_from (masks_for l.w) (sample_in l.samples) l.prev 0 l.n)

abbrev pub decreases-loop-a : goal.decreases-loop-a
decreases-loop-a l = l.n - l.a
