-- One place more.
use Rattle.std.proofs.Common.{ap₂, ◌∙◌}
use Rattle.rules.specs.Trigger.{matches}
use Rattle.feeder_scan.specs.Scan.{masks_for, sample_in}
use Rattle.feeder_scan.proofs.Fire.{any_turn}
use Rattle.feeder_scan.proofs.any_fires.Goals as goal

pub loop-i-preserved : goal.loop-i-preserved
loop-i-preserved c =
    let a = c.args in
    any_turn (masks_for a.w) (sample_in a.samples.now) a.a c.loop-i.i c.loop-i.any _ c.loop-i.auto.i c.loop-i.invariant
    (c.met-any.ensures ∙ ap₂ (matches (masks_for a.w)) c.at.ensures c.at-in-loop-i.ensures)
