-- The scan by three masks, from the first place on.
use Rattle.feeder_scan.proofs.Answer.{scanned}
use Rattle.feeder_scan.proofs.fire_few.Goals as goal

pub returns : goal.returns
returns c =
    let a = c.args in
    scanned a.masks a.prev a.samples.now c.requires c.of.ensures c.at.ensures c.unwrap_or-p.ensures c.fire_in.ensures
