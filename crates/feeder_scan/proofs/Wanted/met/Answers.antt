-- The three masks' own test, in fewer steps.
use Rattle.feeder_scan.proofs.Lines.{met_is}
use Rattle.feeder_scan.proofs.Wanted.met.Goals as goal

pub returns : goal.returns
returns c = met_is c.args.self c.args.prev c.args.v
