-- No sample has the levels, so none fires.
use Rattle.std.proofs.Common.{arith}
use Rattle.feeder_scan.specs.Scan.{sample_in}
use Rattle.feeder_scan.proofs.Level.{none_fires}
use Rattle.feeder_scan.proofs.any_level.Goals as goal

pub returns : goal.returns
returns c = λ _. none_fires c.args.masks (sample_in c.args.samples.now) c.args.samples.now.n (λ j h. c.loop-i.invariant j (omega arith))
