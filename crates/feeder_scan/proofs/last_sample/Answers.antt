-- With no samples it stays.
use Rattle.std.proofs.Common.{Some, ap, ◌∙◌, arith}
use Rattle.feeder_scan.specs.Scan.{sample_in}
use Rattle.feeder_scan.proofs.Last.{last_none, last_some}
use Rattle.feeder_scan.proofs.last_sample.Goals as goal

pub returns-then-samples-eq0 : goal.returns-then-samples-eq0
returns-then-samples-eq0 c = last_none (sample_in c.args.samples.now) c.args.prev c.args.samples.now.n c.if-samples-eq0.true

pub returns : goal.returns
returns c = ap Some c.at.ensures ∙ last_some (sample_in c.args.samples.now) c.args.prev c.args.samples.now.n (omega arith)
