-- Turn by turn one more number is a sample.
use Rattle.std.proofs.Common.{arith}
use Rattle.capture.specs.Stored.{sample_in}
use Rattle.capture.proofs.Calls.{over_none, over_turn}
use Rattle.capture.proofs.copy_samples.Goals as goal

pub loop-i-init : goal.loop-i-init
loop-i-init c = over_none (sample_in c.args.stored.now) c.args.start c.args.output.now

pub loop-i-preserved : goal.loop-i-preserved
loop-i-preserved c = over_turn (sample_in c.args.stored.now) c.args.start c.loop-i.i c.sample.result c.args.output.now c.loop-i.output (omega (arith, c.requires.room)) c.loop-i.invariant c.sample.ensures
