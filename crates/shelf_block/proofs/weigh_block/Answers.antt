-- Two places of each half are summed at a time.
use Rattle.shelf_block.proofs.Weighed.{weighing_starts, weighing_on, weighing_ends}
use Rattle.shelf_block.proofs.weigh_block.Goals as goal
use Rattle.std.proofs.Common.{arith}

pub loop-i-init : goal.loop-i-init
loop-i-init c = weighing_starts c.args.block.now c.requires

pub loop-i-preserved : goal.loop-i-preserved
loop-i-preserved c = weighing_on c.args.block.now c.requires c.loop-i.invariant (omega arith) c.pair-sum.ensures

pub returns : goal.returns
returns c = weighing_ends c.args.block.now c.requires c.loop-i.invariant (omega arith)
