-- The blocks so far are good.
use Rattle.std.proofs.Common.{ap, arith}
use mathlib.Core.Bool.{not}
use Rattle.shelf_read.proofs.Blocks.{testing_fails, testing_on, testing_ends}
use Rattle.shelf_read.proofs.blocks_good.Goals as goal

pub returns-then-not-good : goal.returns-then-not-good
returns-then-not-good c = testing_fails c.loop-i.invariant (omega arith) c.min-count.ensures c.good.ensures (ap not c.if-not-good.true)

pub loop-i-preserved : goal.loop-i-preserved
loop-i-preserved c = testing_on c.loop-i.invariant (omega arith) c.min-count.ensures c.good.ensures (ap not c.if-not-good.false)

pub returns : goal.returns
returns c = testing_ends c.loop-i.invariant (omega arith)
