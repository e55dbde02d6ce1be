-- The blocks so far stand, and the rest would follow.
use Rattle.std.proofs.Common.{arith}
use Rattle.shelf_write.proofs.Blocks.{putting_on, putting_ends}
use Rattle.shelf_write.proofs.put_blocks.Goals as goal

pub loop-i-preserved : goal.loop-i-preserved
loop-i-preserved c = putting_on c.loop-i.invariant (omega arith) _ c.min-end.result c.min-end.ensures c.put_block.ensures

pub returns : goal.returns
returns c = putting_ends c.loop-i.invariant (omega arith)
