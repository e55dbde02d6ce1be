-- The bytes so far stand, and the rest of the number would follow.
use Rattle.std.proofs.Common.{length, arith}
use Rattle.shelf_block.proofs.Numbers.{writing_starts, writing_on, writing_ends}
use Rattle.shelf_block.proofs.put_number.Goals as goal

pub loop-byte-init : goal.loop-byte-init
loop-byte-init c = writing_starts (length c.args.part.now) c.args.value c.args.part.now

pub loop-byte-preserved : goal.loop-byte-preserved
loop-byte-preserved c = writing_on c.loop-byte.invariant (omega arith) (omega arith)

pub returns : goal.returns
returns c = writing_ends c.loop-byte.invariant (omega arith) (omega arith)
