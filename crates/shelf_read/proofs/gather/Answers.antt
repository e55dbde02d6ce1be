-- The payloads of the blocks so far are copied.
use Rattle.std.proofs.Common.{refl, arith}
use Rattle.shelf_read.proofs.Blocks.{gathering_on}
use Rattle.shelf_read.proofs.gather.Goals as goal

pub loop-i-preserved : goal.loop-i-preserved
loop-i-preserved c = gathering_on c.loop-i.invariant (omega arith) c.requires.0.size c.requires.1 c.min.ensures refl c.copy_at.ensures
