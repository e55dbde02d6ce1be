use Rattle.shelf_write.proofs.Blocks.{Putting}
use Rattle.shelf_write.proofs.put_blocks.Given as goal

abbrev pub invariant-loop-i : goal.invariant-loop-i
invariant-loop-i l = Putting l.bytes l.blocks l.i
