use Rattle.shelf_read.proofs.Blocks.{Testing}
use Rattle.shelf_read.proofs.blocks_good.Given as goal

abbrev pub invariant-loop-i : goal.invariant-loop-i
invariant-loop-i l = Testing l.n l.blocks l.i
