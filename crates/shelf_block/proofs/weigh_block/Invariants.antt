use Rattle.shelf_block.proofs.Weighed.{Weighing}
use Rattle.shelf_block.proofs.weigh_block.Given as goal

abbrev pub invariant-loop-i : goal.invariant-loop-i
invariant-loop-i l = Weighing l.block l.sum l.i
