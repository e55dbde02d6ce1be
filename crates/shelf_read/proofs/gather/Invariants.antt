use Rattle.shelf_read.proofs.Blocks.{Gathering}
use Rattle.shelf_read.proofs.gather.Given as goal

abbrev pub invariant-loop-i : goal.invariant-loop-i
invariant-loop-i l = Gathering l.n l.blocks l.fn.samples l.samples l.i
