use Rattle.shelf_stretches.proofs.Blocks.{Loop}
use Rattle.shelf_stretches.proofs.survey.Given as goal

abbrev pub invariant-loop-i : goal.invariant-loop-i
invariant-loop-i l = Loop l.blocks.file.now l.fn.list l.i l.run l.list
