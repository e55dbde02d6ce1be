use Rattle.shelf_salvage.proofs.Blanking.{Blanks}
use Rattle.shelf_salvage.proofs.blank.Given as goal

abbrev pub invariant-loop-i : goal.invariant-loop-i
invariant-loop-i l = Blanks l.unit l.list l.fn.samples l.samples l.i
