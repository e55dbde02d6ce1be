-- The stretches up to number i lie in order, and the others decide.
use Rattle.stretches.proofs.Listed.{Going}
use Rattle.stretches.proofs.wrong.Given as goal

abbrev pub invariant-loop-i : goal.invariant-loop-i
invariant-loop-i l = Going l.len l.list l.least l.i
