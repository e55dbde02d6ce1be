-- So many jumps are made, and so many nodes read for them.
use Rattle.burst.specs.Answer.{back_of, fore_of, reach_of, further_of}
use Rattle.burst.proofs.Jumps.{Jumping}
use Rattle.burst.proofs.changes.Changes.end.Given as goal

abbrev pub invariant-loop-jumps : goal.invariant-loop-jumps
invariant-loop-jumps l = Jumping (reach_of (back_of l.self) (fore_of l.self) l.self.gap l.start) (further_of l.start) l.budget l.from l.place l.jumps l.read
