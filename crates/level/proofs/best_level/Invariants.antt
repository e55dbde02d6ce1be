-- The level that the loop has come to fits.
use Rattle.level.proofs.Best.{Fits}
use Rattle.level.proofs.best_level.Given as goal

abbrev pub invariant-loop-l : goal.invariant-loop-l
invariant-loop-l l = Fits l.pos l.room l.l
