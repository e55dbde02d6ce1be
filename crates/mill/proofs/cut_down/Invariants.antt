-- The first i numbers are cut.
use Rattle.std.proofs.Common.{◌≡◌}
use Rattle.mill.specs.Reader.{cut_first}
use Rattle.mill.proofs.cut_down.Given as goal

abbrev pub invariant-loop-i : goal.invariant-loop-i
invariant-loop-i l = l.output ≡ cut_first l.grant l.i l.fn.output
