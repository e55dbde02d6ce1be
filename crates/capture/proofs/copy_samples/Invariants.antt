-- The first i numbers are samples.
use Rattle.std.proofs.Common.{◌≡◌}
use Rattle.rules.specs.Reading.{copied_to}
use Rattle.capture.specs.Stored.{sample_in}
use Rattle.capture.proofs.copy_samples.Given as goal

abbrev pub invariant-loop-i : goal.invariant-loop-i
invariant-loop-i l = l.output ≡ copied_to (sample_in l.stored) l.start l.i l.fn.output
