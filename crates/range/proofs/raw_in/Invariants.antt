-- Toggles so far are those of the samples before i.
use Rattle.std.proofs.Common.{◌≡◌, ◌-◌}
use Rattle.rules.specs.Sample.{sample_of}
use Rattle.range.proofs.Apart.{apart}
use Rattle.range.proofs.raw_in.Given as goal

abbrev pub invariant-loop-i : goal.invariant-loop-i
invariant-loop-i g l = let m = g.L.Lane in m.value l.mask ≡ apart (sample_of m.size l.part) l.a (l.i - l.a)
