-- What is known so far is that of the samples before i.
use Rattle.rules.specs.Sample.{sample_of}
use Rattle.range.proofs.Scan.{Scanned}
use Rattle.range.proofs.raw_count.Given as goal

abbrev pub invariant-loop-i : goal.invariant-loop-i
invariant-loop-i l = Scanned (sample_of l.unitsize l.part) l.a l.b l.last l.count l.i
