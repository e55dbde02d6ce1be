-- What is known of the first k places.
use Rattle.std.proofs.Common.{◌+◌, ◌≤◌}
use Rattle.rules.specs.Sample.{sample_of}
use Rattle.rules.specs.Encoder.{turns_of}
use Rattle.encoder_scan.specs.Scan.{Stepped}
use Rattle.encoder_scan.proofs.scan_in.Given as goal

abbrev pub invariant-loop-k : goal.invariant-loop-k
invariant-loop-k g l =
    let v = g.L.Lane.value in
    (v l.moved + v l.skipped ≤ l.k) × (v l.back ≤ v l.moved) × Stepped (turns_of (sample_of g.L.Lane.size l.samples) l.a l.b l.p l.k) (v l.moved) (v l.back) (v l.skipped)
