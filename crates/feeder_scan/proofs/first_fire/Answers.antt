-- None of no samples fires; else the scan by three masks, at a unit that is known.
use Rattle.std.proofs.Common.{sym, ap, ◌∙◌, arith}
use Rattle.rules.specs.Sample.{sample_of}
use Rattle.rules.proofs.Sample.{unit_two}
use Rattle.feeder_scan.specs.Scan.{masks_for, sample_in, fire_from}
use Rattle.feeder_scan.proofs.Answer.{none_scanned, scanned}
use Rattle.feeder_scan.proofs.first_fire.Goals as goal

pub returns-then-n-eq0 : goal.returns-then-n-eq0
returns-then-n-eq0 c = none_scanned c.args.masks c.args.prev (sample_in c.args.samples.now) c.args.samples.now.n c.if-n-eq0.true

pub returns-then-unitsize-eq1 : goal.returns-then-unitsize-eq1
returns-then-unitsize-eq1 c =
    let a = c.args in
    scanned a.masks a.prev a.samples.now (omega arith) c.of-w.ensures c.at.ensures c.unwrap_or-p.ensures
    (c.fire_in_blocks.ensures ∙ ap (λ u. fire_from (masks_for c.of-w.result) (sample_of u a.samples.now.bytes.now) c.unwrap_or-p.result 0 a.samples.now.n) (sym c.if-unitsize-eq1.true))

pub returns-else-unitsize-eq1 : goal.returns-else-unitsize-eq1
returns-else-unitsize-eq1 c =
    let a = c.args in
    let two = unit_two a.samples.now.held.unit_size c.if-unitsize-eq1.false in
    scanned a.masks a.prev a.samples.now (omega arith) c.of-w.ensures c.at.ensures c.unwrap_or-p.ensures
    (c.fire_in_blocks-else-unitsize-eq1.ensures ∙ ap (λ u. fire_from (masks_for c.of-w.result) (sample_of u a.samples.now.bytes.now) c.unwrap_or-p.result 0 a.samples.now.n) (sym two))
