-- The first row that holds, or the record: what the rows so far say.
use Rattle.std.proofs.Common.{ap, inl, inr, arith}
use Rattle.std.proofs.lemmas.Result.{err_from_is_err_and}
use Rattle.rules.specs.Refusal.{Store}
use Rattle.capture.specs.Record.{lent_in}
use Rattle.feeder.specs.Record.{armed_as}
use Rattle.feeder.proofs.Begun.{start_stops, workable, no_room, accepted}
use Rattle.feeder.proofs.start.Goals as goal
use Rattle.feeder.proofs.start.Goals.{then-capacity-pre-via-then-capacity-pre, then-capacity-pre-via-else-capacity-pre+then-ring-pre}

pub returns-in_err-check_settings : goal.returns-in_err-check_settings
returns-in_err-check_settings c =
    let p = err_from_is_err_and c.from_residual.result c.from_residual.ensures.1 in
    let a = c.args in
    rw (p.1, p.2) (start_stops a.channels a.capacity a.limit a.terms a.wish a.rate (lent_in a.memory) _ c.empty-capture.ensures c.in_err-check_settings.field-0.0 c.in_err-check_settings.ensures)

pub samples-kept-requires : goal.samples-kept-requires
samples-kept-requires c =
    let a = c.args in
    workable a.channels a.capacity a.limit a.terms a.wish a.rate (lent_in a.memory) 0 c.empty-capture.ensures c.in_ok-check_settings.ensures

pub returns-then-capacity-pre : goal.returns-then-capacity-pre
returns-then-capacity-pre c =
    let a = c.args in
    let capacity = ap (λ (s : Store). s.capacity) c.empty-capture.ensures in
    no_room a.channels a.capacity a.limit a.terms a.wish a.rate (lent_in a.memory) _ c.empty-capture.ensures c.in_ok-check_settings.ensures c.samples-kept.ensures
    (elim c.then-capacity-pre.branch [
      | then-capacity-pre-via-then-capacity-pre w ↦ inl (omega arith)
      | then-capacity-pre-via-else-capacity-pre+then-ring-pre w ↦ inr w.if-ring-pre.true
    ])

pub returns : goal.returns
returns c =
    let a = c.args in
    let capacity = ap (λ (s : Store). s.capacity) c.empty-capture.ensures in
    accepted a.channels a.capacity a.limit a.terms a.wish a.rate (lent_in a.memory) _ c.empty-capture.ensures c.in_ok-check_settings.ensures c.samples-kept.ensures
    (omega arith) c.if-ring-pre.false (armed_as c.armed_by.result) c.armed_by.ensures
