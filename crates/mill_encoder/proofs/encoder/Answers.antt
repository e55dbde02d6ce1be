-- The service's rows, then the grant, or the hops.
use Rattle.std.proofs.Common.{ap, ◌∙◌}
use Rattle.std.proofs.lemmas.Result.{err_from_is_err_and}
use Rattle.rules.specs.Mill.{beyond}
use Rattle.mill_encoder.proofs.Rows.{service_stops, grant_stops, grant_goes}
use Rattle.mill_encoder.proofs.encoder.Goals as goal

pub returns-in_err-replay : goal.returns-in_err-replay
returns-in_err-replay c =
    let a = c.args in
    let p = err_from_is_err_and c.from_residual.result c.from_residual.ensures.1 in
    rw (p.1, p.2) (service_stops a.c a.memory a.grant a.a a.b c.in_err-replay.field-0.0 c.in_err-replay.ensures)

pub returns-then-beyond : goal.returns-then-beyond
returns-then-beyond c =
    let a = c.args in
    grant_stops a.c a.memory a.grant a.a a.b c.in_ok-replay.ensures (c.if-beyond.ensures ∙ ap (beyond a.grant) c.mask.ensures)

pub returns : goal.returns
returns c =
    let a = c.args in
    grant_goes a.c a.memory a.grant a.a a.b c.in_ok-replay.ensures (c.if-beyond.ensures ∙ ap (beyond a.grant) c.mask.ensures) _ c.turns_in.ensures
