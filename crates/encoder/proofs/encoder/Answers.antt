-- The row that refuses, or the hops.
use Rattle.std.proofs.lemmas.Result.{err_from_is_err_and}
use Rattle.encoder.proofs.Rows.{encoder_stops, encoder_goes}
use Rattle.encoder.proofs.encoder.Goals as goal

pub returns-in_err-replay : goal.returns-in_err-replay
returns-in_err-replay c =
    let a = c.args in
    let p = err_from_is_err_and c.from_residual.result c.from_residual.ensures.1 in
    rw (p.1, p.2) (encoder_stops a.c a.memory a.a a.b c.in_err-replay.field-0.0 c.in_err-replay.ensures)

pub returns : goal.returns
returns c = let a = c.args in encoder_goes a.c a.memory a.a a.b c.in_ok-replay.ensures _ c.turns_in.ensures
