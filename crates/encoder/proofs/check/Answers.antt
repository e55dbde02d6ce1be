-- Row 1 or 2 comes before row 14.
use Rattle.std.proofs.Common.{[], ◌∷◌}
use Rattle.std.proofs.lemmas.Result.{err_from_is_err_and}
use Rattle.rules.specs.Refusal.{top_line}
use Rattle.rules.specs.Encoder.{pair_row}
use Rattle.capture.proofs.Opened.{rows_shut}
use Rattle.encoder.proofs.check.Goals as goal

pub returns-in_err-stored : goal.returns-in_err-stored
returns-in_err-stored c =
    let a = c.args in
    let p = err_from_is_err_and c.from_residual.result c.from_residual.ensures.1 in
    rw (p.1, p.2) (rows_shut a.c a.memory c.in_err-stored.field-0.0 c.in_err-stored.ensures (pair_row top_line a.a a.b ∷ []))
