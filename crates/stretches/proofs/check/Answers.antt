-- Row 1 or 2 comes before row 18.
use Rattle.std.proofs.Common.{[], ◌∷◌}
use Rattle.std.proofs.lemmas.Result.{err_from_is_err_and}
use Rattle.rules.specs.Unknown.{list_row}
use Rattle.capture.proofs.Opened.{rows_shut}
use Rattle.stretches.proofs.check.Goals as goal

pub returns-in_err-stored : goal.returns-in_err-stored
returns-in_err-stored c =
    let a = c.args in
    let p = err_from_is_err_and c.from_residual.result c.from_residual.ensures.1 in
    rw (p.1, p.2) (rows_shut a.c a.memory c.in_err-stored.field-0.0 c.in_err-stored.ensures (list_row a.c.len a.list.now ∷ []))
