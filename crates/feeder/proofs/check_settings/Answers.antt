-- Row 1 or 2 comes before the others.
use Rattle.std.proofs.lemmas.Result.{err_from_is_err_and}
use Rattle.capture.specs.Record.{store_of, lent_in}
use Rattle.feeder.specs.Record.{wish_of}
use Rattle.feeder.proofs.Begun.{settings_shut}
use Rattle.feeder.proofs.check_settings.Goals as goal

pub returns-in_err-check : goal.returns-in_err-check
returns-in_err-check c =
    let p = err_from_is_err_and c.from_residual.result c.from_residual.ensures.1 in
    let a = c.args in
    rw (p.1, p.2) (settings_shut (store_of a.capture.now) (lent_in a.memory.now) a.limit a.wrong (wish_of a.wish) a.rate c.in_err-check.field-0.0 c.in_err-check.ensures)
