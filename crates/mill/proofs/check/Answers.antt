-- Row 1 or 2 refuses, whatever 12 and 13 say.
use Rattle.std.proofs.lemmas.Result.{err_from_is_err_and}
use Rattle.capture.specs.Record.{store_of}
use Rattle.capture.proofs.Opened.{rows_shut}
use Rattle.mill.specs.Reader.{mill_rows}
use Rattle.mill.proofs.check.Goals as goal

pub returns-in_err-stored : goal.returns-in_err-stored
returns-in_err-stored c =
    let p = err_from_is_err_and c.from_residual.result c.from_residual.ensures.1 in
    rw (p.1, p.2) (rows_shut c.args.c c.args.memory c.in_err-stored.field-0.0 c.in_err-stored.ensures (mill_rows (store_of c.args.c) c.args.outside c.args.p c.args.q))
