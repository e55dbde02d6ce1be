-- The first row that holds, or the file.
use Rattle.std.proofs.lemmas.Result.{err_from_is_err_and}
use Rattle.node.specs.Lent.{levels_of}
use Rattle.capture.specs.Record.{store_of}
use Rattle.shelf_write.proofs.Written.{writes_shut}
use Rattle.shelf_write.proofs.write.Goals as goal

pub returns-in_err-check : goal.returns-in_err-check
returns-in_err-check c =
    let p = err_from_is_err_and c.from_residual.result c.from_residual.ensures.1 in
    rw (p.1, p.2) (writes_shut (store_of c.args.c) c.args.memory.samples.now (levels_of c.args.memory.levels) c.args.output.now c.in_err-check.field-0.0 c.in_err-check.ensures)
