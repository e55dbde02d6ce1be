-- The first row that holds, or the samples copied.
use Rattle.std.proofs.Common.{arith}
use Rattle.std.proofs.lemmas.Result.{err_from_is_err_and}
use Rattle.capture.proofs.Opened.{copies_shut, copies_short, copies_all}
use Rattle.capture.proofs.samples.Goals as goal

pub returns-in_err-stored : goal.returns-in_err-stored
returns-in_err-stored c =
    let p = err_from_is_err_and c.from_residual.result c.from_residual.ensures.1 in
    rw (p.1, p.2) (copies_shut c.args.c c.args.memory c.in_err-stored.field-0.0 c.in_err-stored.ensures c.args.start c.args.count c.args.output.now)

pub returns-then-output-k : goal.returns-then-output-k
returns-then-output-k c = copies_short c.in_ok-stored.ensures c.args.start c.args.count c.args.output.now (omega (arith, c.count_copied-k.ensures, c.if-output-k.true))

pub returns : goal.returns
returns c = copies_all c.in_ok-stored.ensures c.args.start c.args.count c.args.output.now (omega (arith, c.count_copied-k.ensures, c.if-output-k.false)) _ c.count_copied-k.ensures _ c.copy_samples.ensures
