-- Past all tests it is a recorder that waits.
use Rattle.std.proofs.Common.{sym, ◌∙◌}
use borrow.Author.Tests.{eqb-true}
use Rattle.capture.specs.Record.{lent_in}
use Rattle.feeder_wait.proofs.Bounds.{waiting_is}
use Rattle.feeder_wait.proofs.waits.Goals as goal

pub returns : goal.returns
returns c e =
    let a = c.args in
    waiting_is a.numbers.now (sym c.unit_wrong.ensures ∙ c.if-unit_wrong.false) c.if-capacity-gt-MOST_SAMPLES.false c.if-capacity-pre.false (lent_in a.memory.now) a.ring
    c.if-numbers-ne1.false (eqb-true _ 0 e) c.if-capacity-numbers.false c.if-pre-numbers.false (sym c.is_short.ensures ∙ c.if-is_short.false) c.if-ring-pre.false
