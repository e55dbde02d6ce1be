-- What its samples leave is what a push of these bytes leaves.
use Rattle.std.proofs.Common.{refl, subst, length, arith}
use Rattle.node.specs.Memory.{level_of}
use Rattle.node.specs.declared.Memory.{Memory}
use Rattle.capture.specs.Record.{lent_of, lent_in}
use Rattle.feeder_wait.specs.Wait.{Waiting}
use Rattle.feeder_wait.proofs.Short.{short_is}
use Rattle.feeder_wait.proofs.wait_short.Goals as goal

pub returns : goal.returns
returns c =
    let a = c.args in
    let n = c.count_in.ensures in
    short_is a.numbers.now (lent_of a.samples.now (level_of a.l1.now a.l2.now a.l3.now a.l4.now)) a.ring.now a.bytes.now (subst (λ (m : Memory). Waiting a.numbers.now (lent_in m) (length a.ring.now)) c.lent-memory.ensures (c.waits.ensures c.if-not-waits.false)) (omega arith)
    _ refl refl n.is (omega (arith, n.least)) (omega (arith, n.most)) _ _ c.wait_few.result c.wait_few.ensures
