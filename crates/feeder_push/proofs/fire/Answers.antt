-- The run's counts, and the recorder that has fired.
use Rattle.node.specs.Memory.{level_of}
use Rattle.feeder_push.proofs.Fires.{fire_done}
use Rattle.feeder_push.proofs.fire.Goals as goal

pub returns : goal.returns
returns c =
    let a = c.args in
    fire_done a.f a.pushed.now a.samples.now (level_of a.l1.now a.l2.now a.l3.now a.l4.now) a.ring.now a.i c.min-before.ensures c.min-w.ensures
    (level_of c.store_run-taken.new.l1 c.store_run-taken.new.l2 c.store_run-taken.new.l3 c.store_run-taken.new.l4)
    c.store_run-taken.ensures c.fired_by.ensures c.at.ensures c.answer.ensures
