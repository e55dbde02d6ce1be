-- Each way through a push is a case of the definition.
use Rattle.std.proofs.Common.{refl, arith}
use Rattle.std.proofs.lemmas.Result.{err_from_is_err_and}
use Rattle.node.specs.Memory.{level_of}
use Rattle.feeder_push.proofs.Answered.{rows_of, pushed_refused, run_room, ring_room, pushed_unarmed, pushed_fired, pushed_waited}
use Rattle.feeder_push.proofs.push.Goals as goal

pub returns-in_err-check : goal.returns-in_err-check
returns-in_err-check c =
    let p = err_from_is_err_and c.from_residual.result c.from_residual.ensures.1 in
    let a = c.args in
    let seen = rows_of a.f a.ring.now c.in_err-check.ensures c.lent.ensures in
    rw (p.1, p.2) (pushed_refused a.f a.samples.now (level_of a.l1.now a.l2.now a.l3.now a.l4.now) a.ring.now a.bytes.now c.in_err-check.field-0.0 seen)

pub store_run-taken-requires : goal.store_run-taken-requires
store_run-taken-requires c =
    let a = c.args in
    let seen = rows_of a.f a.ring.now c.in_ok-check.ensures c.lent.ensures in
    (run_room a.f a.samples.now (level_of a.l1.now a.l2.now a.l3.now a.l4.now) a.ring.now a.bytes.now seen _ refl, omega arith, omega arith)

pub returns-in_default : goal.returns-in_default
returns-in_default c =
    let a = c.args in
    let seen = rows_of a.f a.ring.now c.in_ok-check.ensures c.lent.ensures in
    pushed_unarmed a.f a.samples.now (level_of a.l1.now a.l2.now a.l3.now a.l4.now) a.ring.now a.bytes.now seen c.in_default.is
    (level_of c.store_run-taken.new.l1 c.store_run-taken.new.l2 c.store_run-taken.new.l3 c.store_run-taken.new.l4) c.store_run-taken.ensures c.answer.ensures

pub fire-requires : goal.fire-requires
fire-requires c =
    let a = c.args in
    let seen = rows_of a.f a.ring.now c.in_ok-check.ensures c.lent.ensures in
    (run_room a.f a.samples.now (level_of a.l1.now a.l2.now a.l3.now a.l4.now) a.ring.now a.bytes.now seen _ refl, c.if-i-pushed.true)

pub returns-then-i-pushed : goal.returns-then-i-pushed
returns-then-i-pushed c =
    let a = c.args in
    let seen = rows_of a.f a.ring.now c.in_ok-check.ensures c.lent.ensures in
    pushed_fired a.f a.samples.now (level_of a.l1.now a.l2.now a.l3.now a.l4.now) a.ring.now a.bytes.now seen c.in-Some.is c.first_fire-i.ensures c.if-i-pushed.true
    (level_of c.fire.new.l1 c.fire.new.l2 c.fire.new.l3 c.fire.new.l4) c.fire.ensures

pub wait-requires : goal.wait-requires
wait-requires c =
    let a = c.args in
    let seen = rows_of a.f a.ring.now c.in_ok-check.ensures c.lent.ensures in
    ring_room a.f a.samples.now (level_of a.l1.now a.l2.now a.l3.now a.l4.now) a.ring.now a.bytes.now seen

pub returns : goal.returns
returns c =
    let a = c.args in
    let seen = rows_of a.f a.ring.now c.in_ok-check.ensures c.lent.ensures in
    pushed_waited a.f a.samples.now (level_of a.l1.now a.l2.now a.l3.now a.l4.now) a.ring.now a.bytes.now seen c.in-Some.is c.first_fire-i.ensures c.if-i-pushed.false c.wait.ensures.recorder_is c.wait.ensures.ring_is
