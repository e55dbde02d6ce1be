-- Row 8 first, then the run.
use Rattle.std.proofs.Common.{◌+◌, ◌-◌, ◌*◌, ◌++◌, drop, sym, ◌∙◌}
use borrow.Author.Tests.{ltb-true}
use Rattle.node.specs.Memory.{level_of}
use Rattle.rules.specs.Ring.{kept_bytes}
use Rattle.feeder_run.proofs.Taking.{takes_none, write_room, takes_some}
use Rattle.feeder_run.proofs.store_run.Goals as goal

pub returns-then-is_full : goal.returns-then-is_full
returns-then-is_full c =
    let a = c.args in
    let p = a.pushed.now in
    takes_none a.f.now (a.w + (p.n - a.d)) (kept_bytes a.f.now.capture.unitsize a.f.now.pre a.ring.now a.f.now.place a.w ++ drop (a.d * a.f.now.capture.unitsize) p.bytes.now)
    a.samples.now (level_of a.l1.now a.l2.now a.l3.now a.l4.now) (ltb-true _ _ (sym c.is_full.ensures ∙ c.if-is_full.true))

pub write_run-requires : goal.write_run-requires
write_run-requires c =
    let a = c.args in
    write_room a.f.now a.pushed.now a.samples.now (level_of a.l1.now a.l2.now a.l3.now a.l4.now) a.ring.now a.w a.d c.requires.0 c.requires.1 c.requires.2
    (sym c.is_full.ensures ∙ c.if-is_full.false) c.run_of-run.result c.run_of-run.ensures

pub returns : goal.returns
returns c =
    let a = c.args in
    takes_some a.f.now a.pushed.now a.samples.now (level_of a.l1.now a.l2.now a.l3.now a.l4.now) a.ring.now a.w a.d c.requires.0 c.requires.1 c.requires.2
    (sym c.is_full.ensures ∙ c.if-is_full.false) c.run_of-run.result c.run_of-run.ensures
    (level_of c.write_run.new.l1 c.write_run.new.l2 c.write_run.new.l3 c.write_run.new.l4) c.write_run.ensures
