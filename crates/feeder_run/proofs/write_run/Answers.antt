-- The three parts of the run, each as long as its samples.
use Rattle.std.proofs.Common.{length}
use Rattle.node.specs.Memory.{level_of}
use Rattle.feeder_run.proofs.Cuts.{parts_room}
use Rattle.feeder_run.proofs.write_run.Goals as goal

pub append_parts-requires : goal.append_parts-requires
append_parts-requires c =
    let a = c.args in
    parts_room a.capture.now.unitsize a.capture.now.len a.run.now a.d (length a.samples.now) (level_of a.l1.now a.l2.now a.l3.now a.l4.now) a.ring.now a.bytes.now c.requires
    c.part.ensures c.part-2.ensures c.part-3.ensures
