-- The bytes, then the levels above them.
use Rattle.node.specs.Memory.{level_of}
use Rattle.shelf_read.proofs.Taken.{stored_taken}
use Rattle.shelf_read.proofs.take_samples.Goals as goal

pub returns : goal.returns
returns c =
    let a = c.args in
    stored_taken a.c.unitsize a.c.len a.file.now a.samples.now _ (level_of a.l1.now a.l2.now a.l3.now a.l4.now) _ c.gather.ensures c.rebuild_levels.ensures
