-- The samples, then the levels above them.
use Rattle.rules.specs.Salvage.{salvaged_bytes}
use Rattle.node.specs.Memory.{level_of}
use Rattle.shelf_read.proofs.Taken.{stored_front}
use Rattle.shelf_salvage.proofs.fill_store.Goals as goal

pub returns : goal.returns
returns c =
    let a = c.args in
    stored_front a.c.unitsize a.c.len (salvaged_bytes a.file.now) a.samples.now _ (level_of a.l1.now a.l2.now a.l3.now a.l4.now) _ c.fill_samples.ensures c.rebuild_levels.ensures
