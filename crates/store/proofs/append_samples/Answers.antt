-- The copy, then the nodes above it.
use Rattle.node.specs.Memory.{level_of}
use Rattle.store.proofs.Stored.{stored_first}
use Rattle.store.proofs.append_samples.Goals as goal

pub returns : goal.returns
returns c =
    let a = c.args in
    stored_first a.unitsize a.len a.n a.bytes.now a.samples.now (level_of a.l1.now a.l2.now a.l3.now a.l4.now) c.requires _ _ c.copy_at.ensures c.rebuild_levels.ensures
