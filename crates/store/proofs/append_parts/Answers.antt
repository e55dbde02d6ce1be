-- Three copies, then the nodes above them.
use Rattle.std.proofs.Common.{rules}
use Rattle.node.specs.Memory.{level_of}
use Rattle.store.proofs.Stored.{stored_parts}
use Rattle.store.proofs.append_parts.Goals as goal

pub rebuild_levels-requires : goal.rebuild_levels-requires
rebuild_levels-requires c = record { unit_size = c.requires.room.unit_size; fits = c.requires.room.fits; samples = search rules; nodes = c.requires.room.nodes }

pub returns : goal.returns
returns c =
    let a = c.args in
    stored_parts a.unitsize a.len a.n a.a.now a.b.now a.c.now a.samples.now (level_of a.l1.now a.l2.now a.l3.now a.l4.now) c.requires _ _ _ _
    c.copy_at.ensures c.copy_at-2.ensures c.copy_at-3.ensures c.rebuild_levels.ensures
