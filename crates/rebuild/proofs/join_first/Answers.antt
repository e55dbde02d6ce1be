-- The new samples in its range join the node of place len.
use Rattle.node.proofs.Told.{is_told}
use Rattle.rebuild.proofs.Running.{join_room, first_joins}
use Rattle.rebuild.proofs.join_first.Goals as goal

pub raw_node-n-requires : goal.raw_node-n-requires
raw_node-n-requires c = let a = c.args in join_room a.unitsize a.base a.len a.top _ _ c.end_of-b.result c.requires c.end_of-b.ensures

pub returns : goal.returns
returns c =
    let a = c.args in
    first_joins a.unitsize a.part.now a.level.now _ a.base a.len a.top c.end_of-b.result _ c.requires.from c.requires.some c.end_of-b.ensures
    (is_told _ _ c.raw_node-n.ensures) c.put_running.ensures
