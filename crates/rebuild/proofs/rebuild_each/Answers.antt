-- One node more.
use Rattle.std.proofs.Common.{arith, refl}
use Rattle.node.proofs.Told.{is_told}
use Rattle.rebuild.proofs.Nodes.{putting_starts, putting_on, putting_end}
use Rattle.rebuild.proofs.Running.{part_node_lem, part_room}
use Rattle.rebuild.proofs.rebuild_each.Goals as goal

pub loop-j-init : goal.loop-j-init
loop-j-init c = putting_starts _ _ _ _

pub raw_node-requires : goal.raw_node-requires
raw_node-requires c =
    let p = c.loop-j in
    part_room c.args.unitsize c.args.base c.args.first c.args.top _ _ p.j _ c.end_of-b.result c.requires p.invariant.from (omega (arith, c.loop-j-test.true)) refl c.end_of-b.ensures

pub loop-j-preserved : goal.loop-j-preserved
loop-j-preserved c =
    let p = c.loop-j in
    let a = c.args in
    putting_on _ _ _ _ p.level p.j p.invariant _ _ (omega (arith, c.loop-j-test.true))
    (part_node_lem a.unitsize a.part.now a.base a.top p.j _ c.end_of-b.result _ (omega (arith, c.requires.from, p.invariant.from)) (omega (arith, c.loop-j-test.true)) refl c.end_of-b.ensures (is_told _ _ c.raw_node.ensures))
    c.put_node.ensures

pub returns : goal.returns
returns c = putting_end _ _ _ _ c.loop-j.level c.loop-j.j c.loop-j.invariant (omega (arith, c.loop-j-test.false))
