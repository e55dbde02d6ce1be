-- One node more.
use Rattle.std.proofs.Common.{arith, refl}
use Rattle.node.specs.Memory.{node_in}
use Rattle.range.proofs.Joins.{made_at}
use Rattle.rebuild.proofs.Nodes.{putting_starts, putting_on, putting_end}
use Rattle.rebuild.proofs.rebuild_level.Goals as goal

pub loop-j-init : goal.loop-j-init
loop-j-init c = putting_starts _ _ _ _

pub loop-j-preserved : goal.loop-j-preserved
loop-j-preserved c =
    let p = c.loop-j in
    let a = c.args in
    putting_on _ _ _ _ p.level p.j p.invariant _ _ (omega (arith, c.loop-j-test.true))
    (made_at (node_in a.below.now) a.top p.j _ c.end_of-b.result _ (omega (arith, c.loop-j-test.true)) refl c.end_of-b.ensures c.join_nodes.ensures)
    c.put_node.ensures

pub returns : goal.returns
returns c = putting_end _ _ _ _ c.loop-j.level c.loop-j.j c.loop-j.invariant (omega (arith, c.loop-j-test.false))
