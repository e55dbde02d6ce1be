-- One node more, and the end.
use Rattle.std.proofs.Common.{arith}
use Rattle.node.specs.Memory.{as_node, node_in}
use Rattle.range.proofs.Joins.{joining_starts, joining_on, joining_end, join_one}
use Rattle.range.proofs.lines_rest.Goals as goal

pub loop-i-init : goal.loop-i-init
loop-i-init c = joining_starts _ _ _ _ _ c.requires.0

pub loop-i-preserved : goal.loop-i-preserved
loop-i-preserved c =
    let p = c.loop-i in
    joining_on _ _ _ _ _ (as_node p.acc) p.i p.invariant 1 _ (omega (arith, c.loop-i-test.true)) (join_one _ (as_node p.acc) (node_in c.args.below.now) p.i _ _ c.node_in.ensures c.join_lines-acc.ensures)

pub returns : goal.returns
returns c = joining_end _ _ _ _ _ (as_node c.loop-i.acc) c.loop-i.i c.loop-i.invariant c.loop-i-test.false
