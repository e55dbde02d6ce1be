-- Node by node.
use Rattle.std.proofs.Common.{false}
use Rattle.node.specs.Memory.{as_node, node_in}
use Rattle.range.proofs.Joins.{join_one, join_next}
use Rattle.range.proofs.lines_four.Goals as goal

pub returns : goal.returns
returns c =
    let n = as_node c.args.n in
    let nodes = node_in c.args.below.now in
    let i = c.args.i in
    let r1 = join_one false n nodes i _ _ c.node_in.ensures c.join_lines-n1.ensures in
    let r2 = join_next false n nodes i 1 _ _ _ r1 c.node_in-2.ensures c.join_lines-n2.ensures in
    let r3 = join_next false n nodes i 2 _ _ _ r2 c.node_in-3.ensures c.join_lines-n3.ensures in
    join_next false n nodes i 3 _ _ _ r3 c.node_in-4.ensures c.join_lines.ensures
