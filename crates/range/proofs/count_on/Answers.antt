-- One node more, and the end.
use Rattle.std.proofs.Common.{◌∙◌, rules}
use Rattle.node.specs.Memory.{as_node}
use Rattle.range.proofs.Joins.{counting_starts, counting_on, counting_ends}
use Rattle.range.proofs.count_on.Goals as goal

pub loop-i-init : goal.loop-i-init
loop-i-init c = counting_starts _ _ _ _ c.requires.0 (search rules)

pub loop-i-preserved : goal.loop-i-preserved
loop-i-preserved c =
    counting_on _ _ _ _ c.loop-i.sum _ c.loop-i.i (as_node c.node_in-m.result) _ c.loop-i.invariant c.loop-i-test.true c.node_in-m.ensures c.changes_to-sum.ensures.0 c.changes_to-sum.ensures.1

pub returns : goal.returns
returns c = c.capped.ensures ∙ counting_ends _ _ _ _ c.loop-i.sum _ c.loop-i.i c.loop-i.invariant c.loop-i-test.false
