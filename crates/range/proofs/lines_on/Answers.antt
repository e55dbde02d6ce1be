-- Four nodes more, and the end.
use Rattle.std.proofs.Common.{arith}
use Rattle.node.specs.Memory.{as_node}
use Rattle.node.proofs.Told.{told_trans}
use Rattle.range.proofs.Joins.{joining_starts, joining_on}
use Rattle.range.proofs.lines_on.Goals as goal

pub loop-i-init : goal.loop-i-init
loop-i-init c = joining_starts _ _ _ _ _ c.requires.0

pub loop-i-preserved : goal.loop-i-preserved
loop-i-preserved c = joining_on _ _ _ _ _ (as_node c.loop-i.acc) c.loop-i.i c.loop-i.invariant 4 _ (omega (arith, c.loop-i-test.true)) c.lines_four-acc.ensures

pub returns : goal.returns
returns c = told_trans _ _ _ _ c.lines_rest.ensures c.loop-i.invariant.same
