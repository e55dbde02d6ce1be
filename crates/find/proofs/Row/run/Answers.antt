-- The nodes lie in memory, and one more is quiet.
use Rattle.std.proofs.Common.{sym, ◌∙◌, arith}
use Rattle.node.specs.Memory.{as_node}
use Rattle.find.proofs.Node.{quiets_more}
use Rattle.find.proofs.Row.run.Goals as goal

pub nth-m-requires : goal.nth-m-requires
nth-m-requires c = c.requires.each c.loop-k.k (omega arith)

pub loop-k-preserved : goal.loop-k-preserved
loop-k-preserved c = quiets_more c.loop-k.invariant (as_node c.nth-m.result) c.nth-m.ensures (sym c.quiet.ensures ∙ c.if-not-quiet.false)
