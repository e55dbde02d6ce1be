-- `node::Node::join_lines` meets its contract: its lines are the join's. Assumes nothing.
use mathlib.Core.Path.{refl}
use mathlib.Core.Bool.{false≢true}
use Rattle.node.proofs.Node.join_lines.Statement.{statement}
use Rattle.node.proofs.Node.join_lines.Tie as tie

returns : tie.Need-returns
returns c = record { lines = refl; count = λ z. absurd (false≢true z) }

pub join_lines_spec : {M : Type 1} → statement M
join_lines_spec = tie.close (tie.spec returns)
