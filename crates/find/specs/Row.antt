-- The nodes of one level as the code has them, and what it asks of memory to read them.
use Rattle.std.specs.Prelude.{Bool, ℕ}
use Rattle.rules.specs.Node.{Node}
use Rattle.find.specs.Run.{node_at, NodeHeld, NthHeld, RunHeld}
use Rattle.find.specs.declared.Row.{Row}

abbrev pub row_node : Row → ℕ → Node
row_node r = node_at r.unitsize r.samples.now r.level.now r.l

abbrev pub NodeIn : Row → ℕ → Type 0
NodeIn r = NodeHeld r.unitsize r.samples.now r.level.now r.l

abbrev pub NthIn : Row → Bool → ℕ → ℕ → Type 0
NthIn r = NthHeld r.unitsize r.samples.now r.level.now r.l

abbrev pub RunIn : Row → Bool → ℕ → ℕ → Type 0
RunIn r = RunHeld r.unitsize r.samples.now r.level.now r.l
