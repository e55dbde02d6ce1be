-- A node made from the level below it.
use Rattle.std.specs.Prelude.{List, ℕ, zero, suc, ◌+◌, ◌-◌, ◌*◌, ◌≤◌, ◌<◌, min}
use Rattle.rules.specs.Node.{Node, node_of, span, nodes_for, top_level}
use Rattle.node.specs.Memory.{node_in}
use Rattle.range.specs.Join.{made_over}

-- node j of level l from the 32 nodes of the level below, or those of them that cover stored samples; of level 1 from samples
unfoldable pub made_node : (ℕ → ℕ) → ℕ → (ℕ → List ℕ) → ℕ → ℕ → Node
made_node s len levels zero j = node_of s (j * 32) (min (j * 32 + 32) len)
made_node s len levels (suc zero) j = node_of s (j * 32) (min (j * 32 + 32) len)
made_node s len levels (suc (suc l)) j = made_over (node_in (levels (suc l))) (nodes_for len (suc l) - 1) j

-- node j of level l covers stored samples
pub record Numbered (len l j : ℕ) : Type 0 where
  pub low : 1 ≤ l
  pub high : l ≤ top_level
  pub covers : j * span l < len
