-- Nodes put into the memory of a level once samples have joined the stored ones: total definitions, over any memory.
use Rattle.std.specs.Prelude.{◌≡◌, cond, List, ℕ, zero, suc, ◌+◌, ◌-◌, ◌/◌, eqb, ltb}
use Rattle.rules.specs.Node.{Node, join, node_of, span, node_start, node_end, level_node}
use Rattle.rules.specs.Touched.{touched, running_node}
use Rattle.node.specs.Memory.{node_in, put_node}

-- the level with n nodes from number j on as f has them
unfoldable pub put_nodes : (ℕ → Node) → List ℕ → ℕ → ℕ → List ℕ
put_nodes f level j zero = level
put_nodes f level j (suc n) = put_nodes f (put_node level j (f j)) (j + 1) n

-- level l once n samples have joined len, by what it held and the samples alone: each touched node runs on. No samples touch no node
abbrev pub level_after : (ℕ → ℕ) → List ℕ → ℕ → ℕ → ℕ → List ℕ
level_after s level len n l = cond (eqb n 0) level (put_nodes (running_node s (node_in level) len (len + n) l) level (len / span l) (touched len (len + n - 1) l))

-- ---- what the functions of this crate leave
-- level l with the node of place len once n is the node of the samples in its range from place len on: they join what it was, if it was unfinished
abbrev pub put_running : List ℕ → ℕ → ℕ → Node → List ℕ
put_running level l len n = put_node level (len / span l) (cond (ltb (node_start l (len / span l)) len) (join (node_in level (len / span l)) n) n)

-- level l with its nodes from number j on, up to the one of place top, made of their samples
abbrev pub new_nodes : (ℕ → ℕ) → List ℕ → ℕ → ℕ → ℕ → List ℕ
new_nodes s level j top l = put_nodes (level_node s (top + 1) l) level j (top / span l + 1 - j)

-- samples stand at the places len to top, and n is the node of those of them that lie in the node of place len of level l: of level l, which was `level`, that node is made
pub record NodeJoined (s : ℕ → ℕ) (len top l : ℕ) (level level' : List ℕ) (n : Node) : Type 0 where
  pub node_is : n ≡ node_of s len (node_end (top + 1) l (len / span l))
  pub level_is : level' ≡ put_running level l len n

-- and all of level l is
pub record Joined (s : ℕ → ℕ) (len top l : ℕ) (level level' : List ℕ) (n : Node) : Type 0 where
  pub node_is : n ≡ node_of s len (node_end (top + 1) l (len / span l))
  pub level_is : level' ≡ put_nodes (running_node s (node_in level) len (top + 1) l) level (len / span l) (touched len top l)

-- one level up: whatever samples have joined level l, and whatever that was before, they have joined the next level
abbrev pub JoinedAbove : ℕ → ℕ → ℕ → List ℕ → Node → List ℕ → List ℕ → Node → Type 0
JoinedAbove len top l below n level level' n' = (s : ℕ → ℕ) (was : List ℕ) → Joined s len top l was below n → Joined s len top (suc l) level level' n'
