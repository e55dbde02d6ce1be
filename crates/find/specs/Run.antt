-- Runs of nodes in which the masked lines stand still. A sample is a node too, so that level 0 is a level as the others are.
use Rattle.std.specs.Prelude.{◌≡◌, Bool, true, false, cond, List, ℕ, zero, suc, ◌+◌, ◌-◌, ◌*◌, ◌≤◌, ◌<◌, eqb, length}
use Rattle.rules.specs.Sample.{sample_of}
use Rattle.rules.specs.Node.{Node, leaf, mirror, quiet}
use Rattle.rules.specs.Refusal.{node_size}
use Rattle.lines.specs.Held.{Held}
use Rattle.node.specs.Memory.{node_in}

-- node i of a level's list; of level 0, sample i of the part
unfoldable pub node_at : ℕ → List ℕ → List ℕ → ℕ → ℕ → Node
node_at unit part level l i = cond (eqb l 0) (leaf (sample_of unit part i)) (node_in level i)

-- the number of the node after k others from number `from` on, and from there down
abbrev pub nth_number : Bool → ℕ → ℕ → ℕ
nth_number true from k = from - (k + 1)
nth_number false from k = from + k

-- that node, its near end as first
abbrev pub nth_node : Bool → (ℕ → Node) → ℕ → ℕ → Node
nth_node true nodes from k = mirror (nodes (nth_number true from k))
nth_node false nodes from k = nodes (nth_number false from k)

-- what node_at asks of memory
pub record NodeHeld (unit : ℕ) (part level : List ℕ) (l i : ℕ) : Type 0 where
  pub sample : l ≡ 0 → Held unit i (length part)
  pub node : (l ≡ 0 → ⊥) → i * node_size + node_size ≤ length level

-- what nth_node asks, and what n of them ask
pub record NthHeld (unit : ℕ) (part level : List ℕ) (l : ℕ) (back : Bool) (from k : ℕ) : Type 0 where
  pub behind : back ≡ true → k < from
  pub ahead : back ≡ false → from + k < 18446744073709551616
  pub held : NodeHeld unit part level l (nth_number back from k)

pub record RunHeld (unit : ℕ) (part level : List ℕ) (l : ℕ) (back : Bool) (from n : ℕ) : Type 0 where
  pub each : (k : ℕ) → k < n → NthHeld unit part level l back from k

-- the value before node k, of a run before which v stands
abbrev pub carried : ℕ → (ℕ → Node) → ℕ → ℕ
carried v nodes zero = v
carried v nodes (suc k) = (nodes k).last

-- the first k nodes are quiet, each against the value before it, and u stands after them
pub record Quiets (nodes : ℕ → Node) (mask v k u : ℕ) : Type 0 where
  pub each : (j : ℕ) → j < k → quiet (nodes j) (carried v nodes j) mask ≡ true
  pub carries : u ≡ carried v nodes k

-- of n nodes the first k are, and the next one, if there is one, is not
pub record Run (nodes : ℕ → Node) (mask v n k u : ℕ) : Type 0 where
  pub most : k ≤ n
  pub quiets : Quiets nodes mask v k u
  pub stops : k < n → quiet (nodes k) u mask ≡ false
