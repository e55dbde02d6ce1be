-- Nodes of a level joined: total definitions, over any nodes.
use Rattle.std.specs.Prelude.{ℕ, zero, suc, ◌+◌, ◌-◌, ◌*◌, min}
use Rattle.rules.specs.Node.{Node, join}

-- the nodes numbered a to a + n, joined
unfoldable pub join_over : (ℕ → Node) → ℕ → ℕ → Node
join_over nodes a zero = nodes a
join_over nodes a (suc n) = join (join_over nodes a n) (nodes (a + suc n))

-- n, and the k nodes from number i on, joined to it one by one
unfoldable pub join_on : Node → (ℕ → Node) → ℕ → ℕ → Node
join_on n nodes i zero = n
join_on n nodes i (suc k) = join_on (join n (nodes i)) nodes (i + 1) k

-- node j of a level from its up to 32 nodes of the level below, of which `top` is the last
abbrev pub made_over : (ℕ → Node) → ℕ → ℕ → Node
made_over nodes top j = join_over nodes (j * 32) (min 31 (top - j * 32))
