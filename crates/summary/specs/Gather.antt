-- A range taken part by part: the parts' nodes, joined.
use Rattle.std.specs.Prelude.{cond, ℕ, zero, suc, ◌-◌, ltb, Option, None, Some}
use Rattle.rules.specs.Node.{Node, join}

-- the parts of [p, b), at most `fuel` of them, joined to acc: `node p b` is the first part's node, `past p b` where it ends
unfoldable pub gather : (ℕ → ℕ → Node) → (ℕ → ℕ → ℕ) → ℕ → Node → ℕ → ℕ → Node
gather node past zero acc p b = acc
gather node past (suc fuel) acc p b = cond (ltb p b) (gather node past fuel (join acc (node p b)) (past p b) b) acc

-- what is gathered and the next part's node: the first one is the start
abbrev pub gathered : Option Node → Node → Node
gathered None n = n
gathered (Some acc) n = join acc n

-- the parts of [a, b), a < b, each of which has a place
unfoldable pub joined : (ℕ → ℕ → Node) → (ℕ → ℕ → ℕ) → ℕ → ℕ → Node
joined node past a b = gather node past (b - a) (node a b) (past a b) b
