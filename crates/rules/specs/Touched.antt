-- The nodes that an append touches, by the samples and by what each of them was.
-- 01, Store: "Each node touched is made anew from the level below, partial last nodes included." Where a node was right, this makes it the node of its range.
-- 02, CR 2, of an unfinished node of the first level, here of every level: "Keep that node as the running value and join the new samples to it."
use Rattle.std.specs.Prelude.{cond, ℕ, ◌+◌, ◌-◌, ◌/◌, ltb}
use Rattle.rules.specs.Node.{Node, join, node_of, span, node_start, node_end, level_node}

-- how many nodes of level l cover one of the places len to top; the first of them is len / span l
abbrev pub touched : ℕ → ℕ → ℕ → ℕ
touched len top l = top / span l + 1 - len / span l

-- node j of level l once samples stand at the places len to end, end not among them; `kept` is what the level held.
-- One that begins before len is unfinished, and the new samples in its range join it; any other is the node of its range
unfoldable pub running_node : (ℕ → ℕ) → (ℕ → Node) → ℕ → ℕ → ℕ → ℕ → Node
running_node s kept len end l j = cond (ltb (node_start l j) len) (join (kept j) (node_of s len (node_end end l j))) (level_node s end l j)
