-- Whole: "yes or the first wrong node (level and number) of those that cover stored samples, lowest level first". 01: Other calls.
use Rattle.std.specs.Prelude.{Bool, not, ◌&&◌, ℕ, zero, suc, ◌+◌, eqb}
use Rattle.std.specs.Prelude.{Option, None, Some}
use Rattle.rules.specs.Node.{Node, nodes_for, level_node, top_level}
use Rattle.rules.specs.Search.{seek, higher}

abbrev pub same_node : Node → Node → Bool
same_node m n = eqb m.first n.first && (eqb m.last n.last && (eqb m.toggles n.toggles && eqb m.count n.count))

-- a node's level and number
pub record NodeAt : Type 0 where
  pub level : ℕ
  pub number : ℕ

-- level l's find, else the rest's
abbrev pub or_above : ℕ → Option ℕ → Option NodeAt → Option NodeAt
or_above l (Some j) rest = Some (record { level = l; number = j })
or_above l None rest = rest

-- `held l j` is what memory holds for node j of level l
module _ (s : ℕ → ℕ) (len : ℕ) (held : ℕ → ℕ → Node) where
  -- "A node is wrong when it isn't the node of its range"
  abbrev pub wrong_at : ℕ → ℕ → Bool
  wrong_at l j = not (same_node (held l j) (level_node s len l j))

  -- the first wrong node of n levels from level l on
  unfoldable pub first_wrong : ℕ → ℕ → Option NodeAt
  first_wrong l zero = None
  first_wrong l (suc n) = or_above l (seek higher (wrong_at l) 0 (nodes_for len l)) (first_wrong (l + 1) n)

  -- none is yes
  abbrev pub whole_answer : Option NodeAt
  whole_answer = first_wrong 1 top_level
