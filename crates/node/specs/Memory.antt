-- Nodes in level memory, and when all of them are right.
use Rattle.std.specs.Prelude.{◌≡◌, cond, List, ℕ, ◌+◌, ◌*◌, ◌/◌, ◌≤◌, ◌<◌, leb, eqb, get_or}
use Rattle.std.proofs.lemmas.List.Edits.{sets}
use Rattle.rules.specs.Sample.{sample_of}
use Rattle.rules.specs.Node.{half, numbers_of, leaf, span, top_level, level_node}
use Rattle.rules.specs.Node as rule
use Rattle.rules.specs.Refusal.{node_size}
use Rattle.node.specs.declared.Node.{Node}

-- the code's node as 01's
abbrev pub as_node : Node → rule.Node
as_node n = record { first = n.first; last = n.last; toggles = n.mask; count = n.count }

-- node j of a level's list
abbrev pub node_in : List ℕ → ℕ → rule.Node
node_in level j = record {
  first = get_or level (j * node_size) 0;
  last = get_or level (j * node_size + 1) 0;
  toggles = get_or level (j * node_size + 2) 0;
  count = get_or level (j * node_size + 3) 0 + half * get_or level (j * node_size + 4) 0;
}

-- the list with n as its node j
unfoldable pub put_node : List ℕ → ℕ → rule.Node → List ℕ
put_node level j n = sets level (j * node_size) (numbers_of n)

-- four levels, or something of each, as a function of the level
unfoldable pub level_of : {A : Type 0} → A → A → A → A → ℕ → A
level_of l1 l2 l3 l4 l = cond (leb l 1) l1 (cond (eqb l 2) l2 (cond (eqb l 3) l3 l4))

-- what memory has for the node of level l that starts at place p; of level 0, the sample
unfoldable pub reader_of : ℕ → List ℕ → (ℕ → List ℕ) → ℕ → ℕ → rule.Node
reader_of unit samples levels l p = cond (eqb l 0) (leaf (sample_of unit samples p)) (node_in (levels l) (p / span l))

-- each node that covers stored samples is the node of its range, partial last ones too
abbrev pub RightAt : (ℕ → ℕ) → ℕ → (ℕ → List ℕ) → ℕ → Type 0
RightAt s len levels l = (j : ℕ) → j * span l < len → node_in (levels l) j ≡ level_node s len l j

abbrev pub Right : (ℕ → ℕ) → ℕ → (ℕ → List ℕ) → Type 0
Right s len levels = (l : ℕ) → 1 ≤ l → l ≤ top_level → RightAt s len levels l
