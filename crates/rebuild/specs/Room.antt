-- What the functions of this crate ask of their numbers and of the lengths of lent memory.
use Rattle.std.specs.Prelude.{List, ℕ, suc, ◌+◌, ◌*◌, ◌/◌, ◌≤◌, ◌<◌, length}
use Rattle.rules.specs.Sample.{UnitSize}
use Rattle.rules.specs.Node.{span, top_level}
use Rattle.rules.specs.Refusal.{most_samples, node_size}

-- level l has the node of place len
pub record NodeRoom (l len level : ℕ) : Type 0 where
  pub high : l ≤ top_level
  pub node : len / span l * node_size + node_size ≤ level

-- a part that starts at place base has the samples from node `first` on up to place top, and level 1 has their nodes
pub record FirstRoom (unit base first top part level : ℕ) : Type 0 where
  pub unit_size : UnitSize unit
  pub fits : top < most_samples
  pub from : base ≤ first * 32
  pub samples : top * unit + unit ≤ base * unit + part
  pub nodes : top / 32 * node_size + node_size ≤ level

-- the same where the samples from place len on are new; the part may start at any place up to len
pub record JoinRoom (unit base len top part level : ℕ) : Type 0 where
  pub unit_size : UnitSize unit
  pub fits : top < most_samples
  pub some : len ≤ top
  pub from : base ≤ len
  pub samples : top * unit + unit ≤ base * unit + part
  pub nodes : top / 32 * node_size + node_size ≤ level

-- the level below has the nodes up to top, and the level has theirs
pub record LevelRoom (top below level : ℕ) : Type 0 where
  pub nodes_below : top * node_size + node_size ≤ below
  pub nodes : top / 32 * node_size + node_size ≤ level

-- the same for the levels l and l + 1 where the samples from place len on, up to top, are new
pub record RaiseRoom (l len top below level : ℕ) : Type 0 where
  pub low : 1 ≤ l
  pub high : l < top_level
  pub some : len ≤ top
  pub nodes_below : top / span l * node_size + node_size ≤ below
  pub nodes : top / span (suc l) * node_size + node_size ≤ level

-- of each level memory has the nodes that cover one of the first len samples
abbrev pub Roomy : ℕ → (ℕ → List ℕ) → Type 0
Roomy len levels = (l j : ℕ) → 1 ≤ l → l ≤ top_level → j * span l < len → j * node_size + node_size ≤ length (levels l)
