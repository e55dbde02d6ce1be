-- When what is stored lies in memory: its samples, and a node of each level for each place that has one.
use Rattle.std.specs.Prelude.{List, ℕ, ◌+◌, ◌*◌, ◌≤◌, ◌<◌, length}
use Rattle.rules.specs.Sample.{UnitSize}
use Rattle.rules.specs.Node.{span, top_level}
use Rattle.rules.specs.Refusal.{node_size, most_samples}

-- levels have a node for each place below hi
pub record Nodes (hi : ℕ) (levels : ℕ → List ℕ) : Type 0 where
  pub inside : (l j : ℕ) → 1 ≤ l → l ≤ top_level → j * span l < hi → j * node_size + node_size ≤ length (levels l)

-- the first n samples lie in bytes
pub record Bytes (unit n : ℕ) (bytes : List ℕ) : Type 0 where
  pub unit_size : UnitSize unit
  pub room : n * unit ≤ length bytes

-- len samples and their nodes lie in memory
pub record Backed (unit len : ℕ) (samples : List ℕ) (levels : ℕ → List ℕ) : Type 0 where
  pub bytes : Bytes unit len samples
  pub most : len ≤ most_samples
  pub nodes : Nodes len levels
