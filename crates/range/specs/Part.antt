-- Samples in a part of memory.
use Rattle.std.specs.Prelude.{List, ℕ, ◌+◌, ◌-◌, ◌*◌, ◌≤◌, ◌<◌}
use Rattle.rules.specs.Sample.{sample_of, UnitSize}
use Rattle.rules.specs.Refusal.{node_size, most_samples}

-- the samples a to b, b not among them, of a unit lie within n bytes
pub record RangeIn (unit a b n : ℕ) : Type 0 where
  pub unit_size : UnitSize unit
  pub some : a < b
  pub room : b * unit ≤ n

-- the nodes a to b, b not among them, lie within n numbers of a level; no store has more
pub record NodesIn (a b n : ℕ) : Type 0 where
  pub few : b ≤ a + most_samples
  pub room : b * node_size ≤ n

-- the samples of a part of memory that starts at place base
abbrev pub part_sample : ℕ → List ℕ → ℕ → ℕ → ℕ
part_sample unit part base i = sample_of unit part (i - base)
