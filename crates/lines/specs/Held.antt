-- When a sample lies in lent bytes.
use Rattle.std.specs.Prelude.{ℕ, ◌+◌, ◌*◌, ◌≤◌}
use Rattle.rules.specs.Sample.{UnitSize}

-- sample i of a unit lies within n bytes
pub record Held (unit i n : ℕ) : Type 0 where
  pub unit_size : UnitSize unit
  pub room : i * unit + unit ≤ n
