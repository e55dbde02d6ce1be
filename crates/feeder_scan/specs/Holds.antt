-- When samples lie in lent bytes.
use Rattle.std.specs.Prelude.{ℕ, ◌*◌, ◌≤◌}
use Rattle.rules.specs.Sample.{UnitSize}

-- n samples of a unit lie within len bytes
pub record Holds (unit n len : ℕ) : Type 0 where
  pub unit_size : UnitSize unit
  pub room : n * unit ≤ len
