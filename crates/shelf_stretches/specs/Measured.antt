-- What block 0 says of a file's samples. 02: CR 8.
use Rattle.std.specs.Prelude.{◌≡◌, List, ℕ, ◌/◌, ◌≤◌}
use Rattle.rules.specs.Sample.{UnitSize}
use Rattle.rules.specs.Refusal.{most_samples}
use Rattle.rules.specs.Block.{payload_most}
use Rattle.rules.specs.Shelf.{bytes_for, heading_in}

-- their bytes, their count, and how many a block holds
pub record Measured (file : List ℕ) (n len per : ℕ) : Type 0 where
  pub unit_size : UnitSize (heading_in file).unit
  pub bytes : n ≡ bytes_for (heading_in file)
  pub samples : len ≡ (heading_in file).len
  pub in_a_block : per ≡ payload_most / (heading_in file).unit
  pub few : len ≤ most_samples
