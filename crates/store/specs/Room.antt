-- What the functions of this crate ask of their numbers and of the lengths of lent memory.
use Rattle.std.specs.Prelude.{◌≡◌, List, ℕ, ◌+◌, ◌*◌, ◌/◌, ◌≤◌, ◌<◌}
use Rattle.rules.specs.Sample.{UnitSize}
use Rattle.rules.specs.Refusal.{most_samples, node_size}
use Rattle.rebuild.specs.Room.{Roomy}

-- samples stand at the places from to top, and they and their nodes of level 1 lie in memory
pub record ChunksRoom (unit from top s l1 : ℕ) : Type 0 where
  pub unit_size : UnitSize unit
  pub some : from ≤ top
  pub fits : top < most_samples
  pub samples : (top + 1) * unit ≤ s
  pub nodes : top / 32 * node_size + node_size ≤ l1

-- n samples join len: they and the nodes of every level lie in memory
pub record StoreRoom (unit len n s : ℕ) (levels : ℕ → List ℕ) : Type 0 where
  pub unit_size : UnitSize unit
  pub fits : len + n ≤ most_samples
  pub samples : (len + n) * unit ≤ s
  pub nodes : Roomy (len + n) levels

-- and b bytes have them
pub record AppendRoom (unit len n s : ℕ) (levels : ℕ → List ℕ) (b : ℕ) : Type 0 where
  pub room : StoreRoom unit len n s levels
  pub bytes : n * unit ≤ b

-- and three runs of bytes are they, and no more
pub record PartsRoom (unit len n s : ℕ) (levels : ℕ → List ℕ) (a b c : ℕ) : Type 0 where
  pub room : StoreRoom unit len n s levels
  pub bytes : a + b + c ≡ n * unit
