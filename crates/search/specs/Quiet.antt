-- Whole chunks passed as one node of level 4 each. The value before one is the sample there, and not what the node before it ends with.
use Rattle.std.specs.Prelude.{◌≡◌, Bool, true, false, List, ℕ, ◌-◌, ◌*◌, ◌≤◌, ◌<◌}
use Rattle.rules.specs.Node.{quiet, top_level, chunk}
use Rattle.node.specs.Lent.{levels_of}
use Rattle.capture.specs.Stored.{sample_in}
use Rattle.capture.specs.declared.stored.Stored.{Stored}
use Rattle.find.specs.Run.{node_at, nth_node, NthHeld}
use Rattle.find.specs.Way.{moved}

-- the place next to border b, where chunk b begins, on the side that a search comes from
abbrev pub beside : Bool → ℕ → ℕ
beside true b = b * chunk
beside false b = b * chunk - 1

-- the nodes of level 4
abbrev pub tops : Stored → List ℕ
tops s = levels_of s.memory.levels top_level

-- the chunk after k others from border b on, or from there down, shows no masked change
abbrev pub quiet_nth : Stored → Bool → ℕ → ℕ → ℕ → Bool
quiet_nth s back mask b k = quiet (nth_node back (node_at s.unitsize s.memory.samples.now (tops s) top_level) b k) (sample_in s (beside back (moved back b k))) mask

-- of n chunks the first k are quiet, and the next one, if there is one, is not
pub record QuietChunks (s : Stored) (back : Bool) (mask b n k : ℕ) : Type 0 where
  pub most : k ≤ n
  pub each : (j : ℕ) → j < k → quiet_nth s back mask b j ≡ true
  pub stops : k < n → quiet_nth s back mask b k ≡ false

-- what the chunk after k others asks of memory, and what n of them ask
pub record ChunkHeld (s : Stored) (back : Bool) (b k : ℕ) : Type 0 where
  pub node : NthHeld s.unitsize s.memory.samples.now (tops s) top_level back b k
  pub place : moved back b k * chunk < 18446744073709551616
  pub past : back ≡ false → 1 ≤ moved back b k
  pub sample : beside back (moved back b k) < s.len

pub record ChunksHeld (s : Stored) (back : Bool) (b n : ℕ) : Type 0 where
  pub each : (k : ℕ) → k < n → ChunkHeld s back b k
