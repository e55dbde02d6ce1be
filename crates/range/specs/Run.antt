-- The changes of runs of samples: their lines, and how many they are.
use Rattle.std.specs.Prelude.{◌≡◌, ℕ, ◌+◌}
use Rattle.std.specs.Int.Bits.{bit_or}
use Rattle.rules.specs.Node.{toggles_of, count_of}

-- at the n places behind place a
pub record Run (s : ℕ → ℕ) (a n mask count : ℕ) : Type 0 where
  pub lines : mask ≡ toggles_of s a n
  pub many : count ≡ count_of s a n

-- and at the n behind place a + 15 too
pub record Both (s : ℕ → ℕ) (a n mask count : ℕ) : Type 0 where
  pub lines : mask ≡ bit_or (toggles_of s a n) (toggles_of s (a + 15) n)
  pub many : count ≡ count_of s a n + count_of s (a + 15) n
