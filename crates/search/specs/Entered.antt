-- Where a search enters a chunk.
use Rattle.std.specs.Prelude.{ℕ, ◌+◌, ◌*◌, ◌≤◌, ◌<◌}
use Rattle.rules.specs.Node.{chunk}

-- a place p of chunk c, or the one past it, and a stored sample q next to it
pub record Entered (len c p q : ℕ) : Type 0 where
  pub low : c * chunk ≤ p
  pub high : p ≤ (c + 1) * chunk
  pub most : p ≤ len
  pub stored : q < len
