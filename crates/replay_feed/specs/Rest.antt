-- How much of a feed is still to come: a number that falls with each run begun and each sample taken, so that feeding ends.
use Rattle.std.specs.Prelude.{ℕ, ◌+◌, ◌*◌, ◌^◌, ◌≤◌, ◌<◌, length, List}
use Rattle.replay_feed.specs.declared.Feed.{Feed}
use Rattle.replay_feed.specs.declared.Filled.{Filled}

-- a run has fewer than 2^64 samples
unfoldable pub rest : Feed → ℕ
rest f = f.runs * 2 ^ 64 + f.left

-- the piece holds what was filled; where that is something, less is to come
pub record Fills (f : Feed) (piece : List ℕ) (r : Filled) : Type 0 where
  pub within : r.bytes ≤ length piece
  pub less : 0 < r.bytes → rest r.feed < rest f
