-- Where a line of a text ends. crates/replay/data/README.md: lines, each ended by one newline.
use Rattle.std.specs.Prelude.{◌≡◌, List, ℕ, ◌≤◌, ◌<◌, length, get_or}

-- the first newline from a place on, or the end of the text
pub record LineEnd (text : List ℕ) (at r : ℕ) : Type 0 where
  pub from : at ≤ r
  pub within : r ≤ length text
  pub none_before : (k : ℕ) → k < r → at ≤ k → get_or text k 0 ≡ 10 → ⊥
  pub newline : r < length text → get_or text r 0 ≡ 10
