-- The rules look at a run's samples alone: two functions that agree below len have the same answers.
use mathlib.Core.Path.{◌≡◌, ap}
use Rattle.std.specs.Prelude.{Option, Some}
use Prim.Native.Nat.{ℕ, ◌+◌, ◌≤◌, ◌<◌, min}
use native.Mathlib.Decide.{dec_lt}
use native.Mathlib.Omega.{arith}
use borrow.Author.Tests.{lt-ltb, le-ltb}
use Rattle.rules.specs.Node.{node_of, cut, span}
use Rattle.rules.specs.Search.{summary, density}
use Rattle.rules.specs.Walk.{all_levels, run_reader, next_search, previous_search}
use Rattle.rules.specs.Burst.{burst_search}
use Rattle.rules.specs.Pixel.{View, Range, row_by, pixel_range, render}
use Rattle.rules.specs.Sample.{line}
use Rattle.rules.specs.Encoder.{encoder}
use Rattle.rules.proofs.Encoder.{encoder_same}
use Rattle.rules.proofs.Node.{node_same, changes_same}
use Rattle.rules.proofs.Row.{Stored, pixels_stored, row_same}
use Rattle.rules.proofs.Walk.{span_pos}
use Rattle.rules.proofs.Steps.{AlikeNodes}
use Rattle.claim_alike.proofs.Searches.{next_by_nodes, previous_by_nodes, burst_by_nodes}

module _ (s₁ s₂ : ℕ → ℕ) (len : ℕ) (same : (i : ℕ) → i < len → s₁ i ≡ s₂ i) where
  node_below : (a b : ℕ) → a < b → b ≤ len → node_of s₁ a b ≡ node_of s₂ a b
  node_below a b h k = node_same s₁ s₂ a b h (λ i l u. same i (omega arith))

  pub summary_below : (a b : ℕ) → summary s₁ len a b ≡ summary s₂ len a b
  summary_below a b = go (dec_lt a (min b len))
    where
      go : Dec (a < min b len) → summary s₁ len a b ≡ summary s₂ len a b
      go (yes h) = rw (lt-ltb a (min b len) h) (ap Some (node_below a (min b len) h (omega arith)))
      go (no h) = rw (le-ltb a (min b len) (omega arith))

  pub density_below : (a b : ℕ) → density s₁ len a b ≡ density s₂ len a b
  density_below a b = changes_same s₁ s₂ a (min b len) (λ i l u. same i (omega arith))

  pub encoder_below : (a b : ℕ) → encoder s₁ len a b ≡ encoder s₂ len a b
  encoder_below a b = encoder_same s₁ s₂ len a b (λ i l. (ap (λ (x : ℕ). line x a) (same i l), ap (λ (x : ℕ). line x b) (same i l)))

  -- a row over any ranges of stored places, and 01's
  pub row_below : (range : ℕ → Option Range) → Stored range len → (px n : ℕ) → row_by (node_of s₁) range px n ≡ row_by (node_of s₂) range px n
  row_below range stored px n = row_same (node_of s₁) (node_of s₂) range len stored node_below px n

  pub render_below : (view : View) (width : ℕ) → render s₁ len view width ≡ render s₂ len view width
  render_below view width = row_below (pixel_range view len) (pixels_stored view len) 0 width

  -- a search reads nodes of stored samples only
  module _ (mask : ℕ) where
    nodes_below : AlikeNodes all_levels (run_reader s₁) (run_reader s₂) len mask
    nodes_below = record { is = λ l p _ _ _ h. ap (cut mask) (node_below p (p + span l) (omega (arith, span_pos l)) h) }

    pub next_below : (from : ℕ) → next_search s₁ len mask from ≡ next_search s₂ len mask from
    next_below = next_by_nodes s₁ s₂ len mask nodes_below

    pub previous_below : (from : ℕ) → previous_search s₁ len mask from ≡ previous_search s₂ len mask from
    previous_below = previous_by_nodes s₁ s₂ len mask nodes_below

    pub burst_below : (sample gap tolerance budget : ℕ) → burst_search s₁ len mask sample gap tolerance budget ≡ burst_search s₂ len mask sample gap tolerance budget
    burst_below = burst_by_nodes s₁ s₂ len mask nodes_below
