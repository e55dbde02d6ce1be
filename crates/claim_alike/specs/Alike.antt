-- Two runs, seen by a viewer of chosen lines v. 01: Lists of pushes.
-- A run is a function from places to samples, s, and its length, len.
use Rattle.std.specs.Prelude.{◌≡◌, ℕ, ◌<◌}
use Rattle.rules.specs.Sample.{Word, all_lines, Within, cut_to}
use Rattle.rules.specs.Search.{summary, cut_summary, density}
use Rattle.rules.specs.Walk.{next_search, previous_search}
use Rattle.rules.specs.Burst.{burst_search}
use Rattle.rules.specs.Pixel.{View, render, cut_pixels}
use Rattle.rules.specs.Encoder.{encoder, pair_mask}

-- "Unit 1: one byte .. Unit 2: two bytes" (01, Records): a sample is a number that a mask's word holds
abbrev pub AreWords : (ℕ → ℕ) → ℕ → Type 0
AreWords s len = (i : ℕ) → i < len → Word (s i)

module _ (v : ℕ) (s₁ : ℕ → ℕ) (len₁ : ℕ) (s₂ : ℕ → ℕ) (len₂ : ℕ) where
  -- "the same length .. and the same chosen lines at every sample"
  pub record Same : Type 0 where
    pub len : len₁ ≡ len₂
    pub lines : (i : ℕ) → i < len₁ → cut_to v (s₁ i) ≡ cut_to v (s₂ i)

  -- "the same summaries and pixels cut down to those lines, and the same next, previous and burst answers, jumps included, for every mask within them"
  -- and 02, CR 3: "two recordings that look alike to a viewer also give equal counts for every mask within the viewer's lines"
  pub record Alike : Type 0 where
    pub summaries : (a b : ℕ) → cut_summary v (summary s₁ len₁ a b) ≡ cut_summary v (summary s₂ len₂ a b)
    pub pixels : (view : View) (width : ℕ) → cut_pixels v (render s₁ len₁ view width) ≡ cut_pixels v (render s₂ len₂ view width)
    pub nexts : (mask : ℕ) → Within mask v → (from : ℕ) → next_search s₁ len₁ mask from ≡ next_search s₂ len₂ mask from
    pub previouses : (mask : ℕ) → Within mask v → (from : ℕ) → previous_search s₁ len₁ mask from ≡ previous_search s₂ len₂ mask from
    pub bursts : (mask : ℕ) → Within mask v → (sample gap tolerance budget : ℕ) → burst_search s₁ len₁ mask sample gap tolerance budget ≡ burst_search s₂ len₂ mask sample gap tolerance budget
    -- 02, CR 6: an encoder on two of those lines
    pub encoders : (a b : ℕ) → Within (pair_mask a b) v → encoder s₁ len₁ a b ≡ encoder s₂ len₂ a b
    -- 02, CR 5: "Since it tells of every line, .. alikeness covers it only for a viewer who chose all lines": densities, and summaries with their counts
    pub densities : v ≡ all_lines → (a b : ℕ) → density s₁ len₁ a b ≡ density s₂ len₂ a b
    pub counts : v ≡ all_lines → (a b : ℕ) → summary s₁ len₁ a b ≡ summary s₂ len₂ a b
