-- What memory holds once samples have joined the stored ones, whatever it held. 01: Store; 02: CR 2.
use Rattle.std.specs.Prelude.{◌≡◌, List, ℕ, ◌*◌, ◌≤◌}
use Rattle.std.proofs.Math.Seq.{paste}
use Rattle.rules.specs.Node.{top_level}
use Rattle.rules.specs.Sample.{sample_of}
use Rattle.rebuild.specs.Rebuild.{level_after}

-- each level once n samples have joined len, of which `samples` holds all: by what the level held and the samples alone
abbrev pub LevelsAfter : ℕ → ℕ → ℕ → List ℕ → (ℕ → List ℕ) → (ℕ → List ℕ) → Type 0
LevelsAfter unit len n samples levels levels' = (l : ℕ) → 1 ≤ l → l ≤ top_level → levels' l ≡ level_after (sample_of unit samples) (levels l) len n l

-- memory once n samples of the bytes have joined len samples of a unit: the bytes, and each level
pub record Stored (unit len n : ℕ) (bytes samples : List ℕ) (levels : ℕ → List ℕ) (samples' : List ℕ) (levels' : ℕ → List ℕ) : Type 0 where
  pub samples_are : samples' ≡ paste samples (len * unit) bytes (n * unit)
  pub levels_are : LevelsAfter unit len n samples' levels levels'
