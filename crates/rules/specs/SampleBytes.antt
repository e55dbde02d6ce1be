-- Samples written as bytes, as a caller hands them to append and push. 01: Records, Sample.
use Rattle.std.specs.Prelude.{List, [], ◌∷◌, ◌++◌, ℕ, zero, suc, ◌/◌, ◌%◌, ◌<◌, get_or}

-- "Unit 1: one byte .. Unit 2: two bytes, low first."
unfoldable pub sample_bytes : ℕ → ℕ → List ℕ
sample_bytes zero v = []
sample_bytes (suc u) v = v % 256 ∷ sample_bytes u (v / 256)

-- samples one after the other
unfoldable pub bytes_of : ℕ → List ℕ → List ℕ
bytes_of u [] = []
bytes_of u (v ∷ vs) = sample_bytes u v ++ bytes_of u vs

-- every number is a byte
abbrev pub Bytes : List ℕ → Type 0
Bytes b = (k : ℕ) → get_or b k 0 < 256
