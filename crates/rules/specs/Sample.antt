-- Samples, and the bytes that hold them. 01: Records, Sample; Store.
use Rattle.std.specs.Prelude.{◌≡◌, cond, List, [], ◌∷◌, ℕ, zero, suc, ◌+◌, ◌-◌, ◌*◌, ◌/◌, ◌%◌, ◌^◌, ◌≤◌, ◌<◌, ltb, length, get_or}
use Rattle.std.specs.Int.Bits.{bit_and}

-- "More than 8 channels means unit 2, else 1."
abbrev pub unit_of : ℕ → ℕ
unit_of channels = cond (ltb 8 channels) 2 1

-- the units that there are: "unit 1 or 2" (rules.proofs.Sample.unit_cases takes one apart)
pub record UnitSize (u : ℕ) : Type 0 where
  pub least : 1 ≤ u
  pub most : u ≤ 2

-- u bytes from place k on, low first
abbrev pub little : ℕ → List ℕ → ℕ → ℕ
little zero bytes k = 0
little (suc u) bytes k = get_or bytes k 0 + 256 * little u bytes (k + 1)

-- s[i], "the sample at place i", of bytes in a unit
unfoldable pub sample_of : ℕ → List ℕ → ℕ → ℕ
sample_of unit bytes i = little unit bytes (i * unit)

-- "Append takes floor(bytes / unit) samples; a leftover byte is dropped."
abbrev pub sample_count : ℕ → List ℕ → ℕ
sample_count unit bytes = length bytes / unit

-- n samples from place p on, as a list
unfoldable pub list_from : (ℕ → ℕ) → ℕ → ℕ → List ℕ
list_from s p zero = []
list_from s p (suc n) = s p ∷ list_from s (p + 1) n

-- the whole samples of one push
abbrev pub samples_of : ℕ → List ℕ → List ℕ
samples_of unit bytes = list_from (sample_of unit bytes) 0 (sample_count unit bytes)

-- ---- lines
-- "A mask is 16 bits, bit k for line k."
abbrev pub mask_bits : ℕ
mask_bits = 16

-- a number that a mask's word holds; a node's numbers are such ("Three 16-bit numbers", 01, Records)
abbrev pub Word : ℕ → Type 0
Word n = n < 2 ^ mask_bits

-- line k of a sample or a mask
unfoldable pub line : ℕ → ℕ → ℕ
line v k = v / 2 ^ k % 2

-- the mask of a viewer "who chose all lines" (02, CR 5)
abbrev pub all_lines : ℕ
all_lines = 2 ^ mask_bits - 1

-- "A mask within it has no other bit." (01, Lists of pushes)
abbrev pub Within : ℕ → ℕ → Type 0
Within mask v = bit_and mask v ≡ mask

-- "Cutting down takes .. AND that mask" (01, Lists of pushes): of one number
abbrev pub cut_to : ℕ → ℕ → ℕ
cut_to v x = bit_and x v

-- and of every sample: its chosen lines, as a viewer and a mill see it
abbrev pub cut_lines : ℕ → (ℕ → ℕ) → ℕ → ℕ
cut_lines v s i = cut_to v (s i)
