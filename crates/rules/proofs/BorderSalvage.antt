-- Stretches, good blocks and the rows of salvaging at their borders, computed. 02: CR 8. Assumes nothing.
use mathlib.Core.Path.{◌≡◌, refl}
use mathlib.Core.Bool.{Bool, true, false, not, ◌||◌}
use mathlib.Core.List.{List, [], ◌∷◌, ◌++◌}
use Rattle.std.specs.Prelude.{None}
use Prim.Native.Nat.{ℕ}
use lib.Dec.{eqb}
use lib.ListN.{set, take, drop, replicate}
use Rattle.rules.specs.Sample.{list_from}
use Rattle.rules.specs.SampleBytes.{sample_bytes}
use Rattle.rules.specs.Refusal.{level_short}
use Rattle.rules.specs.Block.{zeros, weigh, body_of, block_of, same_bytes, good_block}
use Rattle.rules.specs.Shelf.{Heading, head_bytes, blocks_of, file_of, heading_in, payloads, bytes_in, head_test}
use Rattle.rules.specs.Stretches.{Stretch, joined, stretches_in, unknown_in, covers, apart, places_of, pairs_of, pairs_in}
use Rattle.rules.specs.Salvage.{due_count, good_in, good_at, block_of_byte, block_of_sample, salvaged_bytes, stretches_of, replaced_in, salvage_refusal, salvage_list}
use Rattle.rules.proofs.BorderShelf.{filed, two, sealed, enough}

abbrev pub stretch : ℕ → ℕ → Stretch
stretch first count = record { first = first; count = count }

-- ---- stretches
-- of the places 0 to 5, those that are not known
abbrev unknown : (ℕ → Bool) → List Stretch
unknown is = stretches_in (λ i. not (is i)) 0 6

-- "none touching the next": neighbours are one stretch; the first place, the last one, all and none
pub runs : (unknown (λ i. eqb i 1 || (eqb i 2 || eqb i 4)) ≡ stretch 1 2 ∷ stretch 4 1 ∷ [])
    × (unknown (λ i. eqb i 0 || eqb i 5) ≡ stretch 0 1 ∷ stretch 5 1 ∷ [])
    × (unknown (λ i. true) ≡ stretch 0 6 ∷ [])
    × (unknown (λ i. false) ≡ [])
    × (unknown_in (λ i. not (eqb i 1 || eqb i 4)) 0 6 ≡ 2)
    × (places_of (stretch 1 2 ∷ stretch 4 1 ∷ []) ≡ 3)
unfolding stretches_in joined unknown_in places_of
runs = (refl, refl, refl, refl, refl, refl)

-- its first place is in a stretch, the one behind it is not
pub inside : (covers (stretch 1 2 ∷ stretch 4 1 ∷ []) 0 ≡ false)
    × (covers (stretch 1 2 ∷ stretch 4 1 ∷ []) 1 ≡ true)
    × (covers (stretch 1 2 ∷ stretch 4 1 ∷ []) 2 ≡ true)
    × (covers (stretch 1 2 ∷ stretch 4 1 ∷ []) 3 ≡ false)
    × (covers (stretch 1 2 ∷ stretch 4 1 ∷ []) 4 ≡ true)
unfolding covers
inside = (refl, refl, refl, refl, refl)

-- up to len, and one past it; one place between two, and none; out of order; of no places
pub order : (apart 0 5 (stretch 0 2 ∷ stretch 3 2 ∷ []) ≡ true)
    × (apart 0 5 (stretch 0 2 ∷ stretch 3 3 ∷ []) ≡ false)
    × (apart 0 5 (stretch 0 2 ∷ stretch 2 1 ∷ []) ≡ false)
    × (apart 0 5 (stretch 3 1 ∷ stretch 0 2 ∷ []) ≡ false)
    × (apart 0 5 (stretch 1 0 ∷ []) ≡ false)
    × (apart 0 0 [] ≡ true)
unfolding apart
order = (refl, refl, refl, refl, refl, refl)

pub numbers : (pairs_of (stretch 1 2 ∷ stretch 4 1 ∷ []) ≡ 1 ∷ 2 ∷ 4 ∷ 1 ∷ []) × (pairs_in (1 ∷ 2 ∷ 4 ∷ []) ≡ stretch 1 2 ∷ [])
unfolding pairs_of pairs_in
numbers = (refl, refl)

-- ---- good blocks
abbrev of : ℕ → ℕ → Heading
of unit len = record { unit = unit; mark = None; len = len }

-- which block a sample is in, and the counts that block 0 calls for
pub homes : (block_of_byte 499 ≡ 1)
    × (block_of_byte 500 ≡ 2)
    × (block_of_sample (of 2 251) 249 ≡ 1)
    × (block_of_sample (of 2 251) 250 ≡ 2)
    × (due_count 502 1 ≡ 500)
    × (due_count 502 2 ≡ 2)
    × (due_count 1000 2 ≡ 500)
homes = (refl, refl, refl, refl, refl, refl, refl)

-- a file of three blocks
abbrev three : List ℕ
three = file_of (filed 1 None 501 (replicate 501 7))

-- "its number is its place in the file": the last two exchanged; a block twice
pub places : (good_at three 1 ≡ true)
    × (good_at three 2 ≡ true)
    × (good_at (take 512 three ++ (drop 1024 three ++ take 512 (drop 512 three))) 1 ≡ false)
    × (good_at (take 512 three ++ (drop 1024 three ++ take 512 (drop 512 three))) 2 ≡ false)
    × (good_at (take 1024 three ++ take 512 (drop 512 three)) 1 ≡ true)
    × (good_at (take 1024 three ++ take 512 (drop 512 three)) 2 ≡ false)
unfolding good_in good_block same_bytes heading_in file_of block_of body_of weigh sample_bytes head_bytes blocks_of
places = (refl, refl, refl, refl, refl, refl)

-- ---- a file of two samples
abbrev head : List ℕ
head = take 512 two

pub unknowns :
    -- as it is, and with bytes behind the last block: "are passed over"
    (stretches_of two ≡ [])
    × (stretches_of (two ++ (1 ∷ [])) ≡ [])
    -- "Blocks missing at the end are bad": the block, and its last byte, which is padding
    × (stretches_of head ≡ stretch 0 2 ∷ [])
    × (stretches_of (take 1023 two) ≡ stretch 0 2 ∷ [])
    -- a block of zeros, whose check holds; block 0 in its place; padding with the check made right
    × (stretches_of (head ++ zeros 512) ≡ stretch 0 2 ∷ [])
    × (stretches_of (head ++ head) ≡ stretch 0 2 ∷ [])
    × (stretches_of (head ++ sealed (set (drop 512 two) 14 1)) ≡ stretch 0 2 ∷ [])
    -- samples with the check made right
    × (stretches_of (head ++ sealed (set (drop 512 two) 13 9)) ≡ [])
    × (replaced_in head ≡ 2)
unfolding stretches_of replaced_in stretches_in unknown_in joined good_in good_block same_bytes heading_in file_of block_of body_of weigh sample_bytes head_bytes blocks_of
unknowns = (refl, refl, refl, refl, refl, refl, refl, refl, refl)

-- "The others are stored as zero"
pub stored : (salvaged_bytes (head ++ sealed (set (drop 512 two) 13 9)) ≡ 0 ∷ 9 ∷ []) × (salvaged_bytes (head ++ set (drop 512 two) 13 9) ≡ 0 ∷ 0 ∷ [])
unfolding salvaged_bytes list_from bytes_in payloads good_in good_block same_bytes heading_in file_of block_of body_of weigh sample_bytes head_bytes blocks_of
stored = (refl, refl)

-- ---- rows
-- 1, then 17, then 15: the capacity, memory, and "a list too short for the stretches", which a list of an odd count may be
pub rows : (salvage_refusal 0 (enough 0) 0 [] ≡ 1)
    × (salvage_refusal 67108865 (enough 0) 0 [] ≡ 1)
    × (salvage_refusal 67108864 (enough 0) 0 [] ≡ 17)
    × (salvage_refusal 1 (enough 0) 0 (take 511 two) ≡ 17)
    × (salvage_refusal 1 (enough 2) 2 head ≡ 15)
    × (salvage_refusal 2 (enough 1) 2 head ≡ 15)
    × (salvage_refusal 2 (enough 2) 1 head ≡ 15)
    × (salvage_refusal 2 (enough 2) 2 head ≡ 0)
    × (salvage_refusal 2 (enough 2) 0 two ≡ 0)
    × (salvage_refusal 33 (enough 33) 0 two ≡ 15)
unfolding level_short stretches_of replaced_in stretches_in unknown_in joined head_test heading_in good_in good_block same_bytes file_of block_of body_of weigh sample_bytes head_bytes blocks_of
rows = (refl, refl, refl, refl, refl, refl, refl, refl, refl, refl)

-- the list: the pairs, then what it held; all of that where 15 is given
pub lists : (salvage_list 2 (enough 2) (9 ∷ 9 ∷ 9 ∷ []) head ≡ 0 ∷ 2 ∷ 9 ∷ []) × (salvage_list 2 (enough 2) (9 ∷ []) head ≡ 9 ∷ []) × (salvage_list 2 (enough 2) (9 ∷ []) two ≡ 9 ∷ [])
unfolding level_short stretches_of replaced_in stretches_in unknown_in joined pairs_of head_test heading_in good_in good_block same_bytes file_of block_of body_of weigh sample_bytes head_bytes blocks_of
lists = (refl, refl, refl)
