-- Shelf files and the rows of their calls at their borders, computed. 02: CR 7. Assumes nothing.
use mathlib.Core.Path.{◌≡◌, refl}
use mathlib.Core.Bool.{Bool, true, false}
use mathlib.Core.List.{List, [], ◌∷◌, ◌++◌}
use Rattle.std.specs.Prelude.{Option, None, Some}
use Prim.Native.Nat.{ℕ}
use lib.ListN.{set, take, drop, replicate}
use Rattle.rules.specs.SampleBytes.{sample_bytes}
use Rattle.rules.specs.Refusal.{Store, Lent, level_short}
use Rattle.rules.specs.Block.{zeros, weigh, check_of, body_of, block_of, same_bytes, good_block}
use Rattle.rules.specs.Shelf.{Filed, head_bytes, blocks_for, blocks_of, file_of, file_len, heading_in, head_test, good_blocks, file_test}
use Rattle.rules.specs.ShelfCalls.{length_refusal, says_refusal, write_refusal, read_refusal}

-- ---- a block
-- "the sum of place × byte": the first place that is summed is 2; the greatest sum there is
pub sums : (weigh 2 (1 ∷ 1 ∷ []) ≡ 5) × (weigh 2 (replicate 510 255) ≡ 33357825) × (check_of (replicate 510 255) ≡ 7636)
unfolding weigh
sums = (refl, refl, refl)

-- "0–1 check, 2–3 payload count, 4–7 block number from 0, 8–11 zero, 12–511 payload filled up with zeros"
pub block : (take 20 (block_of 1 (1 ∷ 0 ∷ 2 ∷ 1 ∷ 255 ∷ 255 ∷ [])) ≡ 38 ∷ 33 ∷ 6 ∷ 0 ∷ 1 ∷ 0 ∷ 0 ∷ 0 ∷ 0 ∷ 0 ∷ 0 ∷ 0 ∷ 1 ∷ 0 ∷ 2 ∷ 1 ∷ 255 ∷ 255 ∷ 0 ∷ 0 ∷ [])
    × (drop 18 (block_of 1 (1 ∷ 0 ∷ 2 ∷ 1 ∷ 255 ∷ 255 ∷ [])) ≡ zeros 494)
unfolding block_of body_of weigh sample_bytes
block = (refl, refl)

-- ---- files
abbrev pub filed : ℕ → Option ℕ → ℕ → List ℕ → Filed
filed unit mark len bytes = record { heading = record { unit = unit; mark = mark; len = len }; bytes = bytes }

-- "500 each, the last 1 to 500": an empty capture has block 0 alone
pub blocks : (blocks_for 0 ≡ 0) × (blocks_for 1 ≡ 1) × (blocks_for 500 ≡ 1) × (blocks_for 501 ≡ 2) × (blocks_for 1000 ≡ 2) × (blocks_for 1001 ≡ 3)
blocks = (refl, refl, refl, refl, refl, refl)

pub lengths : (file_len (record { unit = 1; mark = None; len = 0 }) ≡ 512)
    × (file_len (record { unit = 1; mark = None; len = 500 }) ≡ 1024)
    × (file_len (record { unit = 1; mark = None; len = 501 }) ≡ 1536)
    × (file_len (record { unit = 2; mark = None; len = 250 }) ≡ 1024)
    × (file_len (record { unit = 2; mark = None; len = 251 }) ≡ 1536)
lengths = (refl, refl, refl, refl, refl)

-- "Block 0 holds 18 bytes: unit, 1 if there is a mark else 0, len in 8 bytes, mark in 8 (0 if none)."
pub headings : (take 30 (file_of (filed 1 None 0 [])) ≡ 48 ∷ 0 ∷ 18 ∷ 0 ∷ 0 ∷ 0 ∷ 0 ∷ 0 ∷ 0 ∷ 0 ∷ 0 ∷ 0 ∷ 1 ∷ zeros 17)
    × (drop 30 (file_of (filed 1 None 0 [])) ≡ zeros 482)
    × (take 30 (file_of (filed 2 (Some 3) 3 (1 ∷ 0 ∷ 2 ∷ 1 ∷ 255 ∷ 255 ∷ []))) ≡ 181 ∷ 0 ∷ 18 ∷ 0 ∷ 0 ∷ 0 ∷ 0 ∷ 0 ∷ 0 ∷ 0 ∷ 0 ∷ 0 ∷ 2 ∷ 1 ∷ 3 ∷ 0 ∷ 0 ∷ 0 ∷ 0 ∷ 0 ∷ 0 ∷ 0 ∷ 3 ∷ zeros 7)
unfolding file_of block_of body_of weigh sample_bytes head_bytes blocks_of
headings = (refl, refl, refl)

-- ---- which files some capture has
-- a mark at len, and one at 0 where nothing is stored, have files
pub accepted : (file_test (file_of (filed 1 None 2 (0 ∷ 0 ∷ []))) ≡ true) × (file_test (file_of (filed 2 (Some 1) 1 (7 ∷ 9 ∷ []))) ≡ true) × (file_test (file_of (filed 1 (Some 0) 0 [])) ≡ true)
unfolding file_test head_test heading_in good_blocks good_block same_bytes file_of block_of body_of weigh sample_bytes head_bytes blocks_of
accepted = (refl, refl, refl)

-- the file of two samples, a byte of it changed and the checks made right again
abbrev pub two : List ℕ
two = file_of (filed 1 None 2 (0 ∷ 0 ∷ []))

abbrev pub sealed : List ℕ → List ℕ
sealed b = sample_bytes 2 (check_of (drop 2 b)) ++ drop 2 b

abbrev changed : ℕ → ℕ → Bool
changed place byte = let f = set two place byte in file_test (sealed (take 512 f) ++ sealed (drop 512 f))

pub refused :
    -- nothing is changed but a sample: some capture has it
    (changed 524 1 ≡ true)
    -- padding, the fixed zeros, the number and the count of the last block
    × (changed 526 1 ≡ false)
    × (changed 520 1 ≡ false)
    × (changed 516 2 ≡ false)
    × (changed 514 1 ≡ false)
    -- unit 0 and 3; flag 2; the mark's bytes under flag 0; a mark above len; another len
    × (changed 12 0 ≡ false)
    × (changed 12 3 ≡ false)
    × (changed 13 2 ≡ false)
    × (changed 22 1 ≡ false)
    × (file_test (sealed (set (set (take 512 two) 13 1) 22 3) ++ drop 512 two) ≡ false)
    × (file_test (sealed (set (set (take 512 two) 13 1) 22 2) ++ drop 512 two) ≡ true)
    × (changed 14 1 ≡ false)
    × (changed 17 4 ≡ false)
unfolding file_test head_test heading_in good_blocks good_block same_bytes file_of block_of body_of weigh sample_bytes head_bytes blocks_of
refused = (refl, refl, refl, refl, refl, refl, refl, refl, refl, refl, refl, refl, refl)

-- "modulo 65,521": the check is the remainder itself, and not another number with the same one; a longer file and a shorter one
pub exact : (take 2 (drop 512 two) ≡ 8 ∷ 0 ∷ [])
    × (file_test (set (set two 512 249) 513 255) ≡ false)
    × (file_test (two ++ (0 ∷ [])) ≡ false)
    × (file_test (two ++ zeros 512) ≡ false)
    × (file_test (take 1023 two) ≡ false)
    × (file_test (take 512 two) ≡ false)
unfolding file_test head_test heading_in good_blocks good_block same_bytes file_of block_of body_of weigh sample_bytes head_bytes blocks_of
exact = (refl, refl, refl, refl, refl, refl)

-- ---- rows
-- 512 bytes say what they say, whatever follows
pub says : (says_refusal (take 512 two) ≡ 0) × (says_refusal (take 511 two) ≡ 16) × (says_refusal (take 512 two ++ (1 ∷ [])) ≡ 0) × (says_refusal (drop 512 two) ≡ 16)
unfolding head_test heading_in good_block same_bytes file_of block_of body_of weigh sample_bytes head_bytes blocks_of
says = (refl, refl, refl, refl)

abbrev small : ℕ → Store
small capacity = record { unit = 1; capacity = capacity; len = 2; mark = None }

abbrev pub enough : ℕ → Lent
enough samples = record { samples = samples; level = λ l. 5 }

-- "15 an output too short, after 2"
pub writes : (write_refusal (small 2) (enough 2) 1024 ≡ 0) × (write_refusal (small 2) (enough 2) 1023 ≡ 15) × (write_refusal (small 2) (enough 1) 1023 ≡ 2) × (write_refusal (small 1) (enough 1) 0 ≡ 1) × (length_refusal (small 2) ≡ 0) × (length_refusal (small 1) ≡ 1)
unfolding level_short
writes = (refl, refl, refl, refl, refl, refl)

-- "with 16 a file that no capture has, ahead of 15"; "memory short for it", measured by the capacity, "and a len above it"
pub reads : (read_refusal 0 (enough 0) [] ≡ 1)
    × (read_refusal 67108865 (enough 0) [] ≡ 1)
    × (read_refusal 67108864 (enough 0) [] ≡ 16)
    × (read_refusal 1 (enough 0) [] ≡ 16)
    × (read_refusal 1 (enough 2) two ≡ 15)
    × (read_refusal 2 (enough 2) two ≡ 0)
    × (read_refusal 3 (enough 2) two ≡ 15)
    × (read_refusal 3 (enough 3) two ≡ 0)
    × (read_refusal 33 (enough 33) two ≡ 15)
unfolding level_short file_test head_test heading_in good_blocks good_block same_bytes file_of block_of body_of weigh sample_bytes head_bytes blocks_of
reads = (refl, refl, refl, refl, refl, refl, refl, refl, refl)
