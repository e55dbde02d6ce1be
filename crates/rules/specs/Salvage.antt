-- What is salvaged from a file with bad blocks, and what that refuses and answers. 02: CR 8.
use Rattle.std.specs.Prelude.{◌≡◌, Bool, false, cond, not, ◌&&◌, ◌||◌, List, [], ◌∷◌, ℕ, ◌+◌, ◌-◌, ◌*◌, ◌/◌, min, ltb, eqb, length, get_or, take, drop}
use Rattle.rules.specs.Sample.{list_from}
use Rattle.rules.specs.Answer.{Answer, unless, unrefused}
use Rattle.rules.specs.Refusal.{Store, Lent, first_of}
use Rattle.rules.specs.Block.{block_size, payload_most, good_block}
use Rattle.rules.specs.Shelf.{Heading, bytes_for, heading_in, bytes_in, head_test}
use Rattle.rules.specs.ShelfCalls.{capacity_wrong, store_in, store_short, written_to}
use Rattle.rules.specs.Stretches.{Stretch, stretches_in, unknown_in, pairs_of}

-- ---- good blocks
-- block k as it stands in the file: less than 512 bytes of it where it is torn, none where it is missing
abbrev pub block_in : ℕ → List ℕ → List ℕ
block_in k file = take block_size (drop (block_size * k) file)

-- the count that block 0 calls for in block k, from 1, where there are n bytes of samples: "500 each, the last 1 to 500"
abbrev pub due_count : ℕ → ℕ → ℕ
due_count n k = min payload_most (n - payload_most * (k - 1))

-- "A block is good if its check holds, its number is its place in the file, and its count and fixed zeros are those that block 0 calls for."
-- "Blocks missing at the end are bad", a torn one too
unfoldable pub good_in : ℕ → ℕ → List ℕ → Bool
good_in n k block = eqb (length block) block_size && good_block k (due_count n k) block

abbrev pub good_at : List ℕ → ℕ → Bool
good_at file k = good_in (bytes_for (heading_in file)) k (block_in k file)

-- ---- samples
-- the block that holds byte j of the samples, and the one of sample i: all its bytes stand there (rules.proofs.Salvage.in_one)
abbrev pub block_of_byte : ℕ → ℕ
block_of_byte j = j / payload_most + 1

abbrev pub block_of_sample : Heading → ℕ → ℕ
block_of_sample h i = block_of_byte (i * h.unit)

-- "Samples wholly within good blocks"
abbrev pub is_known : List ℕ → ℕ → Bool
is_known file i = good_at file (block_of_sample (heading_in file) i)

-- "land at their own places. The others are stored as zero": by their bytes
abbrev pub salvaged_byte : List ℕ → ℕ → ℕ
salvaged_byte file j = cond (good_at file (block_of_byte j)) (get_or (bytes_in file) j 0) 0

unfoldable pub salvaged_bytes : List ℕ → List ℕ
salvaged_bytes file = list_from (salvaged_byte file) 0 (bytes_for (heading_in file))

-- "and reported in a lent list as unknown stretches"
unfoldable pub stretches_of : List ℕ → List Stretch
stretches_of file = stretches_in (is_known file) 0 (heading_in file).len

-- "that of samples replaced"
unfoldable pub replaced_in : List ℕ → ℕ
replaced_in file = unknown_in (is_known file) 0 (heading_in file).len

-- ---- two files
-- "Damage confined to some blocks other than block 0": both have the others alike, in bytes and in what is there
pub record AgreeOutside (damaged : ℕ → Bool) (f g : List ℕ) : Type 0 where
  pub head : damaged 0 ≡ false
  pub blocks : (k : ℕ) → damaged k ≡ false → block_in k f ≡ block_in k g

-- ---- the call
-- how many numbers the list takes
abbrev pub list_need : List ℕ → ℕ
list_need file = 2 * length (stretches_of file)

-- "It refuses with 17 a block 0 that is missing, bad or such as no capture has, where plain reading gives 16, and then with 15, which here also covers a list too short for the stretches."
abbrev pub salvage_refusal : ℕ → Lent → ℕ → List ℕ → ℕ
salvage_refusal capacity lent list file = first_of (
    record { number = 1; holds = capacity_wrong capacity }
    ∷ record { number = 17; holds = not (head_test file) }
    ∷ record { number = 15; holds = store_short capacity lent (heading_in file) || ltb list (list_need file) }
    ∷ [])

-- "the answer is the store, the number of stretches and that of samples replaced"
pub record Salvaged : Type 0 where
  pub store : Store
  pub stretches : ℕ
  pub replaced : ℕ

abbrev pub salvaged_of : ℕ → List ℕ → Salvaged
salvaged_of capacity file = record { store = store_in capacity (heading_in file); stretches = length (stretches_of file); replaced = replaced_in file }

abbrev pub salvage_answer : ℕ → Lent → ℕ → List ℕ → Answer Salvaged
salvage_answer capacity lent list file = unless (salvage_refusal capacity lent list file) (salvaged_of capacity file)

-- how many samples come to be stored: all of them, and none where a row refuses
abbrev pub salvage_count : ℕ → Lent → ℕ → List ℕ → ℕ
salvage_count capacity lent list file = unrefused (salvage_refusal capacity lent list file) (heading_in file).len

-- the list afterwards: the stretches' numbers, none of them where a row refuses, then what stood there
abbrev pub salvage_list : ℕ → Lent → List ℕ → List ℕ → List ℕ
salvage_list capacity lent list file = written_to (unrefused (salvage_refusal capacity lent (length list) file) (list_need file)) (pairs_of (stretches_of file)) list
