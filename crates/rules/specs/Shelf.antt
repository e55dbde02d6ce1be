-- Shelf files: the file of a capture, what a file holds, and which files some capture has. 02: CR 7.
use Rattle.std.specs.Prelude.{◌≡◌, Bool, true, false, cond, not, ◌&&◌, ◌||◌, List, [], ◌∷◌, ◌++◌, ℕ, zero, suc, ◌+◌, ◌-◌, ◌*◌, ◌/◌, ◌≤◌, min, ltb, leb, eqb, length, get_or, take, drop}
use Rattle.std.specs.Prelude.{Option, None, Some}
use Rattle.rules.specs.Sample.{little}
use Rattle.rules.specs.SampleBytes.{sample_bytes, Bytes}
use Rattle.rules.specs.Refusal.{Store, most_samples, mark_flag, mark_place, unit_wrong, mark_wrong, store_wrong, samples_need}
use Rattle.rules.specs.Block.{block_size, payload_at, payload_most, zeros, block_of, same_bytes, field, good_block}

-- ---- what is filed
-- what block 0 says of a capture
pub record Heading : Type 0 where
  pub unit : ℕ
  pub mark : Option ℕ
  pub len : ℕ

-- a capture, as far as its file goes
pub record Filed : Type 0 where
  pub heading : Heading
  pub bytes : List ℕ

abbrev pub heading_of : Store → Heading
heading_of st = record { unit = st.unit; mark = st.mark; len = st.len }

-- of a store, and the sample memory lent to it: its stored bytes, and nothing of its capacity, its levels and the memory past them
abbrev pub filed_of : Store → List ℕ → Filed
filed_of st samples = record { heading = heading_of st; bytes = take (st.len * st.unit) samples }

-- ---- the file
-- "Block 0 holds 18 bytes: unit, 1 if there is a mark else 0, len in 8 bytes, mark in 8 (0 if none)."
abbrev pub head_size : ℕ
head_size = 18

unfoldable pub head_bytes : Heading → List ℕ
head_bytes h = h.unit ∷ mark_flag h.mark ∷ (sample_bytes 8 h.len ++ sample_bytes 8 (mark_place h.mark))

-- "The rest hold sample bytes, 500 each, the last 1 to 500.": how many blocks n bytes take
abbrev pub blocks_for : ℕ → ℕ
blocks_for n = (n + (payload_most - 1)) / payload_most

-- and k of them, from this block number on
unfoldable pub blocks_of : ℕ → ℕ → List ℕ → List ℕ
blocks_of zero number bytes = []
blocks_of (suc k) number bytes = block_of number (take payload_most bytes) ++ blocks_of k (number + 1) (drop payload_most bytes)

unfoldable pub file_of : Filed → List ℕ
file_of c = block_of 0 (head_bytes c.heading) ++ blocks_of (blocks_for (length c.bytes)) 1 c.bytes

-- how many sample bytes there are, and how long the file is
abbrev pub bytes_for : Heading → ℕ
bytes_for h = h.len * h.unit

abbrev pub file_len : Heading → ℕ
file_len h = block_size * (1 + blocks_for (bytes_for h))

-- ---- which files there are
-- "a file that no capture has" is one without this: some record passes row 1, and some sample memory row 2, and its file is this one.
-- `file_test` decides it (rules.proofs.Shelf.has_file).
pub record HasFile (file : List ℕ) : Type 0 where
  pub store : Store
  pub samples : List ℕ
  pub ranged : store_wrong store ≡ false
  pub lent : samples_need store ≤ length samples
  pub bytes : Bytes samples
  pub file_is : file_of (filed_of store samples) ≡ file

-- some capture's file begins with these 512 bytes: the test of block 0 decides it (rules.proofs.Shelf.begins)
pub record Begins (f : List ℕ) : Type 0 where
  pub file : List ℕ
  pub has : HasFile file
  pub room : block_size ≤ length f
  pub same : take block_size file ≡ take block_size f

-- ---- what a file says, whatever it holds
-- the fields of block 0 stand from place 12 on
abbrev pub flag_in : List ℕ → ℕ
flag_in file = get_or file 13 0

unfoldable pub heading_in : List ℕ → Heading
heading_in file = record { unit = get_or file payload_at 0; mark = cond (eqb (flag_in file) 0) None (Some (little 8 file 22)); len = little 8 file 14 }

-- the payloads of k blocks, one after the other
unfoldable pub payloads : ℕ → List ℕ → List ℕ
payloads zero blocks = []
payloads (suc k) blocks = take payload_most (drop payload_at blocks) ++ payloads k (drop block_size blocks)

-- the sample bytes, and the whole
unfoldable pub bytes_in : List ℕ → List ℕ
bytes_in file = take (bytes_for (heading_in file)) (payloads (blocks_for (bytes_for (heading_in file))) (drop block_size file))

abbrev pub filed_in : List ℕ → Filed
filed_in file = record { heading = heading_in file; bytes = bytes_in file }

-- ---- tested
-- no store, whatever its capacity, has these numbers
abbrev pub heading_wrong : Heading → Bool
heading_wrong h = unit_wrong h.unit || (ltb most_samples h.len || mark_wrong h.mark h.len)

-- the flag is 0 and the mark's bytes are, or it is 1
abbrev pub mark_bytes_right : List ℕ → Bool
mark_bytes_right file = cond (eqb (flag_in file) 0) (same_bytes (field 22 30 file) (zeros 8)) (eqb (flag_in file) 1)

-- the first 512 bytes are block 0 of some capture's file
unfoldable pub head_test : List ℕ → Bool
head_test file =
    leb block_size (length file)
    && (good_block 0 head_size (take block_size file)
    && (mark_bytes_right file
    && not (heading_wrong (heading_in file))))

-- k good blocks from this number on, which hold n bytes
unfoldable pub good_blocks : ℕ → ℕ → ℕ → List ℕ → Bool
good_blocks zero number n blocks = true
good_blocks (suc k) number n blocks =
    good_block number (min payload_most n) (take block_size blocks) && good_blocks k (number + 1) (n - payload_most) (drop block_size blocks)

-- block 0, then the blocks that it calls for, and no more
unfoldable pub file_test : List ℕ → Bool
file_test file =
    head_test file
    && (eqb (length file) (file_len (heading_in file))
    && good_blocks (blocks_for (bytes_for (heading_in file))) 1 (bytes_for (heading_in file)) (drop block_size file))
