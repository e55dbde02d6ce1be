-- What reading answers and leaves. 02: CR 7.
use Rattle.std.specs.Prelude.{◌≡◌, List, [], ◌∷◌, ℕ, take, drop, Result}
use Rattle.rules.specs.Refusal.{Store, Lent, first_of}
use Rattle.rules.specs.Block.{block_size}
use Rattle.rules.specs.Shelf.{Heading, heading_of, blocks_for, file_len, heading_in, payloads, bytes_in}
use Rattle.rules.specs.ShelfCalls.{store_short, read_answer, read_count}
use Rattle.store.specs.Room.{StoreRoom}
use Rattle.store.specs.Stored.{Stored}
use Rattle.answer.specs.declared.Refusal.{Refusal}
use Rattle.answer.specs.Answered.{answer_of}
use Rattle.capture.specs.declared.Capture.{Capture}
use Rattle.capture.specs.Record.{store_of, lent_of}

-- the last row of a reading and of a salvaging: no store of this capacity and memory holds what block 0 says
abbrev pub room_refusal : ℕ → Lent → Heading → ℕ
room_refusal capacity lent h = first_of (record { number = 15; holds = store_short capacity lent h } ∷ [])

-- n bytes of samples behind block 0
abbrev pub bytes_behind : ℕ → List ℕ → List ℕ
bytes_behind n file = take n (payloads (blocks_for n) (drop block_size file))

-- a file of the right length, and memory for its samples and their nodes
pub record TakeRoom (st : Store) (file samples : ℕ) (levels : ℕ → List ℕ) : Type 0 where
  pub room : StoreRoom st.unit 0 st.len samples levels
  pub size : file ≡ file_len (heading_of st)

-- a call of read, over any memory: its answer, and the memory that it leaves, which is what append of all the file's samples to the fresh store leaves
pub record Reads (capacity : ℕ) (file samples : List ℕ) (levels : ℕ → List ℕ) (r : Result Capture Refusal) (samples' : List ℕ) (levels' : ℕ → List ℕ) : Type 0 where
  pub answer_is : answer_of store_of r ≡ read_answer capacity (lent_of samples levels) file
  pub memory : Stored (heading_in file).unit 0 (read_count capacity (lent_of samples levels) file) (bytes_in file) samples levels samples' levels'
