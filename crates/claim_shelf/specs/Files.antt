-- What shelf files promise, over any two calls that write and read them: those of the library, and the exports. 02: CR 7.
-- `Write st m output answer output'`: of store st and memory m, into an output, with this answer, a length or a refusal, and this output after it.
-- `Read capacity file m answer m'`: of a file, into a new store of a capacity and memory m, with this answer, the record or a refusal, and this memory after it.
-- No range is asked of record, memory, output and capacity, beyond what a statement names; a file is bytes, and so are stored samples.
use Rattle.std.specs.Prelude.{◌≡◌, false, List, ◌++◌, ◌↔◌, ℕ, ◌*◌, ◌≤◌, ◌<◌, length, get_or, set, take, drop}
use Rattle.rules.specs.Sample.{sample_of, list_from}
use Rattle.rules.specs.SampleBytes.{Bytes}
use Rattle.rules.specs.Answer.{Answer, refused, given}
use Rattle.rules.specs.Refusal.{Store, lent_short}
use Rattle.rules.specs.Shelf.{HasFile, heading_of, filed_of}
use Rattle.rules.specs.ShelfCalls.{capacity_wrong, store_in}
use Rattle.capture.specs.declared.Capture.{Capture}
use Rattle.capture.specs.Record.{store_of, lent_of}
use Rattle.claim_captures.specs.Words.{Memory, levels}
use Rattle.claim_captures.specs.Claim.{Held}

-- the samples that a store holds
abbrev pub run_in : Store → Memory → List ℕ
run_in st m = list_from (sample_of st.unit m.samples) 0 st.len

abbrev pub StoredBytes : Store → Memory → Type 0
StoredBytes st m = Bytes (take (st.len * st.unit) m.samples)

-- a sufficient capacity, and memory for it
pub record Enough (capacity : ℕ) (st : Store) (m : Memory) : Type 0 where
  pub right : capacity_wrong capacity ≡ false
  pub holds : st.len ≤ capacity
  pub lent : lent_short (store_in capacity (heading_of st)) (lent_of m.samples (levels m)) ≡ false

-- the same capture in a store of that capacity, "levels are built afresh"
pub record Same (capacity : ℕ) (st : Store) (m : Memory) (answer : Answer Store) (m' : Memory) : Type 0 where
  pub answer_is : answer ≡ given (store_in capacity (heading_of st))
  pub held : (c : Capture) → store_of c ≡ store_in capacity (heading_of st) → Held (run_in st m) st.mark c m'

module _ (Write : Store → Memory → List ℕ → Answer ℕ → List ℕ → Type 0) (Read : ℕ → List ℕ → Memory → Answer Store → Memory → Type 0) where
  pub record Files : Type 0 where
    -- "with 16 a file that no capture has"
    pub refuses_others : (capacity : ℕ) (file : List ℕ) (m : Memory) (answer : Answer Store) (m' : Memory)
        → Bytes file → capacity_wrong capacity ≡ false → Read capacity file m answer m'
        → (answer ≡ refused 16) ↔ (HasFile file → ⊥)
    -- "each capture has one file": what is written depends on what is filed alone, and no other capture has it
    pub one_file : (st₁ : Store) (m₁ : Memory) (output₁ : List ℕ) (n₁ : ℕ) (output₁' : List ℕ) (st₂ : Store) (m₂ : Memory) (output₂ : List ℕ) (n₂ : ℕ) (output₂' : List ℕ)
        → Write st₁ m₁ output₁ (given n₁) output₁' → Write st₂ m₂ output₂ (given n₂) output₂'
        → (take n₁ output₁' ≡ take n₂ output₂') ↔ (filed_of st₁ m₁.samples ≡ filed_of st₂ m₂.samples)
    -- "Writing and reading undo each other": a capture that was written is read,
    pub reads_back : (st : Store) (m : Memory) (output : List ℕ) (n : ℕ) (output' : List ℕ) → StoredBytes st m → Write st m output (given n) output'
        → (capacity : ℕ) (m₂ : Memory) (answer : Answer Store) (m₂' : Memory) → Enough capacity st m₂ → Read capacity (take n output') m₂ answer m₂'
        → Same capacity st m answer m₂'
    -- and a file that was read is written; what stood behind it in the output stays
    pub writes_back : (capacity : ℕ) (file : List ℕ) (m : Memory) (st : Store) (m' : Memory) → Bytes file → Read capacity file m (given st) m'
        → (output : List ℕ) (answer : Answer ℕ) (output' : List ℕ) → length file ≤ length output → Write st m' output answer output'
        → (answer ≡ given (length file)) × (output' ≡ file ++ drop (length file) output)
    -- "one changed byte in a file never passes", and then nothing is written
    pub changed_refused : (st : Store) (m : Memory) (output : List ℕ) (n : ℕ) (output' : List ℕ) → StoredBytes st m → Write st m output (given n) output'
        → (place byte : ℕ) → place < n → byte < 256 → (byte ≡ get_or output' place 0 → ⊥)
        → (capacity : ℕ) (m₂ : Memory) (answer : Answer Store) (m₂' : Memory) → capacity_wrong capacity ≡ false → Read capacity (set (take n output') place byte) m₂ answer m₂'
        → (answer ≡ refused 16) × (m₂' ≡ m₂)
    -- there is always something that each call may answer and leave
    pub may_write : (st : Store) (m : Memory) (output : List ℕ) → (answer : Answer ℕ) × (output' : List ℕ) × Write st m output answer output'
    pub may_read : (capacity : ℕ) (file : List ℕ) (m : Memory) → (answer : Answer Store) × (m' : Memory) × Read capacity file m answer m'
