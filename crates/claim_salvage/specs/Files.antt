-- What salvaging promises, over any call that salvages, beside any that write and read shelf files: those of the library, and the exports. 02: CR 8.
-- `Write` and `Read` are as in claim_shelf's `Files`.
-- `Salvage capacity file m list answer m' list'`: of a file, into a new store of a capacity and memory m, with a lent list; this answer, what was salvaged or a refusal, and this memory and list after it.
-- No range is asked of capacity, memory and list, beyond what a statement names; a file is any list of bytes.
use Rattle.std.specs.Prelude.{◌≡◌, Bool, true, false, cond, not, List, ◌↔◌, ℕ, ◌*◌, ◌/◌, ◌≤◌, ◌<◌, eqb, length, get_or, set, take, drop}
use Rattle.rules.specs.Sample.{sample_of}
use Rattle.rules.specs.SampleBytes.{Bytes}
use Rattle.rules.specs.Answer.{Answer, refused, given, seen}
use Rattle.rules.specs.Refusal.{Store}
use Rattle.rules.specs.Block.{block_size}
use Rattle.rules.specs.Shelf.{Begins, heading_of, file_len, heading_in, bytes_in}
use Rattle.rules.specs.ShelfCalls.{capacity_wrong, store_in}
use Rattle.rules.specs.Stretches.{Stretch, covers, apart, places_of, pairs_in}
use Rattle.rules.specs.Salvage.{block_of_sample, is_known, AgreeOutside, Salvaged}
use Rattle.capture.specs.declared.Capture.{Capture}
use Rattle.capture.specs.Record.{store_of}
use Rattle.claim_captures.specs.Words.{Memory}
use Rattle.claim_captures.specs.Claim.{Held}
use Rattle.claim_shelf.specs.Files.{run_in, StoredBytes}

-- ---- what an answer tells
-- the stretches in the list
abbrev pub told_in : Salvaged → List ℕ → List Stretch
told_in s list = pairs_in (take (2 * s.stretches) list)

-- place i lies in one of them
abbrev pub unknown : Salvaged → List ℕ → ℕ → Bool
unknown s list i = covers (told_in s list) i

-- sample i of the store
abbrev pub sample_in : Salvaged → Memory → ℕ → ℕ
sample_in s m i = sample_of s.store.unit m.samples i

-- the block that it was in
abbrev pub home_of : Salvaged → ℕ → ℕ
home_of s i = block_of_sample (heading_of s.store) i

-- ---- what holds of it
-- of a file that was salvaged: "the store, the number of stretches and that of samples replaced", the samples, the levels and the list
pub record Reported (capacity : ℕ) (file list : List ℕ) (s : Salvaged) (m' : Memory) (list' : List ℕ) : Type 0 where
  pub store_is : s.store ≡ store_in capacity (heading_in file)
  -- "Samples wholly within good blocks land at their own places. The others are stored as zero"
  pub samples_are : (i : ℕ) → i < s.store.len → sample_in s m' i ≡ cond (is_known file i) (sample_of s.store.unit (bytes_in file) i) 0
  pub held : Bytes file → (c : Capture) → store_of c ≡ s.store → Held (run_in s.store m') s.store.mark c m'
  -- "and reported in a lent list as unknown stretches": exactly the others
  pub unknown_are : (i : ℕ) → i < s.store.len → unknown s list' i ≡ not (is_known file i)
  -- "in rising order, none touching the next", none empty, none past len
  pub in_order : apart 0 s.store.len (told_in s list') ≡ true
  pub stretches_are : length (told_in s list') ≡ s.stretches
  pub replaced_are : places_of (told_in s list') ≡ s.replaced
  -- what the list held behind them stays
  pub room : 2 * s.stretches ≤ length list
  pub behind : drop (2 * s.stretches) list' ≡ drop (2 * s.stretches) list

-- of two files that agree outside the damage: equal records, and there equal samples and equal knownness
pub record Agreed (damaged : ℕ → Bool) (answer₁ : Answer Salvaged) (m₁' : Memory) (list₁' : List ℕ) (answer₂ : Answer Salvaged) (m₂' : Memory) (list₂' : List ℕ) : Type 0 where
  pub records : seen (λ (s : Salvaged). s.store) answer₁ ≡ seen (λ (s : Salvaged). s.store) answer₂
  pub outside : (s₁ s₂ : Salvaged) → answer₁ ≡ given s₁ → answer₂ ≡ given s₂ → (i : ℕ) → i < s₁.store.len → damaged (home_of s₁ i) ≡ false
      → (sample_in s₁ m₁' i ≡ sample_in s₂ m₂' i) × (unknown s₁ list₁' i ≡ unknown s₂ list₂' i)

-- of a capture whose file was damaged: it is salvaged, and outside the damage its samples are there, all known
pub record Survives (damaged : ℕ → Bool) (capacity : ℕ) (st : Store) (m : Memory) (answer : Answer Salvaged) (m' : Memory) (list' : List ℕ) : Type 0 where
  pub salvaged : Salvaged
  pub answer_is : answer ≡ given salvaged
  pub store_is : salvaged.store ≡ store_in capacity (heading_of st)
  pub outside : (i : ℕ) → i < st.len → damaged (block_of_sample (heading_of st) i) ≡ false
      → (sample_in salvaged m' i ≡ sample_of st.unit m.samples i) × (unknown salvaged list' i ≡ false)

-- of one with one byte changed in this block: exactly its samples are unknown
pub record OneLost (block capacity : ℕ) (st : Store) (answer : Answer Salvaged) (list' : List ℕ) : Type 0 where
  pub salvaged : Salvaged
  pub answer_is : answer ≡ given salvaged
  pub store_is : salvaged.store ≡ store_in capacity (heading_of st)
  pub lost : (i : ℕ) → i < st.len → unknown salvaged list' i ≡ eqb (block_of_sample (heading_of st) i) block

-- beside a reading of the same file into the same memory: it is read exactly when salvaging finds no stretch and the length is exact, and then both leave the same
pub record AsRead (file : List ℕ) (answer : Answer Store) (m₁' : Memory) (list : List ℕ) (answer₂ : Answer Salvaged) (m₂' : Memory) (list' : List ℕ) : Type 0 where
  pub exactly : (st : Store) → (answer ≡ given st) ↔ ((answer₂ ≡ given (record { store = st; stretches = 0; replaced = 0 })) × (length file ≡ file_len (heading_of st)))
  pub same : (st : Store) → answer ≡ given st → (m₁' ≡ m₂') × (list' ≡ list)

module _ (Write : Store → Memory → List ℕ → Answer ℕ → List ℕ → Type 0) (Read : ℕ → List ℕ → Memory → Answer Store → Memory → Type 0)
    (Salvage : ℕ → List ℕ → Memory → List ℕ → Answer Salvaged → Memory → List ℕ → Type 0) where
  pub record Salvages : Type 0 where
    -- "It refuses with 17 a block 0 that is missing, bad or such as no capture has"
    pub refuses_others : (capacity : ℕ) (file : List ℕ) (m : Memory) (list : List ℕ) (answer : Answer Salvaged) (m' : Memory) (list' : List ℕ)
        → Bytes file → capacity_wrong capacity ≡ false → Salvage capacity file m list answer m' list'
        → (answer ≡ refused 17) ↔ (Begins file → ⊥)
    -- a refusal leaves memory and list
    pub refused_leaves : (capacity : ℕ) (file : List ℕ) (m : Memory) (list : List ℕ) (n : ℕ) (m' : Memory) (list' : List ℕ)
        → Salvage capacity file m list (refused n) m' list' → (m' ≡ m) × (list' ≡ list)
    -- 1: what was salvaged is what the file's good blocks hold, and the list tells of the rest
    pub reports : (capacity : ℕ) (file : List ℕ) (m : Memory) (list : List ℕ) (s : Salvaged) (m' : Memory) (list' : List ℕ)
        → Salvage capacity file m list (given s) m' list' → Reported capacity file list s m' list'
    -- 2: "Damage confined to some blocks other than block 0 changes no sample of any other block, unless 15 is given": of any two files
    pub agree : (damaged : ℕ → Bool) (f g : List ℕ) → AgreeOutside damaged f g
        → (capacity : ℕ) (m₁ : Memory) (list₁ : List ℕ) (answer₁ : Answer Salvaged) (m₁' : Memory) (list₁' : List ℕ) → Salvage capacity f m₁ list₁ answer₁ m₁' list₁' → (answer₁ ≡ refused 15 → ⊥)
        → (m₂ : Memory) (list₂ : List ℕ) (answer₂ : Answer Salvaged) (m₂' : Memory) (list₂' : List ℕ) → Salvage capacity g m₂ list₂ answer₂ m₂' list₂' → (answer₂ ≡ refused 15 → ⊥)
        → Agreed damaged answer₁ m₁' list₁' answer₂ m₂' list₂'
    -- 3: of a capture's file
    pub survives : (st : Store) (m : Memory) (output : List ℕ) (n : ℕ) (output' : List ℕ) → StoredBytes st m → Write st m output (given n) output'
        → (damaged : ℕ → Bool) (file : List ℕ) → AgreeOutside damaged file (take n output')
        → (capacity : ℕ) (m₂ : Memory) (list : List ℕ) (answer : Answer Salvaged) (m₂' : Memory) (list' : List ℕ) → capacity_wrong capacity ≡ false → Salvage capacity file m₂ list answer m₂' list'
        → (answer ≡ refused 15 → ⊥) → Survives damaged capacity st m answer m₂' list'
    -- one changed byte in block 0 is refused, and in another block it costs that block's samples
    pub changed : (st : Store) (m : Memory) (output : List ℕ) (n : ℕ) (output' : List ℕ) → StoredBytes st m → Write st m output (given n) output'
        → (place byte : ℕ) → place < n → byte < 256 → (byte ≡ get_or output' place 0 → ⊥)
        → (capacity : ℕ) (m₂ : Memory) (list : List ℕ) (answer : Answer Salvaged) (m₂' : Memory) (list' : List ℕ) → capacity_wrong capacity ≡ false → Salvage capacity (set (take n output') place byte) m₂ list answer m₂' list'
        → (place / block_size ≡ 0 → answer ≡ refused 17) × ((place / block_size ≡ 0 → ⊥) → (answer ≡ refused 15 → ⊥) → OneLost (place / block_size) capacity st answer list')
    -- 4: beside reading
    pub as_read : (capacity : ℕ) (file : List ℕ) (m : Memory) (answer : Answer Store) (m₁' : Memory) → Read capacity file m answer m₁'
        → (list : List ℕ) (answer₂ : Answer Salvaged) (m₂' : Memory) (list' : List ℕ) → Salvage capacity file m list answer₂ m₂' list' → AsRead file answer m₁' list answer₂ m₂' list'
    -- there is always something that the call may answer and leave
    pub may_salvage : (capacity : ℕ) (file : List ℕ) (m : Memory) (list : List ℕ) → (answer : Answer Salvaged) × (m' : Memory) × (list' : List ℕ) × Salvage capacity file m list answer m' list'
