-- What searches across unknown stretches promise, over any calls that ask for them: those of the library, and the exports. 02: CR 9.
-- A capture is told by some C, whose record is `record_of` of it. `Looks v` is that two captures look alike to a viewer of lines v.
-- `Ask sure back c m list mask from answer`: the next, or back the previous, certain or possible change of a capture with a list of stretches, with this answer, a place,
-- none or a refusal. No range is asked of list, mask and place, beyond what a statement names.
use Rattle.std.specs.Prelude.{◌≡◌, Bool, true, false, not, ◌&&◌, ◌||◌, List, [], ◌∷◌, ◌↔◌, ℕ, ◌-◌, ◌*◌, ◌≤◌, ◌<◌, ltb, eqb, length, take}
use Rattle.std.specs.Prelude.{Option, Some}
use Rattle.rules.specs.Sample.{Word, Within}
use Rattle.rules.specs.SampleBytes.{Bytes}
use Rattle.rules.specs.Answer.{Answer, given, unless}
use Rattle.rules.specs.Refusal.{Store, first_of}
use Rattle.rules.specs.Search.{changed}
use Rattle.rules.specs.Block.{payload_most}
use Rattle.rules.specs.Shelf.{bytes_for, heading_in}
use Rattle.rules.specs.ShelfCalls.{capacity_wrong}
use Rattle.rules.specs.Stretches.{covers, pairs_in}
use Rattle.rules.specs.Salvage.{good_at, AgreeOutside, Salvaged}
use Rattle.rules.specs.Unknown.{Sureness, certain, possible, search_at, unknown_search, Change, Nearest, list_row}
use Rattle.capture.specs.declared.Capture.{Capture}
use Rattle.capture.specs.Record.{store_of}
use Rattle.claim_captures.specs.Words.{Memory, at, Same, Usize}
use Rattle.claim_captures.specs.Claim.{Held}
use Rattle.claim_shelf.specs.Files.{run_in, StoredBytes}

-- two runs hold the same outside the stretches
pub record KnownSame (list run₁ run₂ : List ℕ) : Type 0 where
  pub len : length run₁ ≡ length run₂
  pub samples : (i : ℕ) → i < length run₁ → covers (pairs_in list) i ≡ false → at run₁ i ≡ at run₂ i

-- every block of a file but block 0 and the good ones among those that block 0 calls for, which begin with byte 500 × (k − 1) of the samples
abbrev pub bad_in : List ℕ → ℕ → Bool
bad_in file k = not (eqb k 0 || (ltb (payload_most * (k - 1)) (bytes_for (heading_in file)) && good_at file k))

module _ {C : Type 0} (record_of : C → Capture) (Looks : ℕ → C → Memory → C → Memory → Type 0) (Ask : Sureness → Bool → C → Memory → List ℕ → ℕ → ℕ → Answer (Option ℕ) → Type 0) where
  -- ---- a capture that holds a run
  pub record Answers (run : List ℕ) (c : C) (m : Memory) : Type 0 where
    -- row 18 refuses, and else the answer is 02's for the run
    pub is : (sure : Sureness) (back : Bool) (list : List ℕ) (mask from : ℕ) (answer : Answer (Option ℕ)) → Ask sure back c m list mask from answer
        → answer ≡ unless (first_of (list_row (length run) list ∷ [])) (unknown_search sure back (record_of c).unitsize (at run) (length run) (pairs_in list) mask from)
    -- 2: "certain change (there for every filling) and possible change (there for some filling)": the first of them on the search's way, "with none exactly when there is none"
    pub meant : (sure : Sureness) (back : Bool) (list : List ℕ) (mask from : ℕ) (found : Option ℕ) → Ask sure back c m list mask from (given found)
        → Nearest back (Change sure (record_of c).unitsize (length run) (covers (pairs_in list)) (at run) mask) (length run) from found
    -- "Without stretches both equal the ordinary search."
    pub ordinary : (sure : Sureness) (back : Bool) (mask from : ℕ) (answer : Answer (Option ℕ)) → Ask sure back c m [] mask from answer
        → answer ≡ given (search_at back (changed (at run) mask) (length run) from)
    -- there is always something that the call may answer
    pub may : (sure : Sureness) (back : Bool) (list : List ℕ) (mask from : ℕ) → (answer : Answer (Option ℕ)) × Ask sure back c m list mask from answer

  -- ---- two captures
  -- 3: "Alikeness over these answers is between captures of one unit, and the viewer sees the stretches too, so these must be equal."
  pub record LookAlike (v : ℕ) (c₁ : C) (m₁ : Memory) (list₁ : List ℕ) (c₂ : C) (m₂ : Memory) (list₂ : List ℕ) : Type 0 where
    pub captures : Looks v c₁ m₁ c₂ m₂
    pub lists : list₁ ≡ list₂
    pub searches : (sure : Sureness) (back : Bool) (mask from : ℕ) → Word mask → Within mask v → Usize from → (answer₁ answer₂ : Answer (Option ℕ))
        → Ask sure back c₁ m₁ list₁ mask from answer₁ → Ask sure back c₂ m₂ list₂ mask from answer₂ → answer₁ ≡ answer₂

  pub record Searches : Type 0 where
    pub answers : (run : List ℕ) (mark : Option ℕ) (c : C) (m : Memory) → Held run mark (record_of c) m → Answers run c m
    -- they look alike, these answers and refusals counted, exactly when the runs are the same on the viewer's lines and the lists are equal
    pub alike : (run₁ : List ℕ) (mark₁ : Option ℕ) (c₁ : C) (m₁ : Memory) (run₂ : List ℕ) (mark₂ : Option ℕ) (c₂ : C) (m₂ : Memory)
        → Held run₁ mark₁ (record_of c₁) m₁ → Held run₂ mark₂ (record_of c₂) m₂ → (record_of c₁).unitsize ≡ (record_of c₂).unitsize
        → (v : ℕ) (list₁ list₂ : List ℕ) → LookAlike v c₁ m₁ list₁ c₂ m₂ list₂ ↔ (Same v run₁ mark₁ run₂ mark₂ × (list₁ ≡ list₂))
    -- what is stored inside stretches never matters
    pub insides : (run₁ : List ℕ) (mark₁ : Option ℕ) (c₁ : C) (m₁ : Memory) (run₂ : List ℕ) (mark₂ : Option ℕ) (c₂ : C) (m₂ : Memory)
        → Held run₁ mark₁ (record_of c₁) m₁ → Held run₂ mark₂ (record_of c₂) m₂ → (record_of c₁).unitsize ≡ (record_of c₂).unitsize
        → (list : List ℕ) → KnownSame list run₁ run₂
        → (sure : Sureness) (back : Bool) (mask from : ℕ) (answer₁ answer₂ : Answer (Option ℕ))
        → Ask sure back c₁ m₁ list mask from answer₁ → Ask sure back c₂ m₂ list mask from answer₂ → answer₁ ≡ answer₂

  -- ---- 4: what was salvaged
  -- what holds of searches in a salvaged capture, with the stretches that salvaging told
  pub record Across (Write : Store → Memory → List ℕ → Answer ℕ → List ℕ → Type 0) (file : List ℕ) (s : Salvaged) (c : C) (m : Memory) (list : List ℕ) : Type 0 where
    -- the list is never refused
    pub accepted : (sure : Sureness) (back : Bool) (mask from : ℕ) (answer : Answer (Option ℕ)) → Ask sure back c m list mask from answer → (found : Option ℕ) × (answer ≡ given found)
    -- a certain change is a change of every capture whose file has the good blocks of this one,
    pub certains : (st : Store) (m₀ : Memory) (output : List ℕ) (n : ℕ) (output' : List ℕ) → StoredBytes st m₀ → Write st m₀ output (given n) output' → AgreeOutside (bad_in file) file (take n output')
        → (back : Bool) (mask from i : ℕ) → Ask certain back c m list mask from (given (Some i)) → changed (at (run_in st m₀)) mask i ≡ true
    -- and each change of such a capture is a possible one: asked from the place before, it is found
    pub possibles : (st : Store) (m₀ : Memory) (output : List ℕ) (n : ℕ) (output' : List ℕ) → StoredBytes st m₀ → Write st m₀ output (given n) output' → AgreeOutside (bad_in file) file (take n output')
        → (mask i : ℕ) → 1 ≤ i → i < st.len → changed (at (run_in st m₀)) mask i ≡ true
        → (answer : Answer (Option ℕ)) → Ask possible false c m list mask (i - 1) answer → answer ≡ given (Some i)

  -- `Write` and `Salvage` are as in claim_salvage's `Salvages`
  abbrev pub SalvagedSearched : (Store → Memory → List ℕ → Answer ℕ → List ℕ → Type 0) → (ℕ → List ℕ → Memory → List ℕ → Answer Salvaged → Memory → List ℕ → Type 0) → Type 0
  SalvagedSearched Write Salvage =
      (capacity : ℕ) (file : List ℕ) (m : Memory) (list : List ℕ) (s : Salvaged) (m' : Memory) (list' : List ℕ)
      → capacity_wrong capacity ≡ false → Bytes file → Salvage capacity file m list (given s) m' list'
      → (c : C) → store_of (record_of c) ≡ s.store
      → Across Write file s c m' (take (2 * s.stretches) list')

  -- ---- captures however they were made
  -- recorded or filled by appends, `Stored`, or read, or salvaged
  pub data Made (Stored : List ℕ → Option ℕ → C → Memory → Type 0) (Read : ℕ → List ℕ → Memory → Answer Store → Memory → Type 0)
      (Salvage : ℕ → List ℕ → Memory → List ℕ → Answer Salvaged → Memory → List ℕ → Type 0) : List ℕ → Option ℕ → C → Memory → Type 0 where
    stored : {run : List ℕ} {mark : Option ℕ} {c : C} {m : Memory} → Stored run mark c m → Made Stored Read Salvage run mark c m
    was_read : {capacity : ℕ} {file : List ℕ} {m : Memory} {st : Store} {m' : Memory} {c : C} → Bytes file → Read capacity file m (given st) m' → store_of (record_of c) ≡ st
        → Made Stored Read Salvage (run_in st m') st.mark c m'
    was_salvaged : {capacity : ℕ} {file : List ℕ} {m : Memory} {list : List ℕ} {s : Salvaged} {m' : Memory} {list' : List ℕ} {c : C} → Bytes file → Salvage capacity file m list (given s) m' list' → store_of (record_of c) ≡ s.store
        → Made Stored Read Salvage (run_in s.store m') s.store.mark c m'

  -- 3, of any two of them
  abbrev pub MadeAlike : (List ℕ → Option ℕ → C → Memory → Type 0) → (ℕ → List ℕ → Memory → Answer Store → Memory → Type 0) → (ℕ → List ℕ → Memory → List ℕ → Answer Salvaged → Memory → List ℕ → Type 0) → Type 0
  MadeAlike Stored Read Salvage =
      (run₁ : List ℕ) (mark₁ : Option ℕ) (c₁ : C) (m₁ : Memory) (run₂ : List ℕ) (mark₂ : Option ℕ) (c₂ : C) (m₂ : Memory)
      → Made Stored Read Salvage run₁ mark₁ c₁ m₁ → Made Stored Read Salvage run₂ mark₂ c₂ m₂ → (record_of c₁).unitsize ≡ (record_of c₂).unitsize
      → (v : ℕ) (list₁ list₂ : List ℕ) → LookAlike v c₁ m₁ list₁ c₂ m₂ list₂ ↔ (Same v run₁ mark₁ run₂ mark₂ × (list₁ ≡ list₂))
