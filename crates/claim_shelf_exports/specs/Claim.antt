-- Shelf files over the exports, to be held beside include/logic_core.h: `Files` (claim_shelf) says what is promised. 02: CR 7.
-- A record's numbers are five; no range is asked of them, of memory, output and capacity, nor of what stands behind an out pointer.
use Rattle.std.specs.Prelude.{◌≡◌, List, ℕ, length, take, Option}
use contract.Lifetimes.{Lfts}
use denote.Ref.{at_last}
use Rattle.rules.specs.Answer.{Answer, unless}
use Rattle.rules.specs.Refusal.{Store}
use Rattle.capture.specs.Record.{store_of}
use Rattle.codes.specs.Record.{capture_in}
use Rattle.logic_core.proofs.shelf.lc_write.Reads as lc-write
use Rattle.logic_core.proofs.shelf.lc_read.Reads as lc-read
use Rattle.claim_captures.specs.Words.{Memory, Ref, Places, lending_mut, shown_at}
use Rattle.claim_captures.specs.Claim.{Held}
use Rattle.claim_shelf.specs.Files.{Enough, Files}
use Rattle.claim_exports.specs.Questions.{One, lending, LookAlike}
use Rattle.claim_exports.specs.Claim.{Recording, asked}

-- lc_write may give a code, and leave this length and this output
abbrev pub MayWrite : List ℕ → Memory → List ℕ → ℕ → ℕ → ℕ → List ℕ → Type 0
MayWrite numbers m output old code new output' =
    (κs : Lfts 5) × (n : Ref) × (p : Places) × (o : Ref) × (k : One)
    × lc-write.Post κs (lending (shown_at n numbers) p m (at_last o output, (at_last k old, tt))) code (lending (shown_at n numbers) p m (at_last o output', (at_last k new, tt)))

-- lc_read may give a code, and leave these numbers and this memory
abbrev pub MayRead : ℕ → List ℕ → Memory → List ℕ → ℕ → List ℕ → Memory → Type 0
MayRead capacity file m numbers code numbers' m' =
    (κs : Lfts 7) × (p : Places) × (f n : Ref)
    × lc-read.Post κs (capacity, lending_mut (shown_at f file) p m (at_last n numbers, tt)) code (capacity, lending_mut (shown_at f file) p m' (at_last n numbers', tt))

-- what they say: code 0 with the length or the record behind the pointer, or the number of a refusal
abbrev pub Writes : Store → Memory → List ℕ → Answer ℕ → List ℕ → Type 0
Writes st m output answer output' =
    (numbers : List ℕ) × (old code new : ℕ) × (store_of (capture_in numbers) ≡ st) × MayWrite numbers m output old code new output' × (unless code new ≡ answer)

abbrev pub Reads : ℕ → List ℕ → Memory → Answer Store → Memory → Type 0
Reads capacity file m answer m' =
    (numbers : List ℕ) × (length numbers ≡ 5) × (code : ℕ) × (numbers' : List ℕ) × MayRead capacity file m numbers code numbers' m' × (unless code (store_of (capture_in numbers')) ≡ answer)

-- ---- the claims
abbrev pub FilesUndone : Type 0
FilesUndone = Files Writes Reads

-- a capture with right levels, however it was made, and what was read from its file look alike to every viewer
abbrev pub FiledAlike : Type 0
FiledAlike =
    (run : List ℕ) (mark : Option ℕ) (numbers : List ℕ) (m : Memory) → Held run mark (capture_in numbers) m
    → (output : List ℕ) (old n : ℕ) (output' : List ℕ) → MayWrite numbers m output old 0 n output'
    → (capacity : ℕ) (m₂ : Memory) (blank numbers₂ : List ℕ) (m₂' : Memory) → length blank ≡ 5 → Enough capacity (store_of (capture_in numbers)) m₂
    → MayRead capacity (take n output') m₂ blank 0 numbers₂ m₂'
    → (v : ℕ) → LookAlike v numbers m numbers₂ m₂'

-- a recording of lc_feeder_start and lc_push too
abbrev pub RecordingsFiled : Type 0
RecordingsFiled =
    (r : Recording)
    → (output : List ℕ) (old n : ℕ) (output' : List ℕ) → MayWrite (asked r) r.memory.store output old 0 n output'
    → (capacity : ℕ) (m : Memory) (blank numbers : List ℕ) (m' : Memory) → length blank ≡ 5 → Enough capacity (store_of (capture_in (asked r))) m
    → MayRead capacity (take n output') m blank 0 numbers m'
    → (v : ℕ) → LookAlike v (asked r) r.memory.store numbers m'
