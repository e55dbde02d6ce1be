-- Shelf files, over the calls' own contracts: `Post` of a call's generated `Reads` is what its `ensures` says. 02: CR 7. `Files` says what is promised.
use Rattle.std.specs.Prelude.{◌≡◌, List, ℕ, take}
use Rattle.std.specs.Prelude.{Option, Result, Ok}
use contract.Lifetimes.{Lfts}
use denote.Ref.{at_last}
use Rattle.rules.specs.Answer.{Answer}
use Rattle.rules.specs.Refusal.{Store}
use Rattle.answer.specs.declared.Refusal.{Refusal}
use Rattle.answer.specs.Answered.{answer_of}
use Rattle.capture.specs.declared.Capture.{Capture}
use Rattle.capture.specs.Record.{store_of}
use Rattle.shelf_head.specs.Head.{length_of}
use Rattle.shelf_write.proofs.write.Reads as write-call
use Rattle.shelf_read.proofs.read.Reads as read-call
use Rattle.claim_captures.specs.Words.{Memory, Ref, Places, lending, lending_mut, shown_at}
use Rattle.claim_captures.specs.Claim.{Held, LookAlike}
use Rattle.claim_recording.specs.Claim.{Recording, store}
use Rattle.claim_shelf.specs.Files.{Enough, Files}

-- write may answer v and leave this output
abbrev pub MayWrite : Capture → Memory → List ℕ → Result ℕ Refusal → List ℕ → Type 0
MayWrite c m output v output' = (κs : Lfts 2) × (p : Places) × (o : Ref) × write-call.Post κs (lending c p m (at_last o output, tt)) v (lending c p m (at_last o output', tt))

-- read may answer v and leave m'
abbrev pub MayRead : ℕ → List ℕ → Memory → Result Capture Refusal → Memory → Type 0
MayRead capacity file m v m' =
    (κs : Lfts 6) × (p : Places) × (f : Ref) × read-call.Post κs (capacity, lending_mut (shown_at f file) p m tt) v (capacity, lending_mut (shown_at f file) p m' tt)

-- their answers, as 02's
abbrev pub Writes : Store → Memory → List ℕ → Answer ℕ → List ℕ → Type 0
Writes st m output answer output' = (c : Capture) × (v : Result ℕ Refusal) × (store_of c ≡ st) × MayWrite c m output v output' × (length_of v ≡ answer)

abbrev pub Reads : ℕ → List ℕ → Memory → Answer Store → Memory → Type 0
Reads capacity file m answer m' = (v : Result Capture Refusal) × MayRead capacity file m v m' × (answer_of store_of v ≡ answer)

-- ---- the claims
abbrev pub FilesUndone : Type 0
FilesUndone = Files Writes Reads

-- a capture with right levels, however it was made, and what was read from its file look alike to every viewer
abbrev pub FiledAlike : Type 0
FiledAlike =
    (run : List ℕ) (mark : Option ℕ) (c : Capture) (m : Memory) → Held run mark c m
    → (output : List ℕ) (n : ℕ) (output' : List ℕ) → MayWrite c m output (Ok n) output'
    → (capacity : ℕ) (m₂ : Memory) (d : Capture) (m₂' : Memory) → Enough capacity (store_of c) m₂ → MayRead capacity (take n output') m₂ (Ok d) m₂'
    → (v : ℕ) → LookAlike v c m d m₂'

-- a recording too
abbrev pub RecordingsFiled : Type 0
RecordingsFiled =
    (r : Recording)
    → (output : List ℕ) (n : ℕ) (output' : List ℕ) → MayWrite (store r) r.memory.store output (Ok n) output'
    → (capacity : ℕ) (m : Memory) (d : Capture) (m' : Memory) → Enough capacity (store_of (store r)) m → MayRead capacity (take n output') m (Ok d) m'
    → (v : ℕ) → LookAlike v (store r) r.memory.store d m'
