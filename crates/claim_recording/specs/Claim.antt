-- Demand 3: what is claimed of two recordings, and what must be believed of the words in it. 01: Lists of pushes.
-- A recording is a capture with right levels (Rattle.claim_captures.specs.Claim): how questions are asked of one and when two look alike is said there, once.
-- The claim speaks of the calls' own contracts. `Post` of a call's generated `Reads` is what its `ensures` says of the arguments, the answer, and the
-- memory after the call. For start over a slice of terms, which changes nothing, `MayStart` is its clause, as proofs/Clauses shows.
-- No range is asked of settings, memory and the viewer's lines; a push is of bytes.
use Rattle.std.specs.Prelude.{◌≡◌, Bool, List, [], ◌∷◌, ◌↔◌, ℕ, ◌+◌, ◌≤◌, ◌<◌, length, get_or}
use Rattle.std.specs.Prelude.{Option, Result, Ok}
use contract.Lifetimes.{Lfts}
use denote.Ref.{at_last}
use Rattle.rules.specs.Start.{start_rule, beside_in}
use Rattle.rules.specs.Sample.{sample_of}
use Rattle.rules.specs.Trigger.{Masks, waiting}
use Rattle.rules.specs.Selection.{Settings, Rule, rule_of, accepted, run_of, slot_of, beside_of, Reply, replies_of}
use Rattle.rules.specs.Selection as selected
use Rattle.rules.specs.Refusal.{Lent, start_refusal}
use Rattle.answer.specs.declared.Refusal.{Refusal}
use Rattle.capture.specs.declared.Capture.{Capture}
use Rattle.capture.specs.Record.{lent_of}
use Rattle.terms.specs.declared.TriggerTerm.{TriggerTerm}
use Rattle.feeder.specs.declared.Feeder.{Feeder}
use Rattle.feeder.specs.declared.Pretrigger.{Pretrigger}
use Rattle.feeder.specs.declared.Fresh.{Fresh}
use Rattle.feeder.specs.Record.{armed_as, recorder_of}
use Rattle.feeder.specs.Start.{started_of, settings_of}
use Rattle.feeder_push.specs.declared.Pushed.{Pushed}
use Rattle.feeder_push.specs.Push.{reply_as, feeder_in}
use Rattle.feeder_push.proofs.push.Reads as push
use Rattle.claim_captures.specs.Words.{levels, Same, AreBytes, Ref, Places, lending_mut, shown_at}
use Rattle.claim_captures.specs.Turns.{Replayed, Reversed}
use Rattle.claim_captures.specs.Claim.{Held, Answers, LookAlike, Additive, SaysTurns}
use Rattle.claim_captures.specs.Words as captures

-- ---- memory
-- "the memory lent to it, whatever that holds"
pub record Memory : Type 0 where
  pub store : captures.Memory
  pub ring : List ℕ

-- ---- what start and push may answer, by their contracts
-- what start was given
pub record Given : Type 0 where
  pub channels : ℕ
  pub capacity : ℕ
  pub limit : ℕ
  pub terms : List TriggerTerm
  pub wish : Pretrigger
  pub rate : ℕ

-- "Its settings are what start was given."
abbrev pub settings : Given → Settings
settings g = settings_of g.channels g.capacity g.limit g.terms g.wish g.rate

abbrev pub lengths : captures.Memory → Lent
lengths m = lent_of m.samples (levels m)

abbrev pub MayStart : Given → Memory → Result Fresh Refusal → Type 0
MayStart g m v = started_of v ≡ start_rule (settings g) (lengths m.store) (length m.ring)

-- push may answer v and leave m'
abbrev pub MayPush : Feeder → Memory → List ℕ → Result Pushed Refusal → Memory → Type 0
MayPush f m bytes v m' =
    (κs : Lfts 7) × (p : Places) × (g b : Ref)
    × push.Post κs (lending_mut f p m.store (at_last g m.ring, (shown_at b bytes, tt))) v (lending_mut f p m'.store (at_last g m'.ring, (shown_at b bytes, tt)))

-- ---- recordings
-- "each later one gets the record that the push before it returned and the same memory, whole, as that push left it", with what each was told.
-- Questions take shared slices and leave what they were lent, so they may stand between pushes
pub data Pushing : Feeder → Memory → List (List ℕ) → List Reply → Feeder → Memory → Type 0 where
  stop : {f : Feeder} {m : Memory} → Pushing f m [] [] f m
  step : {f : Feeder} {m : Memory} {bytes : List ℕ} {v : Result Pushed Refusal} {m' : Memory} {pushes : List (List ℕ)} {replies : List Reply} {f'' : Feeder} {m'' : Memory}
      → MayPush f m bytes v m'
      → Pushing (feeder_in f v) m' pushes replies f'' m''
      → Pushing f m (bytes ∷ pushes) (reply_as v ∷ replies) f'' m''

-- "A fresh recorder is the record that start gives, together with the memory lent to it, whatever that holds"; then a list of pushes
pub record Recording : Type 0 where
  pub setup : Given
  pub before : Memory
  pub fresh : Feeder
  pub was_cut : Bool
  pub started : MayStart setup before (Ok (record { feeder = fresh; cut = was_cut }))
  pub pushes : List (List ℕ)
  pub are_bytes : AreBytes pushes
  pub replies : List Reply
  pub feeder : Feeder
  pub memory : Memory
  pub pushed : Pushing fresh before pushes replies feeder memory

-- the store that questions take
abbrev pub store : Recording → Capture
store r = r.feeder.capture

-- ---- 1. selection: what 01 says of a list of pushes
abbrev pub ruled : Recording → Rule
ruled r = rule_of (settings r.setup)

-- the samples of the accepted pushes
abbrev pub all : Recording → List ℕ
all r = accepted (ruled r) r.pushes

-- "The run is what 01's selection rule takes from the accepted pushes of the list."
abbrev pub run : Recording → List ℕ
run r = run_of (ruled r) r.pushes

abbrev pub mark : Recording → Option ℕ
mark r = selected.mark_of (ruled r) r.pushes

pub record Selects (r : Recording) : Type 0 where
  -- "Length and mark are those in the record, and both are the run's."; so are the samples in memory, and the levels are right
  pub held : Held (run r) (mark r) (store r) r.memory.store
  -- refused with 8, complete, and going on, each exactly when 01 says
  pub replies_are : r.replies ≡ replies_of (ruled r) r.pushes
  -- armed or not, previous sample, ring place and kept count: while it waits, once it has fired, and where it was never armed
  pub beside_is : beside_in (recorder_of r.feeder) ≡ beside_of (ruled r) (all r)
  -- while it waits: "the armed sample numbered k, from 0, goes to slot k mod pre"
  pub slots : (masks : Masks) → armed_as r.feeder.masks ≡ waiting masks
      → (k : ℕ) → k < length (all r) → length (all r) ≤ k + (ruled r).pre → sample_of (ruled r).unit r.memory.ring (slot_of (ruled r).pre k) ≡ get_or (all r) k 0

-- ---- the claim
-- "start gives one whenever no row below refuses it": a recording of those settings, that memory and that list
pub record Exists (g : Given) (m : Memory) (pushes : List (List ℕ)) : Type 0 where
  pub recording : Recording
  pub setup_is : recording.setup ≡ g
  pub before_is : recording.before ≡ m
  pub pushes_are : recording.pushes ≡ pushes

abbrev pub Existence : Type 0
Existence = (g : Given) (m : Memory) → start_refusal (settings g) (lengths m.store) (length m.ring) ≡ 0 → (pushes : List (List ℕ)) → AreBytes pushes → Exists g m pushes

-- "For every two lists of pushes, refused ones included, each list from a fresh recorder with settings of its own: after them the two recordings look alike
-- to a viewer of chosen lines exactly when their runs have the same length, the same mark and the same chosen lines at every sample. .. Each of these
-- answers, from either recording, is 01's for its run.": asked "with the record and whole memory that the list leaves"
abbrev pub Demand3 : Type 0
Demand3 =
    (one two : Recording) (v : ℕ)
    → Selects one
    × Selects two
    × Answers (run one) (store one) one.memory.store
    × Answers (run two) (store two) two.memory.store
    × (LookAlike v (store one) one.memory.store (store two) two.memory.store ↔ Same v (run one) (mark one) (run two) (mark two))

-- 02, CR 5: what density answers after a recording adds up
abbrev pub DensitiesAdd : Type 0
DensitiesAdd = (r : Recording) → Additive (run r) (store r) r.memory.store

-- 02, CR 6: what encoder answers after a recording, whatever pushes it came in; and after two of which one's run is the other's in reverse
abbrev pub EncodersReplay : Type 0
EncodersReplay = (r : Recording) → Replayed (run r) (SaysTurns (store r) r.memory.store)

abbrev pub EncodersReverse : Type 0
EncodersReverse = (one two : Recording) → Reversed (run one) (SaysTurns (store one) one.memory.store) (run two) (SaysTurns (store two) two.memory.store)
