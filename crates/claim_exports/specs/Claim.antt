-- Demand 3 over the exports: a program that starts recorders with lc_feeder_start and pushes with lc_push, to be held beside include/logic_core.h. 01: Lists of pushes.
-- What is asked of them, and when two look alike, is in Questions.
-- No range is asked of settings, memory and the viewer's lines; a push is of bytes, and a record's numbers are as many as the header says.
use Rattle.std.specs.Prelude.{◌≡◌, Bool, List, [], ◌∷◌, map, ◌↔◌, ℕ, Float, length, take, Option}
use contract.Lifetimes.{Lfts}
use denote.Ref.{at_last}
use Rattle.rules.specs.Selection.{Settings, Rule, rule_of, run_of, Reply, refused, going_on, complete, replies_of}
use Rattle.rules.specs.Selection as selected
use Rattle.rules.specs.Refusal.{start_refusal}
use Rattle.capture.specs.Record.{lent_of}
use Rattle.capture.specs.Numbers.{len_in}
use Rattle.feeder.specs.Start.{settings_of}
use Rattle.term_bytes.specs.Bytes.{terms_in}
use Rattle.feeder_codes.specs.Recorder.{wish_in}
use Rattle.logic_core.proofs.recorder.lc_feeder_start.Reads as lc-feeder-start
use Rattle.logic_core.proofs.recorder.lc_push.Reads as lc-push
use Rattle.claim_captures.specs.Words.{levels, Same, AreBytes, Ref, Places, lending_mut, shown_at}
use Rattle.claim_captures.specs.Words as words
use Rattle.claim_captures.specs.Turns.{Replayed, Reversed}
use Rattle.claim_exports.specs.Questions.{One, lending, mark_in, Answers, LookAlike, Additive, SaysTurns}

-- ---- recordings
-- "the memory lent to it, whatever that holds": a store's, and the ring
pub record Memory : Type 0 where
  pub store : words.Memory
  pub ring : List ℕ

-- what lc_feeder_start is given; terms are two bytes each
pub record Given : Type 0 where
  pub channels : ℕ
  pub capacity : ℕ
  pub limit : ℕ
  pub terms : List ℕ
  pub seconds : Bool
  pub wish : Float
  pub rate : ℕ

-- "Its settings are what start was given."
abbrev pub settings : Given → Settings
settings g = settings_of g.channels g.capacity g.limit (terms_in g.terms) (wish_in g.seconds g.wish) g.rate

-- lc_feeder_start may give a code and leave these numbers, and this flag behind `cut`
abbrev pub MayStart : Given → Memory → List ℕ → ℕ → ℕ → List ℕ → ℕ → Type 0
MayStart g m numbers cut code numbers' cut' =
    (κs : Lfts 6) × (t : Ref) × (p : Places) × (r n : Ref) × (o : One)
    × lc-feeder-start.Post κs
    (g.channels, (g.capacity, (g.limit, (shown_at t g.terms, (g.seconds, (g.wish, lending g.rate p m.store (shown_at r m.ring, (at_last n numbers, (at_last o cut, tt)))))))))
    code
    (g.channels, (g.capacity, (g.limit, (shown_at t g.terms, (g.seconds, (g.wish, lending g.rate p m.store (shown_at r m.ring, (at_last n numbers', (at_last o cut', tt)))))))))

-- lc_push may give a code and leave these numbers and this memory
abbrev pub MayPush : List ℕ → Memory → List ℕ → ℕ → List ℕ → Memory → Type 0
MayPush numbers m bytes code numbers' m' =
    (κs : Lfts 8) × (n : Ref) × (p : Places) × (r b : Ref)
    × lc-push.Post κs (lending_mut (at_last n numbers) p m.store (at_last r m.ring, (shown_at b bytes, tt))) code (lending_mut (at_last n numbers') p m'.store (at_last r m'.ring, (shown_at b bytes, tt)))

-- "each later one gets the record that the push before it returned and the same memory, whole, as that push left it"; with the code of each
pub data Pushing : List ℕ → Memory → List (List ℕ) → List ℕ → List ℕ → Memory → Type 0 where
  stop : {numbers : List ℕ} {m : Memory} → Pushing numbers m [] [] numbers m
  step : {numbers : List ℕ} {m : Memory} {bytes : List ℕ} {code : ℕ} {numbers' : List ℕ} {m' : Memory} {pushes : List (List ℕ)} {codes numbers'' : List ℕ} {m'' : Memory}
      → MayPush numbers m bytes code numbers' m'
      → Pushing numbers' m' pushes codes numbers'' m''
      → Pushing numbers m (bytes ∷ pushes) (code ∷ codes) numbers'' m''

-- "A fresh recorder is the record that start gives": code 0, whatever the numbers and the flag held; then a list of pushes, refused ones included
pub record Recording : Type 0 where
  pub setup : Given
  pub before : Memory
  pub blank : List ℕ
  pub seventeen : length blank ≡ 17
  pub cut : ℕ
  pub fresh : List ℕ
  pub was_cut : ℕ
  pub started : MayStart setup before blank cut 0 fresh was_cut
  pub pushes : List (List ℕ)
  pub are_bytes : AreBytes pushes
  pub codes : List ℕ
  pub numbers : List ℕ
  pub memory : Memory
  pub pushed : Pushing fresh before pushes codes numbers memory

abbrev pub ruled : Recording → Rule
ruled r = rule_of (settings r.setup)

-- "The run is what 01's selection rule takes from the accepted pushes of the list."
abbrev pub run : Recording → List ℕ
run r = run_of (ruled r) r.pushes

abbrev pub mark : Recording → Option ℕ
mark r = selected.mark_of (ruled r) r.pushes

-- "questions take a recorder's record as it is": its first five numbers
abbrev pub asked : Recording → List ℕ
asked r = take 5 r.numbers

-- 8, 100 once it is complete, and 0 while it goes on
abbrev pub code_of : Reply → ℕ
code_of (refused n) = n
code_of going_on = 0
code_of complete = 100

pub record Selects (r : Recording) : Type 0 where
  -- "Length and mark are those in the record, and both are the run's."
  pub len_is : len_in (asked r) ≡ length (run r)
  pub mark_is : mark_in (asked r) ≡ mark r
  -- refused with 8, complete, and going on, each exactly when 01 says
  pub codes_are : r.codes ≡ map code_of (replies_of (ruled r) r.pushes)

-- ---- the claim
-- "start gives one whenever no row below refuses it": a recording of those settings, that memory, those numbers and that list
pub record Exists (g : Given) (m : Memory) (blank : List ℕ) (pushes : List (List ℕ)) : Type 0 where
  pub recording : Recording
  pub setup_is : recording.setup ≡ g
  pub before_is : recording.before ≡ m
  pub blank_is : recording.blank ≡ blank
  pub pushes_are : recording.pushes ≡ pushes

abbrev pub Existence : Type 0
Existence =
    (g : Given) (m : Memory) → start_refusal (settings g) (lent_of m.store.samples (levels m.store)) (length m.ring) ≡ 0
    → (blank : List ℕ) → length blank ≡ 17 → (pushes : List (List ℕ)) → AreBytes pushes → Exists g m blank pushes

-- "For every two lists of pushes, refused ones included, each list from a fresh recorder with settings of its own: after them the two recordings look alike
-- to a viewer of chosen lines exactly when their runs have the same length, the same mark and the same chosen lines at every sample. .. Each of these
-- answers, from either recording, is 01's for its run."
abbrev pub Demand3 : Type 0
Demand3 =
    (one two : Recording) (v : ℕ)
    → Selects one
    × Selects two
    × Answers (run one) (asked one) one.memory.store
    × Answers (run two) (asked two) two.memory.store
    × (LookAlike v (asked one) one.memory.store (asked two) two.memory.store ↔ Same v (run one) (mark one) (run two) (mark two))

-- 02, CR 5: what lc_density gives after a recording adds up
abbrev pub DensitiesAdd : Type 0
DensitiesAdd = (r : Recording) → Additive (run r) (asked r) r.memory.store

-- 02, CR 6: what lc_encoder gives after a recording, whatever pushes it came in; and after two of which one's run is the other's in reverse
abbrev pub EncodersReplay : Type 0
EncodersReplay = (r : Recording) → Replayed (run r) (SaysTurns (asked r) r.memory.store)

abbrev pub EncodersReverse : Type 0
EncodersReverse = (one two : Recording) → Reversed (run one) (SaysTurns (asked one) one.memory.store) (run two) (SaysTurns (asked two) two.memory.store)
