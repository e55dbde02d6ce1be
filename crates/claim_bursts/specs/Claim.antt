-- Bursts that meet, to be held beside document 02 and include/logic_core.h: of the rule, and of what burst_at and a mill's burst_at, lc_burst_at and lc_mill_burst_at answer. 02: CR 13.
-- `BurstsMeet` and `ListsOnce` (rules.specs.Bursts) say what is promised; here stands who promises it. That each "below the budget" is needed, rules.proofs.BorderBursts computes.
-- No range is asked of masks, grants, places, gaps, tolerances and budgets.
use Rattle.std.specs.Prelude.{◌≡◌, List, ℕ, ◌≤◌, ℤ, length, get_or, Option, None, Result}
use Rattle.rules.specs.Answer.{given}
use Rattle.rules.specs.Walk.{Counted, through}
use Rattle.rules.specs.Burst.{Burst, most_place, burst}
use Rattle.rules.specs.Bursts.{BurstsMeet, ListsOnce}
use Rattle.rules.specs.Refusal.{first_of}
use Rattle.rules.specs.Mill.{MillBurst, origin_of, place_at, shown_burst, mill_search_rows}
use Rattle.answer.specs.declared.Refusal.{Refusal}
use Rattle.answer.specs.declared.Counted as told
use Rattle.capture.specs.declared.Capture.{Capture}
use Rattle.burst.specs.declared.Burst as call
use Rattle.burst.specs.Answer.{burst_as}
use Rattle.mill_search.specs.declared.Burst as mill-call
use Rattle.mill_search.specs.Answer as mill-told
use Rattle.codes.specs.Code.{perhaps_in}
use Rattle.codes.specs.Record.{capture_in}
use Rattle.claim_captures.specs.Words.{Memory, at}
use Rattle.claim_captures.specs.Claim.{Held, MayBurst}
use Rattle.claim_mill.specs.Claim as mills
use Rattle.claim_exports.specs.Questions as exports
use Rattle.claim_mill_exports.specs.Claim as mill-exports
use Rattle.claim_appends.specs.Claim as appends
use Rattle.claim_recording.specs.Claim as recordings
use Rattle.claim_exports.specs.Claim as exported
use Rattle.claim_exports.specs.Filled as filled

-- ---- what is promised
pub record Promised {Q : Type 0} (s : ℕ → ℕ) (len : ℕ) (place : Q → ℕ) (Says : ℕ → Q → ℕ → ℕ → ℕ → Option Burst → Type 0) : Type 0 where
  pub meet : BurstsMeet s len place Says
  pub lists : (mask gap : ℕ) → ListsOnce s len place Says mask gap

-- ---- who asks: a service reader, with a place; or a mill, with its grant and a place that counts from the mark
pub data Asker : Type 0 where
  service : ℕ → Asker
  mill : ℕ → ℤ → Asker

-- the place of the run
abbrev pub place_of : Option ℕ → Asker → ℕ
place_of mark (service sample) = sample
place_of mark (mill grant sample) = place_at (origin_of mark) sample

-- rows 12 and 13 refuse a mill, and nothing a service reader
abbrev pub Unrefused : Option ℕ → ℕ → Asker → Type 0
Unrefused mark mask (service sample) = Unit {0}
Unrefused mark mask (mill grant sample) = first_of (mill_search_rows grant mask mark sample) ≡ 0

-- ---- the calls: they may answer so, whatever was read. A mill is told the run's burst with its places moved by the mark
abbrev pub Says : Capture → Memory → ℕ → Asker → ℕ → ℕ → ℕ → Option Burst → Type 0
Says c m mask (service sample) gap tolerance budget o =
    (v : Result (told.Counted call.Burst) Refusal) × (read : ℕ) × MayBurst c m mask sample gap tolerance budget v × (burst_as v ≡ given (record { found = o; steps = read }))
Says c m mask (mill grant sample) gap tolerance budget o =
    (v : Result (told.Counted mill-call.Burst) Refusal) × (read : ℕ) × mills.MayBurst c m grant mask sample gap tolerance budget v
    × (mill-told.burst_as v ≡ given (through (shown_burst (origin_of c.trigger)) (record { found = o; steps = read })))

-- ---- the exports: what stands behind the pointers, read back
-- first, last, the jumps at the end and at the start
abbrev pub burst_in : List ℕ → Burst
burst_in ends = record { first = get_or ends 0 0; last = get_or ends 1 0; jumps_end = get_or ends 2 0; jumps_start = get_or ends 3 0 }

abbrev pub mill_burst_in : ℤ → ℤ → List ℕ → MillBurst
mill_burst_in first last jumps = record { first = first; last = last; jumps_end = get_or jumps 0 0; jumps_start = get_or jumps 1 0 }

-- whatever stood there before
abbrev pub ExportSays : List ℕ → Memory → ℕ → Asker → ℕ → ℕ → ℕ → Option Burst → Type 0
ExportSays numbers m mask (service sample) gap tolerance budget o =
    (ends : List ℕ) × (read : ℕ) × (length ends ≡ 4) × (v : exports.Bursted) × exports.MayBurst numbers m mask sample gap tolerance budget ends read v
    × (perhaps_in v.code (burst_in v.ends) ≡ given o)
ExportSays numbers m mask (mill grant sample) gap tolerance budget o =
    (first last : ℤ) × (jumps : List ℕ) × (read : ℕ) × (length jumps ≡ 2) × (v : mill-exports.Bursted) × mill-exports.MayBurst numbers m grant mask sample gap tolerance budget first last jumps read v
    × (perhaps_in v.code (mill_burst_in v.first v.last v.jumps) ≡ given (shown_burst (origin_of (exports.mark_in numbers)) o))

-- ---- the claim
pub record BurstsThatMeet : Type 0 where
  -- of the rule; the sum last + max_gap − 1 is cut at 2^64 − 1, and row 1 keeps len below that
  pub rule : (s : ℕ → ℕ) (len : ℕ) → len ≤ most_place → Promised s len (λ (sample : ℕ). sample) (λ mask sample gap tolerance budget answer. burst s len mask sample gap tolerance budget ≡ answer)
  -- of the calls, service readers and mills together, over any capture that holds a run,
  pub calls : (run : List ℕ) (mark : Option ℕ) (c : Capture) (m : Memory) → Held run mark c m → Promised (at run) (length run) (place_of mark) (Says c m)
  -- which always have an answer;
  pub may : (run : List ℕ) (mark : Option ℕ) (c : Capture) (m : Memory) → Held run mark c m → (mask : ℕ) (q : Asker) (gap tolerance budget : ℕ) → Unrefused mark mask q
      → (o : Option Burst) × Says c m mask q gap tolerance budget o
  -- and whatever a mill is told, unless it is refused, is a burst of the run with its places moved, or none
  pub moved : (run : List ℕ) (mark : Option ℕ) (c : Capture) (m : Memory) → Held run mark c m → (grant mask : ℕ) (sample : ℤ) (gap tolerance budget : ℕ) (v : Result (told.Counted mill-call.Burst) Refusal) (w : Counted MillBurst)
      → mills.MayBurst c m grant mask sample gap tolerance budget v → mill-told.burst_as v ≡ given w → (o : Option Burst) × (w.found ≡ shown_burst (origin_of mark) o)
  -- so after every list of pushes and of appends
  pub recorded : (r : recordings.Recording) → Promised (at (recordings.run r)) (length (recordings.run r)) (place_of (recordings.mark r)) (Says (recordings.store r) r.memory.store)
  pub appended : (a : appends.Filling) → Promised (at (appends.stored a)) (length (appends.stored a)) (place_of None) (Says a.capture a.memory)
  -- and of the exports
  pub exports : (run : List ℕ) (mark : Option ℕ) (numbers : List ℕ) (m : Memory) → Held run mark (capture_in numbers) m → Promised (at run) (length run) (place_of mark) (ExportSays numbers m)
  pub export_may : (run : List ℕ) (mark : Option ℕ) (numbers : List ℕ) (m : Memory) → Held run mark (capture_in numbers) m → (mask : ℕ) (q : Asker) (gap tolerance budget : ℕ) → Unrefused mark mask q
      → (o : Option Burst) × ExportSays numbers m mask q gap tolerance budget o
  pub export_moved : (run : List ℕ) (mark : Option ℕ) (numbers : List ℕ) (m : Memory) → Held run mark (capture_in numbers) m → (grant mask : ℕ) (sample : ℤ) (gap tolerance budget : ℕ)
      (first last : ℤ) (jumps : List ℕ) → length jumps ≡ 2 → (read : ℕ) (v : mill-exports.Bursted) (x : Option MillBurst)
      → mill-exports.MayBurst numbers m grant mask sample gap tolerance budget first last jumps read v → perhaps_in v.code (mill_burst_in v.first v.last v.jumps) ≡ given x → (o : Option Burst) × (x ≡ shown_burst (origin_of mark) o)
  pub pushed : (r : exported.Recording) → Promised (at (exported.run r)) (length (exported.run r)) (place_of (exported.mark r)) (ExportSays (exported.asked r) r.memory.store)
  pub filled : (a : filled.Filling) → Promised (at (filled.stored a)) (length (filled.stored a)) (place_of None) (ExportSays a.numbers a.memory)
