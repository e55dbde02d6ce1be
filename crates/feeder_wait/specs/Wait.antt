-- What a short push of a recorder that waits asks, and what it leaves, over the recorder's numbers (Rattle.feeder_numbers.specs.Numbers).
use Rattle.std.specs.Prelude.{◌≡◌, Bool, true, false, List, [], ◌∷◌, ℕ, ◌+◌, ◌-◌, ◌*◌, ◌/◌, ◌≤◌, ◌<◌, min}
use Rattle.std.specs.Prelude.{None}
use Rattle.std.proofs.lemmas.List.Edits.{sets}
use Rattle.rules.specs.Sample.{samples_of}
use Rattle.rules.specs.Trigger.{first_fire}
use Rattle.rules.specs.Selection.{going_on}
use Rattle.rules.specs.Refusal.{Lent, Recorder, most_samples}
use Rattle.rules.proofs.Refusal.{Sound}
use Rattle.rules.specs.Ring.{ring_bytes}
use Rattle.rules.specs.Push.{waited_for}
use Rattle.terms.specs.Terms.{as_masks}
use Rattle.feeder_scan.specs.Scan.{samples_in, sample_in}
use Rattle.feeder_scan.specs.declared.samples.Samples.{Samples}
use Rattle.feeder.specs.Record.{recorder_of}
use Rattle.capture.specs.Numbers.{unit_in, capacity_in, len_in, marked_in, mark_place_in}
use Rattle.feeder_numbers.specs.Numbers.{known_at, limit_in, pre_in, waits_in, known_in, previous_sample_in, ring_place_in, kept_in, lines_in, previous_in, feeder_from, pushed_numbers}
use Rattle.rules.specs.Push.{left_of}

-- the recorder waits, nothing is stored and there is no mark; rows 1 and 2 do not hold, but for the ring's place
pub record Waiting (numbers : List ℕ) (lent : Lent) (ring : ℕ) : Type 0 where
  pub waits : waits_in numbers ≡ 1
  pub len : len_in numbers ≡ 0
  pub unmarked : marked_in numbers ≡ 0
  pub mark : mark_place_in numbers ≡ 0
  pub store : Sound (record { unit = unit_in numbers; capacity = capacity_in numbers; len = 0; mark = None }) lent
  pub limit_most : limit_in numbers ≤ capacity_in numbers
  pub pre_most : pre_in numbers < capacity_in numbers
  pub kept_most : kept_in numbers ≤ pre_in numbers
  pub slots : pre_in numbers * unit_in numbers ≤ ring

-- the first of a push's samples that fires, their count where none does
abbrev pub fire_of : List ℕ → Samples → ℕ
fire_of numbers p = first_fire (as_masks (lines_in numbers)) (previous_in (known_in numbers) (previous_sample_in numbers)) (samples_in p)

-- the samples in len bytes
pub record Count (unit len n : ℕ) : Type 0 where
  pub is : n ≡ len / unit
  pub held : n * unit ≤ len
  pub most : n ≤ len
  pub least : len ≤ n * 2 + 1
  pub two_bytes : 2 ≤ len → 2 ≤ n * unit

-- k bytes that are copied from either end, two or four of them: both memories hold them
pub record CopyRoom (at k ring bytes : ℕ) : Type 0 where
  pub two_bytes : 2 ≤ k
  pub few_bytes : k ≤ 8
  pub slots : at + k ≤ ring
  pub held : k ≤ bytes

-- there are some, in two to eight bytes, and they do not reach the ring's end
pub record FewRoom (numbers : List ℕ) (ring : ℕ) (p : Samples) : Type 0 where
  pub some_samples : 1 ≤ p.n
  pub two_bytes : 2 ≤ p.n * p.unitsize
  pub few_bytes : p.n * p.unitsize ≤ 8
  pub place_inside : ring_place_in numbers < pre_in numbers
  pub pre_most : pre_in numbers ≤ most_samples
  pub ahead : p.n < pre_in numbers - ring_place_in numbers
  pub kept_most : kept_in numbers ≤ pre_in numbers
  pub slots : pre_in numbers * p.unitsize ≤ ring

-- none fires; they went to the ring, and previous sample, place and kept count are theirs
pub record FewWent (numbers ring : List ℕ) (p : Samples) (numbers' ring' : List ℕ) : Type 0 where
  pub none_fires : fire_of numbers p ≡ p.n
  pub numbers_are : numbers' ≡ sets numbers known_at (1 ∷ sample_in p (p.n - 1) ∷ (ring_place_in numbers + p.n) ∷ min (pre_in numbers) (kept_in numbers + p.n) ∷ [])
  pub ring_is : ring' ≡ ring_bytes p.unitsize (pre_in numbers) ring (ring_place_in numbers) p.n p.bytes.now

-- or nothing is written
pub record Untouched (numbers ring numbers' ring' : List ℕ) : Type 0 where
  pub numbers_same : numbers' ≡ numbers
  pub ring_same : ring' ≡ ring

abbrev pub FewAfter : Bool → List ℕ → List ℕ → Samples → List ℕ → List ℕ → Type 0
FewAfter true numbers ring p numbers' ring' = FewWent numbers ring p numbers' ring'
FewAfter false numbers ring p numbers' ring' = Untouched numbers ring numbers' ring'

-- ---- a push
-- the recorder once the samples of the bytes went to the ring
abbrev pub waited_of : List ℕ → List ℕ → Recorder
waited_of numbers bytes = waited_for (recorder_of (feeder_from numbers)) (samples_of (unit_in numbers) bytes)

-- what a push leaves, over any sample memory s: it goes on
pub record ShortWent (numbers : List ℕ) (lent : Lent) (ring bytes numbers' ring' : List ℕ) : Type 0 where
  pub left_is : (s : List ℕ) → left_of (recorder_of (feeder_from numbers)) lent s ring bytes ≡ record { reply = going_on; recorder = waited_of numbers bytes; samples = s; ring = ring' }
  pub numbers_are : numbers' ≡ pushed_numbers (waited_of numbers bytes) numbers

abbrev pub ShortAfter : Bool → List ℕ → Lent → List ℕ → List ℕ → List ℕ → List ℕ → Type 0
ShortAfter true numbers lent ring bytes numbers' ring' = ShortWent numbers lent ring bytes numbers' ring'
ShortAfter false numbers lent ring bytes numbers' ring' = Untouched numbers ring numbers' ring'
