-- The 17 numbers of a recorder: which is which, the recorder that they hold, and how it is written. 01: Records.
use Rattle.std.specs.Prelude.{cond, List, [], ◌∷◌, ℕ, ◌%◌, eqb, get_or, Option, None, Some}
use Rattle.std.proofs.lemmas.List.Edits.{sets}
use Rattle.rules.specs.Trigger as rule
use Rattle.rules.specs.Refusal.{Recorder, mark_flag, mark_place}
use Rattle.capture.specs.Record.{mark_in}
use Rattle.capture.specs.Numbers.{unit_at, len_at, unit_in, capacity_in, len_in, marked_in, mark_place_in}
use Rattle.terms.specs.declared.Masks.{Masks}
use Rattle.feeder.specs.declared.Feeder.{Feeder}

-- ---- which is which; the first five are its store's (capture.specs.Numbers)
abbrev pub limit_at : ℕ
limit_at = 5

abbrev pub pre_at : ℕ
pre_at = 6

-- not 0: it waits
abbrev pub waits_at : ℕ
waits_at = 7

-- the lines of each condition
abbrev pub high_lines_at : ℕ
high_lines_at = 8

abbrev pub low_lines_at : ℕ
low_lines_at = 9

abbrev pub rising_lines_at : ℕ
rising_lines_at = 10

abbrev pub falling_lines_at : ℕ
falling_lines_at = 11

abbrev pub edge_lines_at : ℕ
edge_lines_at = 12

-- not 0: there is a previous sample
abbrev pub known_at : ℕ
known_at = 13

abbrev pub previous_at : ℕ
previous_at = 14

-- the ring's next slot
abbrev pub ring_place_at : ℕ
ring_place_at = 15

abbrev pub kept_at : ℕ
kept_at = 16

abbrev pub limit_in : List ℕ → ℕ
limit_in r = get_or r limit_at 0

abbrev pub pre_in : List ℕ → ℕ
pre_in r = get_or r pre_at 0

abbrev pub waits_in : List ℕ → ℕ
waits_in r = get_or r waits_at 0

abbrev pub high_lines_in : List ℕ → ℕ
high_lines_in r = get_or r high_lines_at 0

abbrev pub low_lines_in : List ℕ → ℕ
low_lines_in r = get_or r low_lines_at 0

abbrev pub rising_lines_in : List ℕ → ℕ
rising_lines_in r = get_or r rising_lines_at 0

abbrev pub falling_lines_in : List ℕ → ℕ
falling_lines_in r = get_or r falling_lines_at 0

abbrev pub edge_lines_in : List ℕ → ℕ
edge_lines_in r = get_or r edge_lines_at 0

abbrev pub known_in : List ℕ → ℕ
known_in r = get_or r known_at 0

abbrev pub previous_sample_in : List ℕ → ℕ
previous_sample_in r = get_or r previous_at 0

abbrev pub ring_place_in : List ℕ → ℕ
ring_place_in r = get_or r ring_place_at 0

abbrev pub kept_in : List ℕ → ℕ
kept_in r = get_or r kept_at 0

-- ---- from numbers
-- a mask has 16 lines; what is above them is dropped
abbrev pub mask_in : ℕ → ℕ
mask_in n = n % 65536

abbrev pub masks_in : ℕ → ℕ → ℕ → ℕ → ℕ → Masks
masks_in high low rising falling edge = record { high = mask_in high; low = mask_in low; rising = mask_in rising; falling = mask_in falling; edge = mask_in edge }

-- the masks of a recorder that waits
abbrev pub lines_in : List ℕ → Masks
lines_in r = masks_in (high_lines_in r) (low_lines_in r) (rising_lines_in r) (falling_lines_in r) (edge_lines_in r)

abbrev pub armed_in : ℕ → Masks → Option Masks
armed_in armed masks = cond (eqb armed 0) None (Some masks)

abbrev pub previous_in : ℕ → ℕ → Option ℕ
previous_in known v = cond (eqb known 0) None (Some (mask_in v))

abbrev pub feeder_from : List ℕ → Feeder
feeder_from r = record {
  capture = record { unitsize = unit_in r; capacity = capacity_in r; len = len_in r; trigger = mark_in (marked_in r) (mark_place_in r) };
  limit = limit_in r;
  pre = pre_in r;
  masks = armed_in (waits_in r) (lines_in r);
  prev = previous_in (known_in r) (previous_sample_in r);
  place = ring_place_in r;
  kept = kept_in r;
}

-- ---- to numbers
abbrev pub waits_number : rule.Armed → ℕ
waits_number rule.unarmed = 0
waits_number (rule.waiting m) = 1

abbrev pub masks_of : rule.Armed → rule.Masks
masks_of rule.unarmed = rule.no_masks
masks_of (rule.waiting m) = m

abbrev pub mask_numbers : rule.Masks → List ℕ
mask_numbers m = m.high ∷ m.low ∷ m.rising ∷ m.falling ∷ m.edge ∷ []

-- what a push never changes: unit, capacity, limit, pre, and the lines of each condition
abbrev pub fixed_numbers : Recorder → List ℕ → List ℕ
fixed_numbers r old = sets (sets (sets old unit_at (r.store.unit ∷ r.store.capacity ∷ [])) limit_at (r.limit ∷ r.pre ∷ [])) high_lines_at (mask_numbers (masks_of r.armed))

-- what a push may change: len and mark, whether it waits, previous sample (as two numbers, as a mark is), ring place and kept count
abbrev pub pushed_numbers : Recorder → List ℕ → List ℕ
pushed_numbers r old =
    sets (sets (sets old len_at (r.store.len ∷ mark_flag r.store.mark ∷ mark_place r.store.mark ∷ [])) waits_at (waits_number r.armed ∷ [])) known_at
    (mark_flag r.previous ∷ mark_place r.previous ∷ r.place ∷ r.kept ∷ [])

abbrev pub recorder_numbers : Recorder → List ℕ → List ℕ
recorder_numbers r old = pushed_numbers r (fixed_numbers r old)
