-- CR 1: what a mill's reader is told of a capture with right levels, a recording for one, and that it learns nothing of lines not granted.
-- The claim speaks of the calls' own contracts, as that of `claim_captures` does: `Post` of a call's generated `Reads` is what its `ensures` says.
-- No range is asked of grant, masks, places and counts.
use Rattle.std.specs.Prelude.{◌≡◌, List, ℕ, ℤ, length, Option, Result}
use Rattle.std.specs.Int.Bits.{bit_and}
use contract.Lifetimes.{Lfts}
use denote.Ref.{at_last}
use Rattle.rules.specs.Sample.{list_from, cut_lines}
use Rattle.rules.specs.Node.{node_of}
use Rattle.rules.specs.Search.{summary, cut_summary}
use Rattle.rules.specs.Walk.{through, next_search, previous_search}
use Rattle.rules.specs.Burst.{burst_search}
use Rattle.rules.specs.Pixel.{row_by, range_from, cut_pixels}
use Rattle.rules.specs.Refusal.{first_of, view_rows, copied}
use Rattle.rules.specs.Encoder.{Turns, encoder}
use Rattle.rules.specs.Mill.{origin_of, place_at, shown_place, shown_burst, mill_get_rows, mill_samples_rows, mill_summary_rows, mill_search_rows, mill_encoder_rows}
use Rattle.rules.specs.Answer.{given, unless}
use Rattle.answer.specs.declared.Refusal.{Refusal}
use Rattle.answer.specs.declared.Counted.{Counted}
use Rattle.answer.specs.Answered.{told_of}
use Rattle.capture.specs.declared.Capture.{Capture}
use Rattle.pixel.specs.declared.View.{View}
use Rattle.pixel.specs.Ranges.{view_as}
use Rattle.mill_read.specs.declared.Bounds.{Bounds}
use Rattle.mill_read.specs.declared.Lines.{Lines}
use Rattle.mill_read.specs.Read.{bounded_of, extent_for, shown_of}
use Rattle.mill_read.proofs.extent.Reads as extent-call
use Rattle.mill_read.proofs.get.Reads as get-call
use Rattle.mill_read.proofs.samples.Reads as samples-call
use Rattle.mill_read.proofs.summary.Reads as summary-call
use Rattle.mill_search.specs.declared.Burst.{Burst}
use Rattle.mill_search.specs.Answer.{found_of, burst_as}
use Rattle.mill_search.proofs.next_change.Reads as next-change
use Rattle.mill_search.proofs.prev_change.Reads as prev-change
use Rattle.mill_search.proofs.burst_at.Reads as burst-at
use Rattle.encoder.specs.declared.Turns as call
use Rattle.encoder.specs.Answer.{encoded_of}
use Rattle.mill_encoder.proofs.encoder.Reads as encoder-call
use Rattle.mill_render.proofs.render.Reads as render-call
use Rattle.claim_captures.specs.Words.{Memory, at, Same, Answered, Agree, Ref, Places, lending}
use Rattle.claim_captures.specs.Turns.{Replayed, Reversed}
use Rattle.claim_captures.specs.Claim.{Copying, samples_in, Drawing, pixels_in, Held}
use Rattle.claim_recording.specs.Claim.{Recording, store, run, mark}

-- ---- what each call may answer, by its contract; a question leaves what it was lent
abbrev pub MayExtent : Capture → Memory → Result Bounds Refusal → Type 0
MayExtent c m v = (κs : Lfts 1) × (p : Places) × extent-call.Post κs (lending c p m tt) v (lending c p m tt)

abbrev pub MayGet : Capture → Memory → ℕ → ℤ → Result ℕ Refusal → Type 0
MayGet c m grant place v = (κs : Lfts 1) × (p : Places) × get-call.Post κs (lending c p m (grant, (place, tt))) v (lending c p m (grant, (place, tt)))

abbrev pub MaySummary : Capture → Memory → ℕ → ℤ → ℤ → Result (Option Lines) Refusal → Type 0
MaySummary c m grant a b v = (κs : Lfts 1) × (p : Places) × summary-call.Post κs (lending c p m (grant, (a, (b, tt)))) v (lending c p m (grant, (a, (b, tt))))

abbrev pub MayNext : Capture → Memory → ℕ → ℕ → ℤ → Result (Counted ℤ) Refusal → Type 0
MayNext c m grant mask from v = (κs : Lfts 1) × (p : Places) × next-change.Post κs (lending c p m (grant, (mask, (from, tt)))) v (lending c p m (grant, (mask, (from, tt))))

abbrev pub MayPrevious : Capture → Memory → ℕ → ℕ → ℤ → Result (Counted ℤ) Refusal → Type 0
MayPrevious c m grant mask from v = (κs : Lfts 1) × (p : Places) × prev-change.Post κs (lending c p m (grant, (mask, (from, tt)))) v (lending c p m (grant, (mask, (from, tt))))

abbrev pub MayBurst : Capture → Memory → ℕ → ℕ → ℤ → ℕ → ℕ → ℕ → Result (Counted Burst) Refusal → Type 0
MayBurst c m grant mask sample gap tolerance budget v =
    (κs : Lfts 1) × (p : Places)
    × burst-at.Post κs (lending c p m (grant, (mask, (sample, (gap, (tolerance, (budget, tt))))))) v (lending c p m (grant, (mask, (sample, (gap, (tolerance, (budget, tt)))))))

abbrev pub MayEncoder : Capture → Memory → ℕ → ℕ → ℕ → Result call.Turns Refusal → Type 0
MayEncoder c m grant a b v = (κs : Lfts 1) × (p : Places) × encoder-call.Post κs (lending c p m (grant, (a, (b, tt)))) v (lending c p m (grant, (a, (b, tt))))

abbrev pub MaySamples : Capture → Memory → ℕ → ℤ → ℕ → List ℕ → Copying → Type 0
MaySamples c m grant start count output v =
    (κs : Lfts 2) × (p : Places) × (o : Ref)
    × samples-call.Post κs (lending c p m (grant, (start, (count, (at_last o output, tt))))) v.answer (lending c p m (grant, (start, (count, (at_last o v.output, tt)))))

abbrev pub MayRender : Capture → Memory → ℕ → View → ℕ → List ℕ → Drawing → Type 0
MayRender c m grant view width output v =
    (κs : Lfts 2) × (p : Places) × (o : Ref)
    × render-call.Post κs (lending c p m (grant, (view, (width, (at_last o output, tt))))) v.answer (lending c p m (grant, (view, (width, (at_last o v.output, tt)))))

-- ---- answers: the run's granted lines, at places that count from its mark
-- the place of the run that a mill's place is
abbrev pub place : Option ℕ → ℤ → ℕ
place mark p = place_at (origin_of mark) p

-- rows 1 and 2 refuse no question; 12 and 13 do, and 9, 10 and 11
pub record MillAnswers (grant : ℕ) (run : List ℕ) (mark : Option ℕ) (c : Capture) (m : Memory) : Type 0 where
  pub extent_is : Answered (MayExtent c m) bounded_of (given (extent_for mark (length run)))
  pub get_is : (p : ℤ) → Answered (MayGet c m grant p) told_of (unless (first_of (mill_get_rows mark (length run) p)) (bit_and (at run (place mark p)) grant))
  pub samples_are : (p : ℤ) (n : ℕ) (output : List ℕ)
      → Answered (MaySamples c m grant p n output) samples_in
      (unless (first_of (mill_samples_rows mark (length run) p n (length output))) (list_from (cut_lines grant (at run)) (place mark p) (copied (length run) (place mark p) n)))
  pub summary_is : (a b : ℤ) → Answered (MaySummary c m grant a b) shown_of (unless (first_of (mill_summary_rows mark a b)) (cut_summary grant (summary (at run) (length run) (place mark a) (place mark b))))
  pub next_is : (mask : ℕ) (p : ℤ) → Answered (MayNext c m grant mask p) found_of (unless (first_of (mill_search_rows grant mask mark p)) (through (shown_place (origin_of mark)) (next_search (at run) (length run) mask (place mark p))))
  pub previous_is : (mask : ℕ) (p : ℤ) → Answered (MayPrevious c m grant mask p) found_of (unless (first_of (mill_search_rows grant mask mark p)) (through (shown_place (origin_of mark)) (previous_search (at run) (length run) mask (place mark p))))
  pub burst_is : (mask : ℕ) (p : ℤ) (gap tolerance budget : ℕ)
      → Answered (MayBurst c m grant mask p gap tolerance budget) burst_as
      (unless (first_of (mill_search_rows grant mask mark p)) (through (shown_burst (origin_of mark)) (burst_search (at run) (length run) mask (place mark p) gap tolerance budget)))
  -- 02, CR 6: on two granted lines; 14 and 12 refuse it
  pub encoder_is : (a b : ℕ) → Answered (MayEncoder c m grant a b) encoded_of (unless (first_of (mill_encoder_rows grant a b)) (encoder (at run) (length run) a b))
  pub render_is : (view : View) (width : ℕ) (output : List ℕ)
      → Answered (MayRender c m grant view width output) (pixels_in width)
      (unless (first_of (view_rows (view_as view) width (length output))) (cut_pixels grant (row_by (node_of (at run)) (range_from (origin_of mark) (view_as view) (length run)) 0 width)))

-- ---- "two recordings .. look alike to it, refusals too": whatever a mill asks of both, it is told the same.
-- A mask may have any lines: one beyond the grant is refused
pub record MillAlike (grant : ℕ) (c₁ : Capture) (m₁ : Memory) (c₂ : Capture) (m₂ : Memory) : Type 0 where
  pub extents : Agree (MayExtent c₁ m₁) (MayExtent c₂ m₂) bounded_of
  pub gets : (p : ℤ) → Agree (MayGet c₁ m₁ grant p) (MayGet c₂ m₂ grant p) told_of
  pub samples : (p : ℤ) (n : ℕ) (output₁ output₂ : List ℕ) → length output₁ ≡ length output₂ → Agree (MaySamples c₁ m₁ grant p n output₁) (MaySamples c₂ m₂ grant p n output₂) samples_in
  pub summaries : (a b : ℤ) → Agree (MaySummary c₁ m₁ grant a b) (MaySummary c₂ m₂ grant a b) shown_of
  pub nexts : (mask : ℕ) (p : ℤ) → Agree (MayNext c₁ m₁ grant mask p) (MayNext c₂ m₂ grant mask p) found_of
  pub previouses : (mask : ℕ) (p : ℤ) → Agree (MayPrevious c₁ m₁ grant mask p) (MayPrevious c₂ m₂ grant mask p) found_of
  pub bursts : (mask : ℕ) (p : ℤ) (gap tolerance budget : ℕ) → Agree (MayBurst c₁ m₁ grant mask p gap tolerance budget) (MayBurst c₂ m₂ grant mask p gap tolerance budget) burst_as
  pub encoders : (a b : ℕ) → Agree (MayEncoder c₁ m₁ grant a b) (MayEncoder c₂ m₂ grant a b) encoded_of
  pub pixels : (view : View) (width : ℕ) (output₁ output₂ : List ℕ) → length output₁ ≡ length output₂ → Agree (MayRender c₁ m₁ grant view width output₁) (MayRender c₂ m₂ grant view width output₂) (pixels_in width)

-- ---- the claim
-- "A mill must learn nothing of lines not granted: two recordings alike in length, mark and its lines, each with its whole memory lent, look alike to it,
-- refusals too." And what it is told is the run's. Of any two captures that hold a run each,
abbrev pub CapturesShow : Type 0
CapturesShow =
    (grant : ℕ) (run₁ : List ℕ) (mark₁ : Option ℕ) (c₁ : Capture) (m₁ : Memory) (run₂ : List ℕ) (mark₂ : Option ℕ) (c₂ : Capture) (m₂ : Memory)
    → Held run₁ mark₁ c₁ m₁
    → Held run₂ mark₂ c₂ m₂
    → MillAnswers grant run₁ mark₁ c₁ m₁
    × MillAnswers grant run₂ mark₂ c₂ m₂
    × (Same grant run₁ mark₁ run₂ mark₂ → MillAlike grant c₁ m₁ c₂ m₂)

-- and so of recordings
abbrev pub MillLearns : Type 0
MillLearns =
    (grant : ℕ) (one two : Recording)
    → MillAnswers grant (run one) (mark one) (store one) one.memory.store
    × MillAnswers grant (run two) (mark two) (store two) two.memory.store
    × (Same grant (run one) (mark one) (run two) (mark two) → MillAlike grant (store one) one.memory.store (store two) two.memory.store)

-- ---- 02, CR 6: what a mill is told of an encoder is what 02 says of one
abbrev pub SaysTurns : ℕ → Capture → Memory → ℕ → ℕ → Turns → Type 0
SaysTurns grant c m a b t = (v : Result call.Turns Refusal) × MayEncoder c m grant a b v × (encoded_of v ≡ given t)

abbrev pub EncodersReplay : Type 0
EncodersReplay = (grant : ℕ) (r : Recording) → Replayed (run r) (SaysTurns grant (store r) r.memory.store)

-- each mill with a grant of its own
abbrev pub EncodersReverse : Type 0
EncodersReverse =
    (grant₁ grant₂ : ℕ) (one two : Recording)
    → Reversed (run one) (SaysTurns grant₁ (store one) one.memory.store) (run two) (SaysTurns grant₂ (store two) two.memory.store)
