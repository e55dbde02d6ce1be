-- CR 1 over the exports: what lc_mill_* tell a mill of a recording, and that it learns nothing of lines not granted; to be held beside include/logic_core.h.
-- A capture is its record's five numbers and its memory. `Post` of an export's generated `Reads` is what its `ensures` says of the arguments, the code, and what stands behind its pointers
-- afterwards. No range is asked of grant, masks, places and counts.
use Rattle.std.specs.Prelude.{◌≡◌, cond, List, [], ◌∷◌, ℕ, Float, ℤ, length, Option, None, Some}
use Rattle.std.specs.Int.Bits.{bit_and}
use contract.Lifetimes.{Lfts}
use denote.Ref.{at_last}
use Rattle.rules.specs.Sample.{list_from}
use Rattle.rules.specs.Node.{Lines, node_of}
use Rattle.rules.specs.Search.{summary, cut_summary}
use Rattle.rules.specs.Walk.{Counted, through, next_search, previous_search}
use Rattle.rules.specs.Burst.{burst_search}
use Rattle.rules.specs.Pixel.{row_by, range_from, cut_pixels}
use Rattle.rules.specs.Refusal.{first_of, view_rows, copied}
use Rattle.rules.specs.Encoder.{Turns, encoder}
use Rattle.rules.specs.Mill.{MillBurst, origin_of, place_at, shown_place, shown_burst, mill_get_rows, mill_samples_rows, mill_summary_rows, mill_search_rows, mill_encoder_rows}
use Rattle.rules.specs.Answer.{Answer, refused, given, unless}
use Rattle.mill_read.specs.Read.{Extent, extent_for}
use Rattle.logic_core.proofs.mill_reader.lc_mill_extent.Reads as lc-mill-extent
use Rattle.logic_core.proofs.mill_reader.lc_mill_get.Reads as lc-mill-get
use Rattle.logic_core.proofs.mill_reader.lc_mill_samples.Reads as lc-mill-samples
use Rattle.logic_core.proofs.mill_reader.lc_mill_summary.Reads as lc-mill-summary
use Rattle.logic_core.proofs.mill_reader.lc_mill_next_change.Reads as lc-mill-next-change
use Rattle.logic_core.proofs.mill_reader.lc_mill_prev_change.Reads as lc-mill-prev-change
use Rattle.logic_core.proofs.mill_reader.lc_mill_burst_at.Reads as lc-mill-burst-at
use Rattle.logic_core.proofs.mill_reader.lc_mill_encoder.Reads as lc-mill-encoder
use Rattle.logic_core.proofs.mill_reader.lc_mill_render.Reads as lc-mill-render
use Rattle.claim_captures.specs.Words.{Memory, at, Same, Answered, Agree, Ref, Places, shown_at}
use Rattle.claim_captures.specs.Turns.{Replayed, Reversed}
use Rattle.claim_exports.specs.Questions.{One, Signed, lending, Got, got, Copied, copies, CutSummed, cut_summed, Turned, turned, ReadsAs, Drawn, drawn, view_of}
use Rattle.claim_exports.specs.Claim.{Recording, run, mark, asked}

-- ---- lc_mill_extent: the code, the places behind `first` and `end`, and the flag behind `marked`
pub record Bounded : Type 0 where
  pub code : ℕ
  pub first : ℤ
  pub end : ℤ
  pub marked : ℕ

abbrev pub MayExtent : List ℕ → Memory → ℤ → ℤ → ℕ → Bounded → Type 0
MayExtent numbers m first end marked v =
    (κs : Lfts 6) × (n : Ref) × (p : Places) × (f e : Signed) × (o : One)
    × lc-mill-extent.Post κs (lending (shown_at n numbers) p m (at_last f first, (at_last e end, (at_last o marked, tt)))) v.code (lending (shown_at n numbers) p m (at_last f v.first, (at_last e v.end, (at_last o v.marked, tt))))

abbrev pub bounded : Extent → Bounded
bounded e = record { code = 0; first = e.first; end = e.end; marked = cond e.marked 1 0 }

-- ---- lc_mill_get: as lc_get
abbrev pub MayGet : List ℕ → Memory → ℕ → ℤ → ℕ → Got → Type 0
MayGet numbers m grant place value v =
    (κs : Lfts 4) × (n : Ref) × (p : Places) × (o : One)
    × lc-mill-get.Post κs (lending (shown_at n numbers) p m (grant, (place, (at_last o value, tt)))) v.code (lending (shown_at n numbers) p m (grant, (place, (at_last o v.value, tt))))

-- ---- lc_mill_samples: as lc_samples
abbrev pub MaySamples : List ℕ → Memory → ℕ → ℤ → ℕ → List ℕ → ℕ → Copied → Type 0
MaySamples numbers m grant start count output old v =
    (κs : Lfts 5) × (n : Ref) × (p : Places) × (o : Ref) × (k : One)
    × lc-mill-samples.Post κs (lending (shown_at n numbers) p m (grant, (start, (count, (at_last o output, (at_last k old, tt)))))) v.code (lending (shown_at n numbers) p m (grant, (start, (count, (at_last o v.output, (at_last k v.copied, tt))))))

-- ---- lc_mill_summary: as lc_summary, without a count; a refusal gives its number and leaves what stood behind the pointers, here and below
abbrev pub MaySummary : List ℕ → Memory → ℕ → ℤ → ℤ → List ℕ → CutSummed → Type 0
MaySummary numbers m grant a b node v =
    (κs : Lfts 4) × (n : Ref) × (p : Places) × (o : Ref)
    × lc-mill-summary.Post κs (lending (shown_at n numbers) p m (grant, (a, (b, (at_last o node, tt))))) v.code (lending (shown_at n numbers) p m (grant, (a, (b, (at_last o v.node, tt)))))

abbrev pub summed_by : Answer (Option Lines) → List ℕ → CutSummed
summed_by (refused n) old = record { code = n; node = old }
summed_by (given o) old = cut_summed o old

-- ---- lc_mill_next_change and lc_mill_prev_change: the code, the place behind `at`, and the number behind `read`
pub record Found : Type 0 where
  pub code : ℕ
  pub place : ℤ
  pub read : ℕ

abbrev pub MayNext : List ℕ → Memory → ℕ → ℕ → ℤ → ℤ → ℕ → Found → Type 0
MayNext numbers m grant mask from place read v =
    (κs : Lfts 5) × (n : Ref) × (p : Places) × (o : Signed) × (r : One)
    × lc-mill-next-change.Post κs (lending (shown_at n numbers) p m (grant, (mask, (from, (at_last o place, (at_last r read, tt)))))) v.code (lending (shown_at n numbers) p m (grant, (mask, (from, (at_last o v.place, (at_last r v.read, tt))))))

abbrev pub MayPrevious : List ℕ → Memory → ℕ → ℕ → ℤ → ℤ → ℕ → Found → Type 0
MayPrevious numbers m grant mask from place read v =
    (κs : Lfts 5) × (n : Ref) × (p : Places) × (o : Signed) × (r : One)
    × lc-mill-prev-change.Post κs (lending (shown_at n numbers) p m (grant, (mask, (from, (at_last o place, (at_last r read, tt)))))) v.code (lending (shown_at n numbers) p m (grant, (mask, (from, (at_last o v.place, (at_last r v.read, tt))))))

-- 0 with the place; 100 where there is none; the nodes read either way
abbrev pub found_at : Option ℤ → ℕ → ℤ → Found
found_at None steps old = record { code = 100; place = old; read = steps }
found_at (Some p) steps old = record { code = 0; place = p; read = steps }

abbrev pub found : Answer (Counted ℤ) → ℤ → ℕ → Found
found (refused n) old read = record { code = n; place = old; read = read }
found (given w) old read = found_at w.found w.steps old

-- ---- lc_mill_burst_at: the code, the places behind `first` and `last`, the two numbers behind `jumps`, and the one behind `read`
pub record Bursted : Type 0 where
  pub code : ℕ
  pub first : ℤ
  pub last : ℤ
  pub jumps : List ℕ
  pub read : ℕ

abbrev pub MayBurst : List ℕ → Memory → ℕ → ℕ → ℤ → ℕ → ℕ → ℕ → ℤ → ℤ → List ℕ → ℕ → Bursted → Type 0
MayBurst numbers m grant mask sample gap tolerance budget first last jumps read v =
    (κs : Lfts 7) × (n : Ref) × (p : Places) × (f l : Signed) × (j : Ref) × (r : One)
    × lc-mill-burst-at.Post κs
    (lending (shown_at n numbers) p m (grant, (mask, (sample, (gap, (tolerance, (budget, (at_last f first, (at_last l last, (at_last j jumps, (at_last r read, tt)))))))))))
    v.code
    (lending (shown_at n numbers) p m (grant, (mask, (sample, (gap, (tolerance, (budget, (at_last f v.first, (at_last l v.last, (at_last j v.jumps, (at_last r v.read, tt)))))))))))

-- 0 with both places, the jumps at the end and at the start; 100 where there is none; the nodes read either way
abbrev pub bursted_at : Option MillBurst → ℕ → ℤ → ℤ → List ℕ → Bursted
bursted_at None steps first last jumps = record { code = 100; first = first; last = last; jumps = jumps; read = steps }
bursted_at (Some b) steps first last jumps = record { code = 0; first = b.first; last = b.last; jumps = b.jumps_end ∷ b.jumps_start ∷ []; read = steps }

abbrev pub bursted : Answer (Counted MillBurst) → ℤ → ℤ → List ℕ → ℕ → Bursted
bursted (refused n) first last jumps read = record { code = n; first = first; last = last; jumps = jumps; read = read }
bursted (given w) first last jumps read = bursted_at w.found w.steps first last jumps

-- ---- lc_mill_encoder: as lc_encoder
abbrev pub MayEncoder : List ℕ → Memory → ℕ → ℕ → ℕ → ℤ → List ℕ → Turned → Type 0
MayEncoder numbers m grant a b position counts v =
    (κs : Lfts 5) × (n : Ref) × (p : Places) × (o : Signed) × (k : Ref)
    × lc-mill-encoder.Post κs (lending (shown_at n numbers) p m (grant, (a, (b, (at_last o position, (at_last k counts, tt)))))) v.code (lending (shown_at n numbers) p m (grant, (a, (b, (at_last o v.position, (at_last k v.counts, tt))))))

-- ---- lc_mill_render: as lc_render
abbrev pub MayRender : List ℕ → Memory → ℕ → Float → Float → ℕ → List ℕ → Drawn → Type 0
MayRender numbers m grant start spp width output v =
    (κs : Lfts 4) × (n : Ref) × (p : Places) × (o : Ref)
    × lc-mill-render.Post κs (lending (shown_at n numbers) p m (grant, (start, (spp, (width, (at_last o output, tt)))))) v.code (lending (shown_at n numbers) p m (grant, (start, (spp, (width, (at_last o v.output, tt))))))

-- ---- answers: the run's granted lines, at places that count from its mark
-- the place of the run that a mill's place is
abbrev pub place : Option ℕ → ℤ → ℕ
place mark p = place_at (origin_of mark) p

-- rows 1 and 2 refuse no question; 12 and 13 do, and 9, 10 and 11
pub record MillAnswers (grant : ℕ) (run : List ℕ) (mark : Option ℕ) (numbers : List ℕ) (m : Memory) : Type 0 where
  pub extent_is : (first end : ℤ) (marked : ℕ) → Answered (MayExtent numbers m first end marked) (λ v. v) (bounded (extent_for mark (length run)))
  pub get_is : (p : ℤ) (value : ℕ) → Answered (MayGet numbers m grant p value) (λ v. v) (got (unless (first_of (mill_get_rows mark (length run) p)) (bit_and (at run (place mark p)) grant)) value)
  pub samples_are : (p : ℤ) (n : ℕ) (output : List ℕ) (old : ℕ)
      → Answered (MaySamples numbers m grant p n output old) (λ v. v)
      (copies (unless (first_of (mill_samples_rows mark (length run) p n (length output))) (list_from (λ i. bit_and (at run i) grant) (place mark p) (copied (length run) (place mark p) n))) output old)
  pub summary_is : (a b : ℤ) (node : List ℕ) → length node ≡ 3
      → Answered (MaySummary numbers m grant a b node) (λ v. v) (summed_by (unless (first_of (mill_summary_rows mark a b)) (cut_summary grant (summary (at run) (length run) (place mark a) (place mark b)))) node)
  pub next_is : (mask : ℕ) (p old : ℤ) (read : ℕ)
      → Answered (MayNext numbers m grant mask p old read) (λ v. v) (found (unless (first_of (mill_search_rows grant mask mark p)) (through (shown_place (origin_of mark)) (next_search (at run) (length run) mask (place mark p)))) old read)
  pub previous_is : (mask : ℕ) (p old : ℤ) (read : ℕ)
      → Answered (MayPrevious numbers m grant mask p old read) (λ v. v) (found (unless (first_of (mill_search_rows grant mask mark p)) (through (shown_place (origin_of mark)) (previous_search (at run) (length run) mask (place mark p)))) old read)
  pub burst_is : (mask : ℕ) (p : ℤ) (gap tolerance budget : ℕ) (first last : ℤ) (jumps : List ℕ) → length jumps ≡ 2 → (read : ℕ)
      → Answered (MayBurst numbers m grant mask p gap tolerance budget first last jumps read) (λ v. v)
      (bursted (unless (first_of (mill_search_rows grant mask mark p)) (through (shown_burst (origin_of mark)) (burst_search (at run) (length run) mask (place mark p) gap tolerance budget))) first last jumps read)
  -- 02, CR 6: on two granted lines; 14 and 12 refuse it
  pub encoder_is : (a b : ℕ) (position : ℤ) (counts : List ℕ) → length counts ≡ 3
      → Answered (MayEncoder numbers m grant a b position counts) (λ v. v) (turned (unless (first_of (mill_encoder_rows grant a b)) (encoder (at run) (length run) a b)) position counts)
  pub render_is : (start spp : Float) (width : ℕ) (output : List ℕ)
      → Answered (MayRender numbers m grant start spp width output) (λ v. v)
      (drawn (unless (first_of (view_rows (view_of start spp) width (length output))) (cut_pixels grant (row_by (node_of (at run)) (range_from (origin_of mark) (view_of start spp) (length run)) 0 width))) width output)

-- ---- "two recordings .. look alike to it, refusals too": whatever a mill asks of both, with equal arguments, codes and numbers are the same.
-- A mask may have any lines: one beyond the grant is refused
pub record MillAlike (grant : ℕ) (n₁ : List ℕ) (m₁ : Memory) (n₂ : List ℕ) (m₂ : Memory) : Type 0 where
  pub extents : (first end : ℤ) (marked : ℕ) → Agree (MayExtent n₁ m₁ first end marked) (MayExtent n₂ m₂ first end marked) (λ x. x)
  pub gets : (p : ℤ) (value : ℕ) → Agree (MayGet n₁ m₁ grant p value) (MayGet n₂ m₂ grant p value) (λ x. x)
  pub samples : (p : ℤ) (n : ℕ) (output : List ℕ) (old : ℕ) → Agree (MaySamples n₁ m₁ grant p n output old) (MaySamples n₂ m₂ grant p n output old) (λ x. x)
  pub summaries : (a b : ℤ) (node : List ℕ) → length node ≡ 3 → Agree (MaySummary n₁ m₁ grant a b node) (MaySummary n₂ m₂ grant a b node) (λ x. x)
  pub nexts : (mask : ℕ) (p old : ℤ) (read : ℕ) → Agree (MayNext n₁ m₁ grant mask p old read) (MayNext n₂ m₂ grant mask p old read) (λ x. x)
  pub previouses : (mask : ℕ) (p old : ℤ) (read : ℕ) → Agree (MayPrevious n₁ m₁ grant mask p old read) (MayPrevious n₂ m₂ grant mask p old read) (λ x. x)
  pub bursts : (mask : ℕ) (p : ℤ) (gap tolerance budget : ℕ) (first last : ℤ) (jumps : List ℕ) → length jumps ≡ 2 → (read : ℕ)
      → Agree (MayBurst n₁ m₁ grant mask p gap tolerance budget first last jumps read) (MayBurst n₂ m₂ grant mask p gap tolerance budget first last jumps read) (λ x. x)
  pub encoders : (a b : ℕ) (position : ℤ) (counts : List ℕ) → length counts ≡ 3 → Agree (MayEncoder n₁ m₁ grant a b position counts) (MayEncoder n₂ m₂ grant a b position counts) (λ x. x)
  pub pixels : (start spp : Float) (width : ℕ) (output : List ℕ) → Agree (MayRender n₁ m₁ grant start spp width output) (MayRender n₂ m₂ grant start spp width output) (λ x. x)

-- ---- the claim
-- "A mill must learn nothing of lines not granted: two recordings alike in length, mark and its lines, each with its whole memory lent, look alike to it,
-- refusals too." And what it is told is the run's
abbrev pub MillLearns : Type 0
MillLearns =
    (grant : ℕ) (one two : Recording)
    → MillAnswers grant (run one) (mark one) (asked one) one.memory.store
    × MillAnswers grant (run two) (mark two) (asked two) two.memory.store
    × (Same grant (run one) (mark one) (run two) (mark two) → MillAlike grant (asked one) one.memory.store (asked two) two.memory.store)

-- ---- 02, CR 6: what a mill is told of an encoder is what 02 says of one
abbrev pub SaysTurns : ℕ → List ℕ → Memory → ℕ → ℕ → Turns → Type 0
SaysTurns grant numbers m a b t = ReadsAs (MayEncoder numbers m grant a b) t

abbrev pub EncodersReplay : Type 0
EncodersReplay = (grant : ℕ) (r : Recording) → Replayed (run r) (SaysTurns grant (asked r) r.memory.store)

-- each mill with a grant of its own
abbrev pub EncodersReverse : Type 0
EncodersReverse =
    (grant₁ grant₂ : ℕ) (one two : Recording)
    → Reversed (run one) (SaysTurns grant₁ (asked one) one.memory.store) (run two) (SaysTurns grant₂ (asked two) two.memory.store)
