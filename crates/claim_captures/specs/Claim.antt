-- Captures with right levels, however they were made: each question's answer is 01's for the samples, and when two look alike to a viewer of chosen lines.
-- Recordings and captures that appends made are such. The claim speaks of the calls' own contracts: `Post` of a call's generated `Reads` is what its `ensures`
-- says of the arguments, the answer, and the memory after the call.
-- No range is asked of record, memory and the viewer's lines. In `LookAlike` a question's arguments range over what its parameters' types hold: nothing else can be asked.
use Rattle.std.specs.Prelude.{◌≡◌, false, List, [], ◌∷◌, ◌↔◌, ℕ, ◌*◌, ◌≤◌, ◌<◌, length, take}
use Rattle.std.specs.Prelude.{Option, Result, Ok}
use contract.Lifetimes.{Lfts}
use denote.Ref.{at_last}
use Rattle.rules.specs.Sample.{Word, all_lines, sample_of, list_from, Within}
use Rattle.rules.specs.Search.{summary, cut_summary, density}
use Rattle.rules.specs.Walk.{next_search, previous_search}
use Rattle.rules.specs.Burst.{burst_search}
use Rattle.rules.specs.Pixel.{render, cut_pixels}
use Rattle.rules.specs.Encoder.{Turns, encoder, pair_mask, pair_wrong, pair_row}
use Rattle.rules.specs.Refusal.{first_of, store_refusal, get_row, copied, copy_row, view_rows, top_line}
use Rattle.rules.specs.Answer.{Answer, given, unless, seen}
use Rattle.answer.specs.declared.Refusal.{Refusal}
use Rattle.answer.specs.declared.Counted.{Counted}
use Rattle.answer.specs.Answered.{answer_of, told_of}
use Rattle.node.specs.Memory.{Right}
use Rattle.node.specs.declared.Node.{Node}
use Rattle.capture.specs.declared.Capture.{Capture}
use Rattle.capture.specs.Record.{store_of, lent_of}
use Rattle.capture.proofs.get.Reads as get-call
use Rattle.capture.proofs.samples.Reads as samples-call
use Rattle.summary.specs.Summary.{summed_of}
use Rattle.summary.proofs.summary.Reads as summary-call
use Rattle.density.specs.Density.{changes_of}
use Rattle.density.proofs.density.Reads as density-call
use Rattle.search.specs.Answer.{found_of}
use Rattle.search.proofs.next_change.Reads as next-change
use Rattle.search.proofs.prev_change.Reads as prev-change
use Rattle.burst.specs.declared.Burst.{Burst}
use Rattle.burst.specs.Answer.{burst_as}
use Rattle.burst.proofs.burst_at.Reads as burst-at
use Rattle.encoder.specs.declared.Turns as call
use Rattle.encoder.specs.Answer.{encoded_of}
use Rattle.encoder.proofs.encoder.Reads as encoder-call
use Rattle.pixel.specs.declared.View.{View}
use Rattle.pixel.specs.Ranges.{view_as}
use Rattle.render.proofs.render.Reads as render-call
use Rattle.claim_captures.specs.Turns.{Replayed, Reversed}
use Rattle.claim_captures.specs.Words.{Memory, levels, at, Same, OfUnit, AddUp, Answered, Usize, F64, Agree, Ref, Places, lending}

-- ---- what each call may answer, by its contract; a question leaves what it was lent
abbrev pub MayGet : Capture → Memory → ℕ → Result ℕ Refusal → Type 0
MayGet c m i v = (κs : Lfts 1) × (p : Places) × get-call.Post κs (lending c p m (i, tt)) v (lending c p m (i, tt))

abbrev pub MaySummary : Capture → Memory → ℕ → ℕ → Result (Option Node) Refusal → Type 0
MaySummary c m a b v = (κs : Lfts 1) × (p : Places) × summary-call.Post κs (lending c p m (a, (b, tt))) v (lending c p m (a, (b, tt)))

abbrev pub MayDensity : Capture → Memory → ℕ → ℕ → Result ℕ Refusal → Type 0
MayDensity c m a b v = (κs : Lfts 1) × (p : Places) × density-call.Post κs (lending c p m (a, (b, tt))) v (lending c p m (a, (b, tt)))

abbrev pub MayNext : Capture → Memory → ℕ → ℕ → Result (Counted ℕ) Refusal → Type 0
MayNext c m mask from v = (κs : Lfts 1) × (p : Places) × next-change.Post κs (lending c p m (mask, (from, tt))) v (lending c p m (mask, (from, tt)))

abbrev pub MayPrevious : Capture → Memory → ℕ → ℕ → Result (Counted ℕ) Refusal → Type 0
MayPrevious c m mask from v = (κs : Lfts 1) × (p : Places) × prev-change.Post κs (lending c p m (mask, (from, tt))) v (lending c p m (mask, (from, tt)))

abbrev pub MayBurst : Capture → Memory → ℕ → ℕ → ℕ → ℕ → ℕ → Result (Counted Burst) Refusal → Type 0
MayBurst c m mask sample gap tolerance budget v =
    (κs : Lfts 1) × (p : Places)
    × burst-at.Post κs (lending c p m (mask, (sample, (gap, (tolerance, (budget, tt)))))) v (lending c p m (mask, (sample, (gap, (tolerance, (budget, tt))))))

abbrev pub MayEncoder : Capture → Memory → ℕ → ℕ → Result call.Turns Refusal → Type 0
MayEncoder c m a b v = (κs : Lfts 1) × (p : Places) × encoder-call.Post κs (lending c p m (a, (b, tt))) v (lending c p m (a, (b, tt)))

-- samples' answer, and the output after it
pub record Copying : Type 0 where
  pub answer : Result ℕ Refusal
  pub output : List ℕ

abbrev pub MaySamples : Capture → Memory → ℕ → ℕ → List ℕ → Copying → Type 0
MaySamples c m start count output v =
    (κs : Lfts 2) × (p : Places) × (o : Ref)
    × samples-call.Post κs (lending c p m (start, (count, (at_last o output, tt)))) v.answer (lending c p m (start, (count, (at_last o v.output, tt))))

-- 01's number of a refusal, or the samples: as many numbers of output as were copied
abbrev pub samples_of : List ℕ → Result ℕ Refusal → Answer (List ℕ)
samples_of output r = answer_of (λ k. take k output) r

abbrev pub samples_in : Copying → Answer (List ℕ)
samples_in v = samples_of v.output v.answer

-- render's answer, and the output after it
pub record Drawing : Type 0 where
  pub answer : Result Unit Refusal
  pub output : List ℕ

abbrev pub MayRender : Capture → Memory → View → ℕ → List ℕ → Drawing → Type 0
MayRender c m view width output v =
    (κs : Lfts 2) × (p : Places) × (o : Ref)
    × render-call.Post κs (lending c p m (view, (width, (at_last o output, tt)))) v.answer (lending c p m (view, (width, (at_last o v.output, tt))))

-- 01's number of a refusal, or the pixels: the first 2 × width numbers of output
abbrev pub pixels_of : ℕ → List ℕ → Result Unit Refusal → Answer (List ℕ)
pixels_of width output r = answer_of (λ _. take (2 * width) output) r

abbrev pub pixels_in : ℕ → Drawing → Answer (List ℕ)
pixels_in width v = pixels_of width v.output v.answer

-- ---- captures
-- a record and memory that hold a run and its mark, with right levels: rows 1 and 2 let them pass
pub record Held (run : List ℕ) (mark : Option ℕ) (c : Capture) (m : Memory) : Type 0 where
  pub passes : store_refusal (store_of c) (lent_of m.samples (levels m)) ≡ 0
  pub len_is : c.len ≡ length run
  pub mark_is : c.trigger ≡ mark
  pub samples_are : (i : ℕ) → i < length run → sample_of c.unitsize m.samples i ≡ at run i
  pub levels_right : Right (at run) (length run) (levels m)
  pub words : OfUnit c.unitsize (at run) (length run)

-- ---- answers
-- each answer is 01's for the run. A search's count of nodes read is the steps of 01's walk over it (02, CR 3). Rows 1 and 2 refuse no question; 9 refuses get, 10 and 11, `view_rows`, render, and 11 samples
pub record Answers (run : List ℕ) (c : Capture) (m : Memory) : Type 0 where
  pub get_is : (i : ℕ) → Answered (MayGet c m i) told_of (unless (first_of (get_row (length run) i ∷ [])) (at run i))
  pub samples_are : (start count : ℕ) (output : List ℕ)
      → Answered (MaySamples c m start count output) samples_in
      (unless (first_of (copy_row (length run) start count (length output) ∷ [])) (list_from (at run) start (copied (length run) start count)))
  pub summary_is : (a b : ℕ) → Answered (MaySummary c m a b) summed_of (given (summary (at run) (length run) a b))
  -- 02, CR 5: "the number of changes in [a,b)"
  pub density_is : (a b : ℕ) → Answered (MayDensity c m a b) changes_of (given (density (at run) (length run) a b))
  pub next_is : (mask from : ℕ) → Answered (MayNext c m mask from) found_of (given (next_search (at run) (length run) mask from))
  pub previous_is : (mask from : ℕ) → Answered (MayPrevious c m mask from) found_of (given (previous_search (at run) (length run) mask from))
  pub burst_is : (mask sample gap tolerance budget : ℕ)
      → Answered (MayBurst c m mask sample gap tolerance budget) burst_as (given (burst_search (at run) (length run) mask sample gap tolerance budget))
  -- 02, CR 6; 14 refuses it
  pub encoder_is : (a b : ℕ) → Answered (MayEncoder c m a b) encoded_of (unless (first_of (pair_row top_line a b ∷ [])) (encoder (at run) (length run) a b))
  pub render_is : (view : View) (width : ℕ) (output : List ℕ)
      → Answered (MayRender c m view width output) (pixels_in width)
      (unless (first_of (view_rows (view_as view) width (length output))) (render (at run) (length run) (view_as view) width))

-- ---- looking alike
-- "the two recordings look alike to a viewer of chosen lines", v
pub record LookAlike (v : ℕ) (c₁ : Capture) (m₁ : Memory) (c₂ : Capture) (m₂ : Memory) : Type 0 where
  -- "the same length, the same mark,"
  pub lens : c₁.len ≡ c₂.len
  pub marks : c₁.trigger ≡ c₂.trigger
  -- "the same summaries and pixels cut down to those lines,"
  pub summaries : (a b : ℕ) → Usize a → Usize b → Agree (MaySummary c₁ m₁ a b) (MaySummary c₂ m₂ a b) (λ x. seen (cut_summary v) (summed_of x))
  pub pixels : (view : View) (width : ℕ) → F64 view.start → F64 view.spp → Usize width
      → (output₁ output₂ : List ℕ) → length output₁ ≡ length output₂ → Usize (length output₁)
      → Agree (MayRender c₁ m₁ view width output₁) (MayRender c₂ m₂ view width output₂) (λ x. seen (cut_pixels v) (pixels_in width x))
  -- "and the same next, previous and burst answers, jumps included, for every mask within them"; each has its count of nodes read (02, CR 3:
  -- "two recordings that look alike to a viewer also give equal counts for every mask within the viewer's lines")
  pub nexts : (mask from : ℕ) → Word mask → Within mask v → Usize from → Agree (MayNext c₁ m₁ mask from) (MayNext c₂ m₂ mask from) found_of
  pub previouses : (mask from : ℕ) → Word mask → Within mask v → Usize from → Agree (MayPrevious c₁ m₁ mask from) (MayPrevious c₂ m₂ mask from) found_of
  pub bursts : (mask sample gap tolerance budget : ℕ) → Word mask → Within mask v → Usize sample → Usize gap → Usize tolerance → Usize budget
      → Agree (MayBurst c₁ m₁ mask sample gap tolerance budget) (MayBurst c₂ m₂ mask sample gap tolerance budget) burst_as
  -- 02, CR 6: an encoder on two of those lines; what 14 refuses is refused by both
  pub encoders : (a b : ℕ) → Usize a → Usize b → (pair_wrong top_line a b ≡ false → Within (pair_mask a b) v) → Agree (MayEncoder c₁ m₁ a b) (MayEncoder c₂ m₂ a b) encoded_of
  -- 02, CR 5: "Since it tells of every line, .. alikeness covers it only for a viewer who chose all lines": densities, and summaries with their counts
  pub densities : v ≡ all_lines → (a b : ℕ) → Usize a → Usize b → Agree (MayDensity c₁ m₁ a b) (MayDensity c₂ m₂ a b) changes_of
  pub counts : v ≡ all_lines → (a b : ℕ) → Usize a → Usize b → Agree (MaySummary c₁ m₁ a b) (MaySummary c₂ m₂ a b) summed_of

-- ---- the claims
-- two captures that hold a run each: "Each of these answers .. is 01's for its run", and they look alike exactly when the runs are the same to the viewer
abbrev pub CapturesAlike : Type 0
CapturesAlike =
    (run₁ : List ℕ) (mark₁ : Option ℕ) (c₁ : Capture) (m₁ : Memory) (run₂ : List ℕ) (mark₂ : Option ℕ) (c₂ : Capture) (m₂ : Memory)
    → Held run₁ mark₁ c₁ m₁
    → Held run₂ mark₂ c₂ m₂
    → (v : ℕ)
    → Answers run₁ c₁ m₁
    × Answers run₂ c₂ m₂
    × (LookAlike v c₁ m₁ c₂ m₂ ↔ Same v run₁ mark₁ run₂ mark₂)

-- whatever the call answers of each stored range, `part`, adds up
abbrev pub Additive : List ℕ → Capture → Memory → Type 0
Additive run c m = (part : ℕ → ℕ → ℕ) → ((x y : ℕ) → x < y → y ≤ length run → MayDensity c m x y (Ok (part x y))) → AddUp run part

abbrev pub DensitiesAdd : Type 0
DensitiesAdd = (run : List ℕ) (mark : Option ℕ) (c : Capture) (m : Memory) → Held run mark c m → Additive run c m

-- ---- 02, CR 6: encoders
-- the call may answer t for lines a and b
abbrev pub SaysTurns : Capture → Memory → ℕ → ℕ → Turns → Type 0
SaysTurns c m a b t = (v : Result call.Turns Refusal) × MayEncoder c m a b v × (encoded_of v ≡ given t)

-- what it answers of a run, and of two runs of which one is the other in reverse
abbrev pub EncodersReplay : Type 0
EncodersReplay = (run : List ℕ) (mark : Option ℕ) (c : Capture) (m : Memory) → Held run mark c m → Replayed run (SaysTurns c m)

abbrev pub EncodersReverse : Type 0
EncodersReverse =
    (run₁ : List ℕ) (mark₁ : Option ℕ) (c₁ : Capture) (m₁ : Memory) (run₂ : List ℕ) (mark₂ : Option ℕ) (c₂ : Capture) (m₂ : Memory)
    → Held run₁ mark₁ c₁ m₁
    → Held run₂ mark₂ c₂ m₂
    → Reversed run₁ (SaysTurns c₁ m₁) run₂ (SaysTurns c₂ m₂)
