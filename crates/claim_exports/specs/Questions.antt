-- The questions that a program asks of a capture through the exports, to be held beside include/logic_core.h: their codes, what stands behind their out pointers, and
-- when two captures look alike to a viewer of chosen lines. A capture is its record's five numbers and its memory.
-- `Post` of an export's generated `Reads` is what its `ensures` says of the arguments, the code, and what stands behind its pointers afterwards.
use Rattle.std.specs.Prelude.{◌≡◌, false, cond, List, [], ◌∷◌, ◌++◌, ℕ, ◌*◌, ◌≤◌, ◌<◌, eqb, Float, ℤ, length, drop, Option, None, Some}
use contract.Lifetimes.{Lfts}
use denote.Ref.{MutBor, at_last}
use Rattle.rules.specs.Sample.{list_from, Word, all_lines, Within}
use Rattle.rules.specs.Node.{Node, Lines}
use Rattle.rules.specs.Search.{summary, density}
use Rattle.rules.specs.Walk.{next_search, previous_search}
use Rattle.rules.specs.Burst.{Burst, burst_search}
use Rattle.rules.specs.Pixel.{View, render, cut_pixels}
use Rattle.rules.specs.Encoder.{Turns, encoder, pair_mask, pair_wrong, pair_row}
use Rattle.rules.specs.Refusal.{first_of, get_row, copied, copy_row, view_rows, top_line}
use Rattle.rules.specs.Answer.{Answer, refused, given, unless}
use Rattle.capture.specs.Numbers.{len_in, marked_in, mark_place_in}
use Rattle.logic_core.proofs.lc_get.Reads as lc-get
use Rattle.logic_core.proofs.lc_samples.Reads as lc-samples
use Rattle.logic_core.proofs.lc_summary.Reads as lc-summary
use Rattle.logic_core.proofs.lc_density.Reads as lc-density
use Rattle.logic_core.proofs.lc_next_change.Reads as lc-next-change
use Rattle.logic_core.proofs.lc_prev_change.Reads as lc-prev-change
use Rattle.logic_core.proofs.lc_burst_at.Reads as lc-burst-at
use Rattle.logic_core.proofs.lc_encoder.Reads as lc-encoder
use Rattle.logic_core.proofs.lc_render.Reads as lc-render
use Rattle.codes.specs.Turned.{turns_in}
use Rattle.claim_captures.specs.Words.{Memory, at, AddUp, Answered, Agree, Usize, F64, Ref, Shown, Places, shown_at}

-- ---- the record's numbers: which is which, capture.specs.Numbers says
abbrev pub mark_in : List ℕ → Option ℕ
mark_in numbers = cond (eqb (marked_in numbers) 0) None (Some (mark_place_in numbers))

-- a number behind a pointer
abbrev pub One : Type 0
One = MutBor ℕ

-- and a signed one
abbrev pub Signed : Type 0
Signed = MutBor ℤ

-- arguments of an export: its record's numbers, the memory that is lent, slice by slice, and the others
abbrev pub lending : {A B : Type 0} → A → Places → Memory → B → A × (Shown × (Shown × (Shown × (Shown × (Shown × B)))))
lending c p m others = (c, (shown_at p.samples m.samples, (shown_at p.l1 m.l1, (shown_at p.l2 m.l2, (shown_at p.l3 m.l3, (shown_at p.l4 m.l4, others))))))

-- ---- lc_get: the code, and the number behind `value`
pub record Got : Type 0 where
  pub code : ℕ
  pub value : ℕ

abbrev pub MayGet : List ℕ → Memory → ℕ → ℕ → Got → Type 0
MayGet numbers m i value v =
    (κs : Lfts 4) × (n : Ref) × (p : Places) × (o : One)
    × lc-get.Post κs (lending (shown_at n numbers) p m (i, (at_last o value, tt))) v.code (lending (shown_at n numbers) p m (i, (at_last o v.value, tt)))

-- 0 with the number; a refusal's, and what stood there
abbrev pub got : Answer ℕ → ℕ → Got
got (refused n) old = record { code = n; value = old }
got (given x) old = record { code = 0; value = x }

-- ---- lc_samples: the code, the number behind `copied`, and output
pub record Copied : Type 0 where
  pub code : ℕ
  pub copied : ℕ
  pub output : List ℕ

abbrev pub MaySamples : List ℕ → Memory → ℕ → ℕ → List ℕ → ℕ → Copied → Type 0
MaySamples numbers m start count output old v =
    (κs : Lfts 5) × (n : Ref) × (p : Places) × (o : Ref) × (k : One)
    × lc-samples.Post κs (lending (shown_at n numbers) p m (start, (count, (at_last o output, (at_last k old, tt))))) v.code (lending (shown_at n numbers) p m (start, (count, (at_last o v.output, (at_last k v.copied, tt)))))

-- 0 with the samples, and after them what output held; a refusal's number, and all as it was
abbrev pub copies : Answer (List ℕ) → List ℕ → ℕ → Copied
copies (refused n) output old = record { code = n; copied = old; output = output }
copies (given samples) output old = record { code = 0; copied = length samples; output = samples ++ drop (length samples) output }

-- ---- lc_summary: the code, the three numbers behind `node`, and the one behind `count`
pub record Summed : Type 0 where
  pub code : ℕ
  pub node : List ℕ
  pub count : ℕ

abbrev pub MaySummary : List ℕ → Memory → ℕ → ℕ → List ℕ → ℕ → Summed → Type 0
MaySummary numbers m a b node count v =
    (κs : Lfts 5) × (n : Ref) × (p : Places) × (o : Ref) × (k : One)
    × lc-summary.Post κs (lending (shown_at n numbers) p m (a, (b, (at_last o node, (at_last k count, tt))))) v.code (lending (shown_at n numbers) p m (a, (b, (at_last o v.node, (at_last k v.count, tt)))))

-- 0 with first, last, toggles and the count; 100 where the range is empty
abbrev pub summed : Option Node → List ℕ → ℕ → Summed
summed None old count = record { code = 100; node = old; count = count }
summed (Some n) old count = record { code = 0; node = n.first ∷ n.last ∷ n.toggles ∷ []; count = n.count }

-- what is told of chosen lines has no count
pub record CutSummed : Type 0 where
  pub code : ℕ
  pub node : List ℕ

abbrev pub cut_summed : Option Lines → List ℕ → CutSummed
cut_summed None old = record { code = 100; node = old }
cut_summed (Some n) old = record { code = 0; node = n.first ∷ n.last ∷ n.toggles ∷ [] }

-- ---- lc_density: the code, and the number behind `count`; `got` says what they are
abbrev pub MayDensity : List ℕ → Memory → ℕ → ℕ → ℕ → Got → Type 0
MayDensity numbers m a b count v =
    (κs : Lfts 4) × (n : Ref) × (p : Places) × (k : One)
    × lc-density.Post κs (lending (shown_at n numbers) p m (a, (b, (at_last k count, tt)))) v.code (lending (shown_at n numbers) p m (a, (b, (at_last k v.value, tt))))

-- ---- lc_next_change and lc_prev_change: the code, and the numbers behind `place` and `read`
pub record Found : Type 0 where
  pub code : ℕ
  pub place : ℕ
  pub read : ℕ

abbrev pub MayNext : List ℕ → Memory → ℕ → ℕ → ℕ → ℕ → Found → Type 0
MayNext numbers m mask from place read v =
    (κs : Lfts 5) × (n : Ref) × (p : Places) × (o r : One)
    × lc-next-change.Post κs (lending (shown_at n numbers) p m (mask, (from, (at_last o place, (at_last r read, tt))))) v.code (lending (shown_at n numbers) p m (mask, (from, (at_last o v.place, (at_last r v.read, tt)))))

abbrev pub MayPrevious : List ℕ → Memory → ℕ → ℕ → ℕ → ℕ → Found → Type 0
MayPrevious numbers m mask from place read v =
    (κs : Lfts 5) × (n : Ref) × (p : Places) × (o r : One)
    × lc-prev-change.Post κs (lending (shown_at n numbers) p m (mask, (from, (at_last o place, (at_last r read, tt))))) v.code (lending (shown_at n numbers) p m (mask, (from, (at_last o v.place, (at_last r v.read, tt)))))

-- 0 with the place; 100 where there is none; the nodes read either way
abbrev pub found : Option ℕ → ℕ → ℕ → Found
found None steps old = record { code = 100; place = old; read = steps }
found (Some i) steps old = record { code = 0; place = i; read = steps }

-- ---- lc_burst_at: the code, the four numbers behind `ends`, and the one behind `read`
pub record Bursted : Type 0 where
  pub code : ℕ
  pub ends : List ℕ
  pub read : ℕ

abbrev pub MayBurst : List ℕ → Memory → ℕ → ℕ → ℕ → ℕ → ℕ → List ℕ → ℕ → Bursted → Type 0
MayBurst numbers m mask sample gap tolerance budget ends read v =
    (κs : Lfts 5) × (n : Ref) × (p : Places) × (o : Ref) × (r : One)
    × lc-burst-at.Post κs (lending (shown_at n numbers) p m (mask, (sample, (gap, (tolerance, (budget, (at_last o ends, (at_last r read, tt)))))))) v.code
    (lending (shown_at n numbers) p m (mask, (sample, (gap, (tolerance, (budget, (at_last o v.ends, (at_last r v.read, tt))))))))

-- 0 with first, last, the jumps at the end and at the start; 100 where there is none; the nodes read either way
abbrev pub bursted : Option Burst → ℕ → List ℕ → Bursted
bursted None steps old = record { code = 100; ends = old; read = steps }
bursted (Some b) steps old = record { code = 0; ends = b.first ∷ b.last ∷ b.jumps_end ∷ b.jumps_start ∷ []; read = steps }

-- ---- lc_encoder: the code, the number behind `position`, and the three behind `counts`
pub record Turned : Type 0 where
  pub code : ℕ
  pub position : ℤ
  pub counts : List ℕ

abbrev pub MayEncoder : List ℕ → Memory → ℕ → ℕ → ℤ → List ℕ → Turned → Type 0
MayEncoder numbers m a b position counts v =
    (κs : Lfts 5) × (n : Ref) × (p : Places) × (o : Signed) × (k : Ref)
    × lc-encoder.Post κs (lending (shown_at n numbers) p m (a, (b, (at_last o position, (at_last k counts, tt))))) v.code (lending (shown_at n numbers) p m (a, (b, (at_last o v.position, (at_last k v.counts, tt)))))

-- 0 with the position, and forward, backward and skipped; a refusal's number, and what stood there
abbrev pub turned : Answer Turns → ℤ → List ℕ → Turned
turned (refused n) position counts = record { code = n; position = position; counts = counts }
turned (given t) position counts = record { code = 0; position = t.position; counts = t.forward ∷ t.backward ∷ t.skipped ∷ [] }

-- ---- lc_render: the code, and output
pub record Drawn : Type 0 where
  pub code : ℕ
  pub output : List ℕ

abbrev pub view_of : Float → Float → View
view_of start spp = record { start = start; spp = spp }

abbrev pub MayRender : List ℕ → Memory → Float → Float → ℕ → List ℕ → Drawn → Type 0
MayRender numbers m start spp width output v =
    (κs : Lfts 4) × (n : Ref) × (p : Places) × (o : Ref)
    × lc-render.Post κs (lending (shown_at n numbers) p m (start, (spp, (width, (at_last o output, tt))))) v.code (lending (shown_at n numbers) p m (start, (spp, (width, (at_last o v.output, tt)))))

-- 0 with the pixels, and after them what output held; a refusal's number, and output as it was
abbrev pub drawn : Answer (List ℕ) → ℕ → List ℕ → Drawn
drawn (refused n) width old = record { code = n; output = old }
drawn (given pixels) width old = record { code = 0; output = pixels ++ drop (2 * width) old }

-- ---- "Each of these answers .. is 01's for its run"
pub record Answers (run : List ℕ) (numbers : List ℕ) (m : Memory) : Type 0 where
  pub get_is : (i value : ℕ) → Answered (MayGet numbers m i value) (λ v. v) (got (unless (first_of (get_row (length run) i ∷ [])) (at run i)) value)
  pub samples_are : (start count : ℕ) (output : List ℕ) (old : ℕ)
      → Answered (MaySamples numbers m start count output old) (λ v. v)
      (copies (unless (first_of (copy_row (length run) start count (length output) ∷ [])) (list_from (at run) start (copied (length run) start count))) output old)
  pub summary_is : (a b : ℕ) (node : List ℕ) → length node ≡ 3 → (count : ℕ) → Answered (MaySummary numbers m a b node count) (λ v. v) (summed (summary (at run) (length run) a b) node count)
  -- 02, CR 5: "the number of changes in [a,b)"
  pub density_is : (a b count : ℕ) → Answered (MayDensity numbers m a b count) (λ v. v) (got (given (density (at run) (length run) a b)) count)
  pub next_is : (mask from place read : ℕ)
      → Answered (MayNext numbers m mask from place read) (λ v. v) (found (next_search (at run) (length run) mask from).found (next_search (at run) (length run) mask from).steps place)
  pub previous_is : (mask from place read : ℕ)
      → Answered (MayPrevious numbers m mask from place read) (λ v. v) (found (previous_search (at run) (length run) mask from).found (previous_search (at run) (length run) mask from).steps place)
  pub burst_is : (mask sample gap tolerance budget : ℕ) (ends : List ℕ) → length ends ≡ 4 → (read : ℕ)
      → Answered (MayBurst numbers m mask sample gap tolerance budget ends read) (λ v. v)
      (bursted (burst_search (at run) (length run) mask sample gap tolerance budget).found (burst_search (at run) (length run) mask sample gap tolerance budget).steps ends)
  -- 02, CR 6; 14 refuses it
  pub encoder_is : (a b : ℕ) (position : ℤ) (counts : List ℕ) → length counts ≡ 3
      → Answered (MayEncoder numbers m a b position counts) (λ v. v) (turned (unless (first_of (pair_row top_line a b ∷ [])) (encoder (at run) (length run) a b)) position counts)
  pub render_is : (start spp : Float) (width : ℕ) (output : List ℕ)
      → Answered (MayRender numbers m start spp width output) (λ v. v)
      (drawn (unless (first_of (view_rows (view_of start spp) width (length output))) (render (at run) (length run) (view_of start spp) width)) width output)

-- ---- looking alike
-- "Cutting down takes first, last and toggles AND that mask", and no count
abbrev pub cut_node : ℕ → Summed → CutSummed
cut_node v t = record { code = t.code; node = cut_pixels v t.node }

abbrev pub cut_drawn : ℕ → Drawn → Drawn
cut_drawn v t = record { code = t.code; output = cut_pixels v t.output }

-- "the two recordings look alike to a viewer of chosen lines", v: the same codes and the same numbers behind the out pointers, asked with equal arguments, what stands
-- behind the pointers before included; all arguments range over what their types hold
pub record LookAlike (v : ℕ) (n₁ : List ℕ) (m₁ : Memory) (n₂ : List ℕ) (m₂ : Memory) : Type 0 where
  -- "the same length, the same mark,"
  pub lens : len_in n₁ ≡ len_in n₂
  pub marks : mark_in n₁ ≡ mark_in n₂
  -- "the same summaries and pixels cut down to those lines,"
  pub summaries : (a b : ℕ) → Usize a → Usize b → (node : List ℕ) → length node ≡ 3 → (count : ℕ) → Agree (MaySummary n₁ m₁ a b node count) (MaySummary n₂ m₂ a b node count) (cut_node v)
  pub pixels : (start spp : Float) (width : ℕ) → F64 start → F64 spp → Usize width → (output : List ℕ) → Usize (length output)
      → Agree (MayRender n₁ m₁ start spp width output) (MayRender n₂ m₂ start spp width output) (cut_drawn v)
  -- "and the same next, previous and burst answers, jumps included, for every mask within them"; each with the nodes read (02, CR 3)
  pub nexts : (mask from : ℕ) → Word mask → Within mask v → Usize from → (place read : ℕ) → Agree (MayNext n₁ m₁ mask from place read) (MayNext n₂ m₂ mask from place read) (λ x. x)
  pub previouses : (mask from : ℕ) → Word mask → Within mask v → Usize from → (place read : ℕ) → Agree (MayPrevious n₁ m₁ mask from place read) (MayPrevious n₂ m₂ mask from place read) (λ x. x)
  pub bursts : (mask sample gap tolerance budget : ℕ) → Word mask → Within mask v → Usize sample → Usize gap → Usize tolerance → Usize budget
      → (ends : List ℕ) → length ends ≡ 4 → (read : ℕ)
      → Agree (MayBurst n₁ m₁ mask sample gap tolerance budget ends read) (MayBurst n₂ m₂ mask sample gap tolerance budget ends read) (λ x. x)
  -- 02, CR 6: an encoder on two of those lines; what 14 refuses is refused by both
  pub encoders : (a b : ℕ) → Usize a → Usize b → (pair_wrong top_line a b ≡ false → Within (pair_mask a b) v) → (position : ℤ) (counts : List ℕ) → length counts ≡ 3
      → Agree (MayEncoder n₁ m₁ a b position counts) (MayEncoder n₂ m₂ a b position counts) (λ x. x)
  -- 02, CR 5: "Since it tells of every line, .. alikeness covers it only for a viewer who chose all lines": densities, and summaries with their counts
  pub densities : v ≡ all_lines → (a b : ℕ) → Usize a → Usize b → (count : ℕ) → Agree (MayDensity n₁ m₁ a b count) (MayDensity n₂ m₂ a b count) (λ x. x)
  pub counts : v ≡ all_lines → (a b : ℕ) → Usize a → Usize b → (node : List ℕ) → length node ≡ 3 → (count : ℕ) → Agree (MaySummary n₁ m₁ a b node count) (MaySummary n₂ m₂ a b node count) (λ x. x)

-- ---- densities add up
-- whatever lc_density puts behind `count` for each stored range, `part`, adds up
abbrev pub Additive : List ℕ → List ℕ → Memory → Type 0
Additive run numbers m =
    (part : ℕ → ℕ → ℕ) (count : ℕ) → ((x y : ℕ) → x < y → y ≤ length run → MayDensity numbers m x y count (record { code = 0; value = part x y })) → AddUp run part

-- ---- 02, CR 6: encoders
-- an export that may answer so gives code 0, and what stands behind its pointers then reads back as t
pub record ReadsAs (may : ℤ → List ℕ → Turned → Type 0) (t : Turns) : Type 0 where
  pub position : ℤ
  pub counts : List ℕ
  pub size : length counts ≡ 3
  pub answer : Turned
  pub allowed : may position counts answer
  pub yes : answer.code ≡ 0
  pub reads : turns_in answer.position answer.counts ≡ t

abbrev pub SaysTurns : List ℕ → Memory → ℕ → ℕ → Turns → Type 0
SaysTurns numbers m a b t = ReadsAs (MayEncoder numbers m a b) t
