-- Asked with a record and memory that hold a run, each question's contract allows 01's answer for the run, and no other.
use mathlib.Core.Path.{◌≡◌, refl, sym, ap, ap₂, ◌∙◌, subst⁻¹}
use mathlib.Core.List.{List, [], ◌∷◌}
use Rattle.std.specs.Prelude.{Option, None, Some, Result}
use Rattle.std.specs.Option.{option_map}
use Prim.Native.Nat.{ℕ, zero, suc, ◌+◌, ◌*◌, ◌≤◌, ◌<◌}
use native.Mathlib.Nat.{zero-lt-suc}
use native.Mathlib.Omega.{arith}
use lib.Dec.{leb}
use lib.ListN.{length, take, drop}
use lib.Seq.{take_at}
use borrow.Author.Tests.{leb-false}
use contract.Lifetimes.{Lfts}
use denote.Ref.{at_last}
use Rattle.rules.specs.Reading.{copied_to}
use Rattle.rules.specs.Sample.{sample_of, list_from}
use Rattle.rules.specs.Node.{node_of, most_count, top_level}
use Rattle.rules.specs.Node as rule
use Rattle.rules.specs.Search.{summary, count_in, density}
use Rattle.rules.specs.Walk.{Counted, next_walk, previous_walk, all_levels, next_search, previous_search}
use Rattle.rules.specs.Burst.{burst_search, bursted_by}
use Rattle.rules.specs.Burst as rule-burst
use Rattle.rules.specs.Pixel.{pixel_range, render}
use Rattle.rules.specs.Encoder.{Turns, encoder, pair_row}
use Rattle.rules.specs.Refusal.{top_line, Row, Lent, first_of, store_rows, store_refusal, get_row, copied, copy_row, samples_refusal, view_rows, render_refusal}
use Rattle.rules.specs.Answer.{Answer, given, unless, unrefused}
use Rattle.rules.proofs.Sample.{list_length, list_same}
use Rattle.rules.proofs.Refusal.{Sound, sound, row_passed, rows_left}
use Rattle.rules.proofs.Row.{row_length}
use Rattle.claim_alike.proofs.Rows.{AllKnown, result_for}
use Rattle.claim_alike.proofs.Below.{summary_below, density_below, encoder_below, render_below, next_below, previous_below, burst_below}
use Rattle.answer.specs.declared.Refusal.{Refusal}
use Rattle.answer.specs.declared.Refusal.TheVariants.{Place, View, Output, Pair}
use Rattle.answer.specs.declared.Counted as call-counted
use Rattle.answer.specs.Answered.{answer_of, counted_of, told_of}
use Rattle.node.specs.declared.Node.{Node}
use Rattle.node.specs.declared.Memory as node
use Rattle.node.specs.Memory.{as_node, level_of, reader_of, Right}
use Rattle.rebuild.proofs.Right.{right_same}
use Rattle.capture.specs.declared.Capture.{Capture}
use Rattle.capture.specs.Record.{store_of, lent_of}
use Rattle.summary.specs.Summary.{summed_of, summary_of, summed}
use Rattle.summary.proofs.Answers.{summary_right}
use Rattle.density.specs.Density.{changes_of}
use Rattle.density.proofs.Answers.{density_right}
use Rattle.search.specs.Answer.{found_of, next_of, previous_of}
use Rattle.search.proofs.Change.{next_right, previous_right}
use Rattle.burst.specs.declared.Burst.{Burst}
use Rattle.burst.specs.Answer.{bursts_as, back, fore, burst_as, burst_of}
use Rattle.burst.proofs.Answers.{burst_right}
use Rattle.encoder.specs.declared.Turns as call
use Rattle.encoder.specs.Hops.{hops_of}
use Rattle.encoder.specs.Answer.{as_turns, encoded_of, encoder_of}
use Rattle.encoder.proofs.Answers.{encoder_right}
use Rattle.pixel.specs.declared.View as pixel
use Rattle.pixel.specs.Ranges.{view_as}
use Rattle.render.specs.Render.{drawn}
use Rattle.render.proofs.Answers.{render_row}
use Rattle.claim_captures.specs.Words.{Memory, levels, at, Answered, Ref, Places, shown}
use Rattle.claim_captures.specs.Claim.{MayGet, MaySummary, MayDensity, MayNext, MayPrevious, MayBurst, MayEncoder, MaySamples, MayRender, samples_in, pixels_in, Held, Answers}
use Rattle.claim_captures.proofs.Rows.{store_told, answer_seen}

-- ---- the code's value for each of the rules'
pub summary_for : (a : Option rule.Node) → (x : Option Node) × (option_map as_node x ≡ a)
summary_for None = (None, refl)
summary_for (Some n) = (Some (record { first = n.first; last = n.last; mask = n.toggles; count = n.count }), refl)

pub found_for : {A : Type 0} (a : Counted A) → (x : call-counted.Counted A) × (counted_of x ≡ a)
found_for w = (record { found = w.found; steps = w.steps }, refl)

pub turns_for : (a : Turns) → (x : call.Turns) × (as_turns x ≡ a)
turns_for t = (record { position = t.position; forward = t.forward; backward = t.backward; skipped = t.skipped }, refl)

pub burst_for : (a : Counted rule-burst.Burst) → (x : call-counted.Counted Burst) × (bursts_as x ≡ a)
burst_for w = go w.found refl
  where
    go : (o : Option rule-burst.Burst) → o ≡ w.found → (x : call-counted.Counted Burst) × (bursts_as x ≡ w)
    go None e = (record { found = None; steps = w.steps }, λ i. record { found = e i; steps = w.steps })
    go (Some b) e = (record { found = Some (record { first = b.first; last = b.last; jumps_end = b.jumps_end; jumps_start = b.jumps_start }); steps = w.steps }, λ i. record { found = e i; steps = w.steps })

pub copied_list : (f : ℕ → ℕ) (i n count : ℕ) (output o : List ℕ) → o ≡ copied_to f i (unrefused n count) output → n ≡ 0 → take count o ≡ list_from f i count
unfolding copied_to
copied_list f i n count output o e z = ap (take count) (e ∙ ap (λ (j : ℕ). copied_to f i (unrefused j count) output) z) ∙ take_at (list_from f i count) (drop count output) count (list_length f i count)

-- samples that are copied are stored ones
pub copied_inside : (len start n i : ℕ) → i < copied len start n → start + i < len
copied_inside len start n i h = omega arith

-- ---- rows
-- what is refused need not be the same
pub unless_same : {A : Type 0} (n : ℕ) (x y : A) → (n ≡ 0 → x ≡ y) → unless n x ≡ unless n y
unless_same zero x y e = ap given (e refl)
unless_same (suc n) x y e = refl

-- ---- some reference
pub anywhere : Ref
anywhere = record { ref_ptr = (0, 0); ghost_name = 0; now = [] }

pub somewhere : Places
somewhere = record { samples = anywhere; l1 = anywhere; l2 = anywhere; l3 = anywhere; l4 = anywhere }

-- memory whose levels are those of a function
pub four_levels : (f : ℕ → List ℕ) (l : ℕ) → 1 ≤ l → l ≤ top_level → level_of (f 1) (f 2) (f 3) (f 4) l ≡ f l
unfolding level_of
four_levels f zero p q = absurd (omega arith)
four_levels f (suc zero) p q = refl
four_levels f (suc (suc zero)) p q = refl
four_levels f (suc (suc (suc zero))) p q = refl
four_levels f (suc (suc (suc (suc zero)))) p q = refl
four_levels f (suc (suc (suc (suc (suc l))))) p q = absurd (omega arith)

-- a question whose contract is `told v ≡ asked`: where that comes to x, it is told x
pub allowing : {X A : Type 0} (told : X → Answer A) {asked x : Answer A} → (v : X) × (told v ≡ asked) → ((v : X) → told v ≡ asked → told v ≡ x)
    → Answered (λ v. (κs : Lfts 1) × (p : Places) × (told v ≡ asked)) told x
allowing told some is = record { is = λ v may. is v may.2; answer = some.0; allowed = (([], tt), somewhere, some.1) }

module _ {run : List ℕ} {mark : Option ℕ} (c : Capture) (m : Memory) (h : Held run mark c m) where
  -- the samples in memory, and the record's mark
  abbrev t : ℕ → ℕ
  t = sample_of c.unitsize m.samples

  abbrev k : Option ℕ
  k = c.trigger

  abbrev lent : Lent
  lent = lent_of m.samples (levels m)

  pub agree : (i : ℕ) → i < c.len → t i ≡ at run i
  agree i l = h.samples_are i (omega (arith, h.len_is))

  -- the store's bounds
  pub bounds : Sound (store_of c) lent
  bounds = sound (store_of c) lent h.passes

  -- the levels are right for the samples in memory
  pub right : Right t c.len (levels m)
  right = right_same (at run) t (levels m) c.len (λ i l. sym (agree i l)) (subst⁻¹ (λ (n : ℕ). Right (at run) n (levels m)) h.len_is h.levels_right)

  -- rows 1 and 2 do not refuse, the record's length and mark are the run's, and so are the samples below that length
  pub asked_run : {A : Type 0} (rows : Option ℕ → ℕ → List Row) (rule : (ℕ → ℕ) → Option ℕ → ℕ → A)
      → (first_of (rows k c.len) ≡ 0 → rule t k c.len ≡ rule (at run) k c.len)
      → unless (first_of (store_rows (store_of c) lent (rows k c.len))) (rule t k c.len) ≡ unless (first_of (rows mark (length run))) (rule (at run) mark (length run))
  asked_run rows rule e =
      ap (λ (n : ℕ). unless n (rule t k c.len)) (rows_left (store_of c) lent h.passes (rows k c.len))
      ∙ unless_same (first_of (rows k c.len)) (rule t k c.len) (rule (at run) k c.len) e
      ∙ ap₂ (λ (x : Option ℕ) (n : ℕ). unless (first_of (rows x n)) (rule (at run) x n)) h.mark_is h.len_is

  -- a question that only rows 1 and 2 may refuse: where on right levels its contract is a rule's answer over memory, it is the rule's over the run
  answered : {X A : Type 0} (told : X → Answer A) {asked : Answer A} → (v : X) × (told v ≡ asked) → (rule-of : (ℕ → ℕ) → ℕ → A)
      → ((v : X) → told v ≡ asked → told v ≡ unless (store_refusal (store_of c) lent) (rule-of t c.len))
      → rule-of t c.len ≡ rule-of (at run) c.len
      → Answered (λ v. (κs : Lfts 1) × (p : Places) × (told v ≡ asked)) told (given (rule-of (at run) (length run)))
  answered told some rule-of over_memory below = allowing told some (λ v e. over_memory v e ∙ asked_run (λ x n. []) (λ f x n. rule-of f n) (λ z. below))

  -- what a question may answer where its rows are those of refusals
  pub may_answer : {X A : Type 0} (f : X → A) {a : A} → (x : X) × (f x ≡ a) → (rest : List Row) → AllKnown rest
      → (v : Result X Refusal) × (answer_of f v ≡ unless (first_of (store_rows (store_of c) lent rest)) a)
  may_answer f {a} x rest k = result_for f (first_of (store_rows (store_of c) lent rest)) x.0 a x.1 (store_told (store_of c) lent rest k)

  -- memory, lent somewhere
  abbrev ms : node.Memory
  ms = shown somewhere m

  get_is : (i : ℕ) → Answered (MayGet c m i) told_of (unless (first_of (get_row (length run) i ∷ [])) (at run i))
  get_is i =
      allowing told_of (may_answer (λ v. v) (t i, refl) (get_row c.len i ∷ []) ((Place, refl), tt))
      (λ v e. e ∙ asked_run (λ x n. get_row n i ∷ []) (λ f x n. f i) (λ z. agree i (leb-false c.len i ((row_passed 9 0 (leb c.len i) (zero-lt-suc 8)).0 z).0)))

  summary_is : (a b : ℕ) → Answered (MaySummary c m a b) summed_of (given (summary (at run) (length run) a b))
  summary_is a b =
      answered summed_of (may_answer (option_map as_node) (summary_for (summary_of (levels m) t c.len a b)) [] tt) (λ f n. summary f n a b)
      (λ v e. summary_right ([], tt) c ms a b v e right) (summary_below t (at run) c.len agree a b)

  density_is : (a b : ℕ) → Answered (MayDensity c m a b) changes_of (given (density (at run) (length run) a b))
  density_is a b =
      answered changes_of (may_answer (λ v. v) (count_in (summary_of (levels m) t c.len a b), refl) [] tt) (λ f n. density f n a b)
      (λ v e. density_right ([], tt) c ms a b v e right few) (density_below t (at run) c.len agree a b)
    where
      -- no count of stored samples is cut
      few : c.len ≤ most_count
      few = omega (arith, bounds.len_most, bounds.capacity_most)

  next_is : (mask from : ℕ) → Answered (MayNext c m mask from) found_of (given (next_search (at run) (length run) mask from))
  unfolding next_of
  next_is mask from =
      answered found_of (may_answer counted_of (found_for (next_walk all_levels (reader_of c.unitsize m.samples (levels m)) c.len mask from)) [] tt) (λ f n. next_search f n mask from)
      (λ v e. next_right ([], tt) c ms mask from v e right) (next_below t (at run) c.len agree mask from)

  previous_is : (mask from : ℕ) → Answered (MayPrevious c m mask from) found_of (given (previous_search (at run) (length run) mask from))
  unfolding previous_of
  previous_is mask from =
      answered found_of (may_answer counted_of (found_for (previous_walk all_levels (reader_of c.unitsize m.samples (levels m)) c.len mask from)) [] tt) (λ f n. previous_search f n mask from)
      (λ v e. previous_right ([], tt) c ms mask from v e right) (previous_below t (at run) c.len agree mask from)

  burst_is : (mask sample gap tolerance budget : ℕ)
      → Answered (MayBurst c m mask sample gap tolerance budget) burst_as (given (burst_search (at run) (length run) mask sample gap tolerance budget))
  unfolding burst_of
  burst_is mask sample gap tolerance budget =
      answered burst_as
      (may_answer bursts_as (burst_for (bursted_by (back c.unitsize c.len m.samples (levels m) mask) (fore c.unitsize c.len m.samples (levels m) mask) c.len sample gap tolerance budget)) [] tt)
      (λ f n. burst_search f n mask sample gap tolerance budget)
      (λ v e. burst_right ([], tt) c ms mask sample gap tolerance budget v e right) (burst_below t (at run) c.len agree mask sample gap tolerance budget)

  encoder_is : (a b : ℕ) → Answered (MayEncoder c m a b) encoded_of (unless (first_of (pair_row top_line a b ∷ [])) (encoder (at run) (length run) a b))
  unfolding encoder_of
  encoder_is a b =
      allowing encoded_of (may_answer as_turns (turns_for (hops_of c.unitsize c.len m.samples (levels m) a b)) (pair_row top_line a b ∷ []) ((Pair, refl), tt))
      (λ v e. encoder_right ([], tt) c ms a b v e right ∙ asked_run (λ x n. pair_row top_line a b ∷ []) (λ f x n. encoder f n a b) (λ z. encoder_below t (at run) c.len agree a b))

  -- ---- samples
  module _ (start count : ℕ) (output : List ℕ) where
    abbrev copies_number : ℕ
    copies_number = samples_refusal (store_of c) lent start count (length output)

    samples_are : Answered (MaySamples c m start count output) samples_in
        (unless (first_of (copy_row (length run) start count (length output) ∷ [])) (list_from (at run) start (copied (length run) start count)))
    samples_are =
        let v = may_answer (λ v. v) (copied c.len start count, refl) (copy_row c.len start count (length output) ∷ []) ((Output, refl), tt) in
        record {
          is = λ v may.
              answer_seen (λ k. take k v.output) copies_number (copied c.len start count) _ v.answer may.3.answer_is (copied_list t start copies_number (copied c.len start count) output v.output may.3.output_is)
              ∙ asked_run (λ x n. copy_row n start count (length output) ∷ []) (λ f x n. list_from f start (copied n start count))
              (λ z. list_same t (at run) start start (copied c.len start count) (λ i l. agree (start + i) (copied_inside c.len start count i l)));
          answer = record { answer = v.0; output = copied_to t start (unrefused copies_number (copied c.len start count)) output };
          allowed = (([], ([], tt)), somewhere, anywhere, record { answer_is = v.1; output_is = refl });
        }

  -- ---- render
  module _ (view : pixel.View) (width : ℕ) (output : List ℕ) where
    abbrev draw_number : ℕ
    draw_number = render_refusal (store_of c) lent (view_as view) width (length output)

    render_is : Answered (MayRender c m view width output) (pixels_in width) (unless (first_of (view_rows (view_as view) width (length output))) (render (at run) (length run) (view_as view) width))
    render_is =
        let v = may_answer (λ v. v) (tt, refl) (view_rows (view_as view) width (length output)) ((View, refl), ((Output, refl), tt)) in
        record {
          is = λ v may.
              answer_seen (λ _. take (2 * width) v.output) draw_number tt (render t c.len (view_as view) width) v.answer may.3.answer_is
              (λ z. ap (take (2 * width)) (render_row may.0 c ms view width (at_last anywhere output) v.answer v.output may.3 right z)
              ∙ take_at (render t c.len (view_as view) width) (drop (2 * width) output) (2 * width) (row_length (node_of t) (pixel_range (view_as view) c.len) 0 width))
              ∙ asked_run (λ x n. view_rows (view_as view) width (length output)) (λ f x n. render f n (view_as view) width) (λ z. render_below t (at run) c.len agree (view_as view) width);
          answer = record { answer = v.0; output = drawn (summed (levels m) t) (pixel_range (view_as view) c.len) (unrefused draw_number width) output };
          allowed = (([], ([], tt)), somewhere, anywhere, record { answer_is = v.1; output_is = refl });
        }

  pub answers : Answers run c m
  answers = record { get_is = get_is; samples_are = samples_are; summary_is = summary_is; density_is = density_is; next_is = next_is; previous_is = previous_is; burst_is = burst_is; encoder_is = encoder_is; render_is = render_is }
