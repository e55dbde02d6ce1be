-- Asked with a record and memory that hold a run, each of a mill's calls is told the run's granted lines, counted from its mark, and nothing else.
use mathlib.Core.Path.{◌≡◌, refl, ap, ◌∙◌}
use mathlib.Core.List.{List, []}
use Rattle.std.specs.Prelude.{Option, None, Some, Result}
use Rattle.std.specs.Option.{option_map}
use Prim.Native.Nat.{ℕ, ◌+◌, ◌*◌, ◌<◌}
use native.Mathlib.Nat.{zero-lt-suc}
use lib.Bits.{bit_and}
use lib.Dec.{leb}
use lib.IntN.{ℤ}
use lib.ListN.{length, length-map, take, drop}
use lib.Seq.{take_at}
use borrow.Author.Tests.{leb-false}
use denote.Ref.{at_last}
use Rattle.rules.specs.Reading.{copied_to}
use Rattle.rules.specs.Sample.{sample_of, list_from, cut_lines}
use Rattle.rules.specs.Node.{Lines, node_of}
use Rattle.rules.specs.Search.{summary, cut_summary}
use Rattle.rules.specs.Walk.{Counted, through, next_search, previous_search}
use Rattle.rules.specs.Burst.{bursted_by, burst_search}
use Rattle.rules.specs.Pixel.{row_by, range_from, cut_pixels}
use Rattle.rules.specs.Refusal.{Lent, Row, first_of, store_rows, view_rows, render_refusal, copied}
use Rattle.rules.specs.Mill.{MillBurst, origin_of, place_at, before_first, shown_place, shown_burst, mill_get_rows, mill_samples_rows, mill_summary_rows, mill_search_rows, mill_encoder_rows, mill_samples_refusal}
use Rattle.rules.specs.Encoder.{encoder}
use Rattle.rules.specs.Answer.{given, unless, unrefused}
use Rattle.rules.proofs.Sample.{list_same}
use Rattle.rules.proofs.Refusal.{row_passed}
use Rattle.rules.proofs.Row.{row_length, from_stored}
use Rattle.answer.specs.declared.Refusal.{Refusal}
use Rattle.answer.specs.declared.Refusal.TheVariants.{Place, View, Output, Grant, Before, Pair}
use Rattle.answer.specs.declared.Counted as call-counted
use Rattle.answer.specs.Answered.{answer_of, counted_of, told_of}
use Rattle.claim_alike.proofs.Rows.{AllKnown, result_for}
use Rattle.claim_alike.proofs.Below.{summary_below, encoder_below, next_below, previous_below, burst_below, row_below}
use Rattle.node.specs.declared.Memory as node
use Rattle.capture.specs.declared.Capture.{Capture}
use Rattle.capture.specs.Record.{store_of, lent_of}
use Rattle.summary.specs.Summary.{summary_of, summed}
use Rattle.burst.specs.Answer.{back, fore}
use Rattle.pixel.specs.declared.View as pixel
use Rattle.pixel.specs.Ranges.{view_as}
use Rattle.mill_read.specs.declared.Bounds.{Bounds}
use Rattle.mill_read.specs.declared.Lines as call-read
use Rattle.mill_read.specs.Read.{Extent, extent_as, bounded_of, extent_for, as_lines, shown_of}
use Rattle.mill_read.proofs.Answers.{summary_right}
use Rattle.mill_search.specs.declared.Burst.{Burst}
use Rattle.mill_search.specs.Answer.{found_of, bursts_as, burst_as, change_of, burst_of}
use Rattle.mill_search.proofs.Answers.{next_right, previous_right, burst_right}
use Rattle.encoder.specs.Hops.{hops_of}
use Rattle.encoder.specs.Answer.{as_turns, encoded_of}
use Rattle.mill_encoder.specs.Answer.{encoder_of}
use Rattle.mill_encoder.proofs.Answers.{encoder_right}
use Rattle.mill_render.specs.Render.{mill_drawn}
use Rattle.mill_render.proofs.Answers.{render_row}
use Rattle.claim_captures.specs.Words.{Memory, levels, at, Answered, shown}
use Rattle.claim_captures.specs.Claim.{samples_in, pixels_in, Held}
use Rattle.claim_captures.proofs.Rows.{store_told, answer_seen}
use Rattle.claim_captures.proofs.Answers.{found_for, turns_for, copied_list, copied_inside, anywhere, somewhere, allowing, agree, right, asked_run, may_answer}
use Rattle.claim_mill.specs.Claim.{MayExtent, MayGet, MaySamples, MaySummary, MayNext, MayPrevious, MayBurst, MayEncoder, MayRender, place, MillAnswers}

-- ---- the code's value for each of the rules'
bounds_for : (e : Extent) → (x : Bounds) × (extent_as x ≡ e)
bounds_for e = (record { first = e.first; end = e.end; marked = e.marked }, refl)

lines_for : (a : Option Lines) → (x : Option call-read.Lines) × (option_map as_lines x ≡ a)
lines_for None = (None, refl)
lines_for (Some n) = (Some (record { first = n.first; last = n.last; mask = n.toggles }), refl)

burst_for : (a : Counted MillBurst) → (x : call-counted.Counted Burst) × (bursts_as x ≡ a)
burst_for w = go w.found refl
  where
    go : (o : Option MillBurst) → o ≡ w.found → (x : call-counted.Counted Burst) × (bursts_as x ≡ w)
    go None e = (record { found = None; steps = w.steps }, λ i. record { found = e i; steps = w.steps })
    go (Some b) e = (record { found = Some (record { first = b.first; last = b.last; jumps_end = b.jumps_end; jumps_start = b.jumps_start }); steps = w.steps }, λ i. record { found = e i; steps = w.steps })

-- ---- rows
-- 13 and 9 do not refuse: the place is one of the run
pub got_inside : (mark : Option ℕ) (len : ℕ) (p : ℤ) → first_of (mill_get_rows mark len p) ≡ 0 → place_at (origin_of mark) p < len
got_inside mark len p z =
    let i = place_at (origin_of mark) p in
    let rest = ((row_passed 13 _ (before_first (origin_of mark) p) (zero-lt-suc 12)).0 z).1 in
    leb-false len i ((row_passed 9 0 (leb len i) (zero-lt-suc 8)).0 rest).0

module _ {run : List ℕ} {mark : Option ℕ} (c : Capture) (m : Memory) (h : Held run mark c m) where
  -- the samples in memory, and the record's mark
  abbrev t : ℕ → ℕ
  t = sample_of c.unitsize m.samples

  abbrev k : Option ℕ
  k = c.trigger

  abbrev lent : Lent
  lent = lent_of m.samples (levels m)

  -- memory, lent somewhere
  abbrev ms : node.Memory
  ms = shown somewhere m

  extent_is : Answered (MayExtent c m) bounded_of (given (extent_for mark (length run)))
  extent_is = allowing bounded_of (may_answer c m h extent_as (bounds_for (extent_for k c.len)) [] tt) (λ v e. e ∙ asked_run c m h (λ x n. []) (λ f x n. extent_for x n) (λ z. refl))

  module _ (grant : ℕ) where
    get_is : (p : ℤ) → Answered (MayGet c m grant p) told_of (unless (first_of (mill_get_rows mark (length run) p)) (bit_and (at run (place mark p)) grant))
    get_is p =
        allowing told_of (may_answer c m h (λ v. v) (bit_and (t (place_at (origin_of k) p)) grant, refl) (mill_get_rows k c.len p) ((Before, refl), ((Place, refl), tt)))
        (λ v e. e ∙ asked_run c m h (λ x n. mill_get_rows x n p) (λ f x n. bit_and (f (place_at (origin_of x) p)) grant) (λ z. ap (λ (v : ℕ). bit_and v grant) (agree c m h (place_at (origin_of k) p) (got_inside k c.len p z))))

    summary_is : (a b : ℤ) → Answered (MaySummary c m grant a b) shown_of (unless (first_of (mill_summary_rows mark a b)) (cut_summary grant (summary (at run) (length run) (place mark a) (place mark b))))
    summary_is a b =
        allowing shown_of
        (may_answer c m h (option_map as_lines) (lines_for (cut_summary grant (summary_of (levels m) t c.len (place_at (origin_of k) a) (place_at (origin_of k) b)))) (mill_summary_rows k a b) ((Before, refl), ((Before, refl), tt)))
        (λ v e. summary_right ([], tt) c ms grant a b v e (right c m h)
        ∙ asked_run c m h (λ x n. mill_summary_rows x a b) (λ f x n. cut_summary grant (summary f n (place_at (origin_of x) a) (place_at (origin_of x) b)))
        (λ z. ap (cut_summary grant) (summary_below t (at run) c.len (agree c m h) (place_at (origin_of k) a) (place_at (origin_of k) b))))

    -- a search's answer, unless 12 or 13 refuses
    may_find : {X A : Type 0} (f : X → A) {a : A} → (x : X) × (f x ≡ a) → (mask : ℕ) (p : ℤ)
        → (v : Result X Refusal) × (answer_of f v ≡ unless (first_of (store_rows (store_of c) lent (mill_search_rows grant mask k p))) a)
    may_find f x mask p = may_answer c m h f x (mill_search_rows grant mask k p) ((Grant, refl), ((Before, refl), tt))

    next_is : (mask : ℕ) (p : ℤ) → Answered (MayNext c m grant mask p) found_of (unless (first_of (mill_search_rows grant mask mark p)) (through (shown_place (origin_of mark)) (next_search (at run) (length run) mask (place mark p))))
    unfolding change_of
    next_is mask p =
        allowing found_of (may_find counted_of (found_for (through (shown_place (origin_of k)) (fore c.unitsize c.len m.samples (levels m) mask (place_at (origin_of k) p)))) mask p)
        (λ v e. next_right ([], tt) c ms grant mask p v e (right c m h)
        ∙ asked_run c m h (λ x n. mill_search_rows grant mask x p) (λ f x n. through (shown_place (origin_of x)) (next_search f n mask (place_at (origin_of x) p)))
        (λ z. ap (through (shown_place (origin_of k))) (next_below t (at run) c.len (agree c m h) mask (place_at (origin_of k) p))))

    previous_is : (mask : ℕ) (p : ℤ) → Answered (MayPrevious c m grant mask p) found_of (unless (first_of (mill_search_rows grant mask mark p)) (through (shown_place (origin_of mark)) (previous_search (at run) (length run) mask (place mark p))))
    unfolding change_of
    previous_is mask p =
        allowing found_of (may_find counted_of (found_for (through (shown_place (origin_of k)) (back c.unitsize c.len m.samples (levels m) mask (place_at (origin_of k) p)))) mask p)
        (λ v e. previous_right ([], tt) c ms grant mask p v e (right c m h)
        ∙ asked_run c m h (λ x n. mill_search_rows grant mask x p) (λ f x n. through (shown_place (origin_of x)) (previous_search f n mask (place_at (origin_of x) p)))
        (λ z. ap (through (shown_place (origin_of k))) (previous_below t (at run) c.len (agree c m h) mask (place_at (origin_of k) p))))

    burst_is : (mask : ℕ) (p : ℤ) (gap tolerance budget : ℕ)
        → Answered (MayBurst c m grant mask p gap tolerance budget) burst_as
        (unless (first_of (mill_search_rows grant mask mark p)) (through (shown_burst (origin_of mark)) (burst_search (at run) (length run) mask (place mark p) gap tolerance budget)))
    unfolding burst_of
    burst_is mask p gap tolerance budget =
        allowing burst_as
        (may_find bursts_as (burst_for (through (shown_burst (origin_of k)) (bursted_by (back c.unitsize c.len m.samples (levels m) mask) (fore c.unitsize c.len m.samples (levels m) mask) c.len (place_at (origin_of k) p) gap tolerance budget))) mask p)
        (λ v e. burst_right ([], tt) c ms grant mask p gap tolerance budget v e (right c m h)
        ∙ asked_run c m h (λ x n. mill_search_rows grant mask x p) (λ f x n. through (shown_burst (origin_of x)) (burst_search f n mask (place_at (origin_of x) p) gap tolerance budget))
        (λ z. ap (through (shown_burst (origin_of k))) (burst_below t (at run) c.len (agree c m h) mask (place_at (origin_of k) p) gap tolerance budget)))

    encoder_is : (a b : ℕ) → Answered (MayEncoder c m grant a b) encoded_of (unless (first_of (mill_encoder_rows grant a b)) (encoder (at run) (length run) a b))
    unfolding encoder_of
    encoder_is a b =
        allowing encoded_of (may_answer c m h as_turns (turns_for (hops_of c.unitsize c.len m.samples (levels m) a b)) (mill_encoder_rows grant a b) ((Pair, refl), ((Grant, refl), tt)))
        (λ v e. encoder_right ([], tt) c ms grant a b v e (right c m h)
        ∙ asked_run c m h (λ x n. mill_encoder_rows grant a b) (λ f x n. encoder f n a b) (λ z. encoder_below t (at run) c.len (agree c m h) a b))

    -- ---- samples
    module _ (p : ℤ) (n : ℕ) (output : List ℕ) where
      abbrev copies_number : ℕ
      copies_number = mill_samples_refusal (store_of c) lent p n (length output)

      abbrev i : ℕ
      i = place_at (origin_of k) p

      samples_are : Answered (MaySamples c m grant p n output) samples_in
          (unless (first_of (mill_samples_rows mark (length run) p n (length output))) (list_from (cut_lines grant (at run)) (place mark p) (copied (length run) (place mark p) n)))
      samples_are =
          let v = may_answer c m h (λ v. v) (copied c.len i n, refl) (mill_samples_rows k c.len p n (length output)) ((Before, refl), ((Output, refl), tt)) in
          record {
            is = λ v may.
                answer_seen (λ k. take k v.output) copies_number (copied c.len i n) _ v.answer may.3.answer_is (copied_list (cut_lines grant t) i copies_number (copied c.len i n) output v.output may.3.output_is)
                ∙ asked_run c m h (λ x j. mill_samples_rows x j p n (length output)) (λ f x j. list_from (cut_lines grant f) (place_at (origin_of x) p) (copied j (place_at (origin_of x) p) n))
                (λ z. list_same (cut_lines grant t) (cut_lines grant (at run)) i i (copied c.len i n) (λ j l. ap (λ (v : ℕ). bit_and v grant) (agree c m h (i + j) (copied_inside c.len i n j l))));
            answer = record { answer = v.0; output = copied_to (cut_lines grant t) i (unrefused copies_number (copied c.len i n)) output };
            allowed = (([], ([], tt)), somewhere, anywhere, record { answer_is = v.1; output_is = refl });
          }

    -- ---- render
    module _ (view : pixel.View) (width : ℕ) (output : List ℕ) where
      abbrev number : ℕ
      number = render_refusal (store_of c) lent (view_as view) width (length output)

      -- what is drawn of samples f, of which n are stored, counted from the origin of a mark x
      abbrev row : (ℕ → ℕ) → Option ℕ → ℕ → List ℕ
      row f x n = cut_pixels grant (row_by (node_of f) (range_from (origin_of x) (view_as view) n) 0 width)

      row_size : (f : ℕ → ℕ) (x : Option ℕ) (n : ℕ) → length (row f x n) ≡ 2 * width
      row_size f x n = length-map (row_by (node_of f) (range_from (origin_of x) (view_as view) n) 0 width) (λ (v : ℕ). bit_and v grant) ∙ row_length (node_of f) (range_from (origin_of x) (view_as view) n) 0 width

      render_is : Answered (MayRender c m grant view width output) (pixels_in width)
          (unless (first_of (view_rows (view_as view) width (length output))) (cut_pixels grant (row_by (node_of (at run)) (range_from (origin_of mark) (view_as view) (length run)) 0 width)))
      render_is =
          let v = may_answer c m h (λ v. v) (tt, refl) (view_rows (view_as view) width (length output)) ((View, refl), ((Output, refl), tt)) in
          record {
            is = λ v may.
                answer_seen (λ _. take (2 * width) v.output) number tt (row t k c.len) v.answer may.3.answer_is
                (λ z. ap (take (2 * width)) (render_row may.0 c ms grant view width (at_last anywhere output) v.answer v.output may.3 (right c m h) z)
                ∙ take_at (row t k c.len) (drop (2 * width) output) (2 * width) (row_size t k c.len))
                ∙ asked_run c m h (λ x n. view_rows (view_as view) width (length output)) row
                (λ z. ap (cut_pixels grant) (row_below t (at run) c.len (agree c m h) (range_from (origin_of k) (view_as view) c.len) (from_stored (origin_of k) (view_as view) c.len) 0 width));
            answer = record { answer = v.0; output = mill_drawn grant (summed (levels m) t) (range_from (origin_of k) (view_as view) c.len) (unrefused number width) output };
            allowed = (([], ([], tt)), somewhere, anywhere, record { answer_is = v.1; output_is = refl });
          }

    pub mill_answers : MillAnswers grant run mark c m
    mill_answers = record {
      extent_is = extent_is;
      get_is = get_is;
      samples_are = samples_are;
      summary_is = summary_is;
      next_is = next_is;
      previous_is = previous_is;
      burst_is = burst_is;
      encoder_is = encoder_is;
      render_is = render_is;
    }
