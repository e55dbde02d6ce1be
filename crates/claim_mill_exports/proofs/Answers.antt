-- Asked through the exports with numbers and memory that hold a run, each of a mill's questions gives the code and the numbers of the run's granted lines, and no others.
use mathlib.Core.Path.{◌≡◌, refl, sym, ap, ◌∙◌, subst, subst⁻¹}
use mathlib.Core.List.{List, [], ◌∷◌, ◌++◌}
use Rattle.std.specs.Prelude.{Option, None, Some, Result}
use Prim.Native.Nat.{ℕ, zero, suc, ◌+◌, ◌*◌}
use native.Mathlib.Nat.{suc-ne-zero}
use lib.Bits.{bit_and}
use lib.Ieee.{Float}
use lib.IntN.{ℤ}
use lib.ListN.{length, drop}
use denote.Ref.{at_last}
use Rattle.rules.specs.Sample.{sample_of, list_from, cut_lines}
use Rattle.rules.specs.Node.{Lines, node_of}
use Rattle.rules.specs.Search.{summary, cut_summary}
use Rattle.rules.specs.Walk.{Counted, through, next_search, previous_search}
use Rattle.rules.specs.Burst.{burst_search}
use Rattle.rules.specs.Pixel.{row_by, range_from, cut_pixels}
use Rattle.rules.specs.Refusal.{Lent, first_of, view_rows, render_refusal}
use Rattle.rules.specs.Refusal as refusal
use Rattle.rules.specs.Encoder.{Turns, encoder}
use Rattle.codes.specs.Turned.{TurnsOut}
use Rattle.rules.specs.Mill.{MillBurst, origin_of, place_at, shown_place, shown_burst, mill_get_rows, mill_samples_rows, mill_summary_rows, mill_search_rows, mill_encoder_rows, mill_samples_refusal}
use Rattle.rules.specs.Answer.{Answer, refused, given, unless, unrefused}
use Rattle.rules.proofs.Sample.{list_same}
use Rattle.rules.proofs.SampleBytes.{list_whole}
use Rattle.rules.proofs.Row.{from_stored}
use Rattle.answer.specs.declared.Refusal.{Refusal}
use Rattle.answer.specs.declared.Refusal.TheVariants as rows
use Rattle.claim_alike.proofs.Rows.{result_for}
use Rattle.claim_alike.proofs.Below.{row_below}
use Rattle.capture.specs.declared.Capture.{Capture}
use Rattle.capture.specs.Record.{store_of, lent_of}
use Rattle.rules.specs.Reading.{copied_to}
use Rattle.summary.specs.Summary as memory
use Rattle.pixel.specs.declared.View as pixel
use Rattle.render.specs.Render.{drawn_of}
use Rattle.mill.specs.Reader.{origin_in}
use Rattle.mill_read.specs.Read.{Extent, extent_for}
use Rattle.mill_render.specs.Render.{mill_drawn, MillDraws}
use Rattle.mill_render.proofs.Answers.{render_row, render_refused}
use Rattle.codes.specs.Code.{plain, perhaps, Out}
use Rattle.codes.specs.Sought.{Sought}
use Rattle.codes.specs.Record.{capture_in, lines_numbers, number}
use Rattle.mill_codes.specs.Written.{first_place, end_place, marked_number, jump_numbers, BurstOut}
use Rattle.mill_codes.specs.Written as written
use Rattle.logic_core.specs.Mill.{DrawsOut}
use Rattle.claim_captures.specs.Words.{Memory, levels, at, Answered, shown}
use Rattle.claim_captures.specs.Claim.{Held}
use Rattle.claim_captures.proofs.Rows.{store_told}
use Rattle.claim_captures.proofs.Answers.{agree, right, anywhere, somewhere, asked_run, copied_inside}
use Rattle.claim_mill.specs.Claim as calls
use Rattle.claim_mill.proofs.Answers.{mill_answers}
use Rattle.claim_exports.specs.Questions.{got, turned, copies, CutSummed, Drawn, drawn, view_of}
use Rattle.claim_exports.proofs.Answers.{asked_is, three, got_only, got_out, copies_only, turned_only, turned_out, nowhere, afar}
use Rattle.claim_mill_exports.specs.Claim.{MayExtent, MayGet, MaySamples, MaySummary, MayNext, MayPrevious, MayBurst, MayEncoder, MayRender, bounded, summed_by, Found, found_at, found, Bursted, bursted_at, bursted, place, MillAnswers}

-- ---- a code and numbers for each answer, and no others
module _ (old : List ℕ) (size : length old ≡ 3) where
  node_only : (x : Answer (Option Lines)) (v : CutSummed) → Out lines_numbers (perhaps x) v.code old v.node → v ≡ summed_by x old
  node_only (refused n) v out = λ i. record { code = out.code_is i; node = out.value_is i }
  node_only (given None) v out = λ i. record { code = out.code_is i; node = out.value_is i }
  node_only (given (Some n)) v out = λ i. record { code = out.code_is i; node = (out.value_is ∙ three n old size) i }

  node_out : (x : Answer (Option Lines)) → Out lines_numbers (perhaps x) (summed_by x old).code old (summed_by x old).node
  node_out (refused n) = record { code_is = refl; value_is = refl }
  node_out (given None) = record { code_is = refl; value_is = refl }
  node_out (given (Some n)) = record { code_is = refl; value_is = sym (three n old size) }

module _ (old : ℤ) (old-read : ℕ) where
  at_only : (steps : ℕ) (o : Option ℤ) (v : Found) → Sought written.place (given (record { found = o; steps = steps })) v.code old v.place old-read v.read → v ≡ found_at o steps old
  at_only steps None v out = λ i. record { code = out.find.code_is i; place = out.find.value_is i; read = out.count.value_is i }
  at_only steps (Some p) v out = λ i. record { code = out.find.code_is i; place = out.find.value_is i; read = out.count.value_is i }

  at_out : (steps : ℕ) (o : Option ℤ) → Sought written.place (given (record { found = o; steps = steps })) (found_at o steps old).code old (found_at o steps old).place old-read (found_at o steps old).read
  at_out steps None = record { find = record { code_is = refl; value_is = refl }; count = record { code_is = refl; value_is = refl } }
  at_out steps (Some p) = record { find = record { code_is = refl; value_is = refl }; count = record { code_is = refl; value_is = refl } }

  found_only : (x : Answer (Counted ℤ)) (v : Found) → Sought written.place x v.code old v.place old-read v.read → v ≡ found x old old-read
  found_only (refused n) v out = λ i. record { code = out.find.code_is i; place = out.find.value_is i; read = out.count.value_is i }
  found_only (given w) v out = at_only w.steps w.found v out

  found_out : (x : Answer (Counted ℤ)) → Sought written.place x (found x old old-read).code old (found x old old-read).place old-read (found x old old-read).read
  found_out (refused n) = record { find = record { code_is = refl; value_is = refl }; count = record { code_is = refl; value_is = refl } }
  found_out (given w) = at_out w.steps w.found

-- both numbers behind the pointer are written
two : (b : MillBurst) (old : List ℕ) → length old ≡ 2 → jump_numbers b old ≡ b.jumps_end ∷ b.jumps_start ∷ []
unfolding list_from
two b old size = ap (jump_numbers b) (list_whole 2 old size)

module _ (first last : ℤ) (jumps : List ℕ) (size : length jumps ≡ 2) (read : ℕ) where
  abbrev Told : Answer (Counted MillBurst) → Bursted → Type 0
  Told x v = BurstOut x v.code first v.first last v.last jumps v.jumps read v.read

  ends_only : (steps : ℕ) (o : Option MillBurst) (v : Bursted) → Told (given (record { found = o; steps = steps })) v → v ≡ bursted_at o steps first last jumps
  ends_only steps None v out = λ i. record { code = out.first_is.code_is i; first = out.first_is.value_is i; last = out.last_is.value_is i; jumps = out.jumps_are.find.value_is i; read = out.jumps_are.count.value_is i }
  ends_only steps (Some b) v out = λ i. record { code = out.first_is.code_is i; first = out.first_is.value_is i; last = out.last_is.value_is i; jumps = (out.jumps_are.find.value_is ∙ two b jumps size) i; read = out.jumps_are.count.value_is i }

  ends_out : (steps : ℕ) (o : Option MillBurst) → Told (given (record { found = o; steps = steps })) (bursted_at o steps first last jumps)
  ends_out steps None = record {
    first_is = record { code_is = refl; value_is = refl };
    last_is = record { code_is = refl; value_is = refl };
    jumps_are = record { find = record { code_is = refl; value_is = refl }; count = record { code_is = refl; value_is = refl } };
  }
  ends_out steps (Some b) = record {
    first_is = record { code_is = refl; value_is = refl };
    last_is = record { code_is = refl; value_is = refl };
    jumps_are = record { find = record { code_is = refl; value_is = sym (two b jumps size) }; count = record { code_is = refl; value_is = refl } };
  }

  bursted_only : (x : Answer (Counted MillBurst)) (v : Bursted) → Told x v → v ≡ bursted x first last jumps read
  bursted_only (refused n) v out = λ i. record { code = out.first_is.code_is i; first = out.first_is.value_is i; last = out.last_is.value_is i; jumps = out.jumps_are.find.value_is i; read = out.jumps_are.count.value_is i }
  bursted_only (given w) v out = ends_only w.steps w.found v out

  bursted_out : (x : Answer (Counted MillBurst)) → Told x (bursted x first last jumps read)
  bursted_out (refused n) = record {
    first_is = record { code_is = refl; value_is = refl };
    last_is = record { code_is = refl; value_is = refl };
    jumps_are = record { find = record { code_is = refl; value_is = refl }; count = record { code_is = refl; value_is = refl } };
  }
  bursted_out (given w) = ends_out w.steps w.found

module _ {run : List ℕ} {mark : Option ℕ} (numbers : List ℕ) (m : Memory) (h : Held run mark (capture_in numbers) m) (grant : ℕ) where
  abbrev c : Capture
  c = capture_in numbers

  abbrev below : calls.MillAnswers grant run mark c m
  below = mill_answers c m h grant

  abbrev t : ℕ → ℕ
  t = sample_of c.unitsize m.samples

  abbrev lent : Lent
  lent = lent_of m.samples (levels m)

  extent_is : (first end : ℤ) (marked : ℕ) → Answered (MayExtent numbers m first end marked) (λ v. v) (bounded (extent_for mark (length run)))
  extent_is first end marked =
      let e = asked_is below.extent_is in
      record {
        is = λ v may.
            let o = subst (λ (x : Answer Extent). Out first_place (plain x) v.code first v.first × Out end_place (plain x) v.code end v.end × Out marked_number (plain x) v.code marked v.marked) e may.6 in
            λ i. record { code = o.0.code_is i; first = o.0.value_is i; end = o.1.value_is i; marked = o.2.value_is i };
        answer = bounded (extent_for mark (length run));
        allowed = (
          ([], ([], ([], ([], ([], ([], tt)))))),
          anywhere,
          somewhere,
          afar,
          afar,
          nowhere,
          subst⁻¹ (λ (x : Answer Extent). Out first_place (plain x) 0 first (extent_for mark (length run)).first × Out end_place (plain x) 0 end (extent_for mark (length run)).end × Out marked_number (plain x) 0 marked (bounded (extent_for mark (length run))).marked) e
              (record { code_is = refl; value_is = refl }, record { code_is = refl; value_is = refl }, record { code_is = refl; value_is = refl }),
        );
      }

  get_is : (p : ℤ) (value : ℕ) → Answered (MayGet numbers m grant p value) (λ v. v) (got (unless (first_of (mill_get_rows mark (length run) p)) (bit_and (at run (place mark p)) grant)) value)
  get_is p value =
      let e = asked_is (below.get_is p) in
      let x = unless (first_of (mill_get_rows mark (length run) p)) (bit_and (at run (place mark p)) grant) in
      record {
        is = λ v may. got_only x value v (subst (λ (y : Answer ℕ). Out number (plain y) v.code value v.value) e may.4);
        answer = got x value;
        allowed = (([], ([], ([], ([], tt)))), anywhere, somewhere, nowhere, subst⁻¹ (λ (y : Answer ℕ). Out number (plain y) (got x value).code value (got x value).value) e (got_out x value));
      }

  summary_is : (a b : ℤ) (node : List ℕ) → length node ≡ 3
      → Answered (MaySummary numbers m grant a b node) (λ v. v) (summed_by (unless (first_of (mill_summary_rows mark a b)) (cut_summary grant (summary (at run) (length run) (place mark a) (place mark b)))) node)
  summary_is a b node size =
      let e = asked_is (below.summary_is a b) in
      let x = unless (first_of (mill_summary_rows mark a b)) (cut_summary grant (summary (at run) (length run) (place mark a) (place mark b))) in
      record {
        is = λ v may. node_only node size x v (subst (λ (y : Answer (Option Lines)). Out lines_numbers (perhaps y) v.code node v.node) e may.4);
        answer = summed_by x node;
        allowed = (([], ([], ([], ([], tt)))), anywhere, somewhere, anywhere, subst⁻¹ (λ (y : Answer (Option Lines)). Out lines_numbers (perhaps y) (summed_by x node).code node (summed_by x node).node) e (node_out node size x));
      }

  next_is : (mask : ℕ) (p old : ℤ) (read : ℕ)
      → Answered (MayNext numbers m grant mask p old read) (λ v. v) (found (unless (first_of (mill_search_rows grant mask mark p)) (through (shown_place (origin_of mark)) (next_search (at run) (length run) mask (place mark p)))) old read)
  next_is mask p old read =
      let e = asked_is (below.next_is mask p) in
      let x = unless (first_of (mill_search_rows grant mask mark p)) (through (shown_place (origin_of mark)) (next_search (at run) (length run) mask (place mark p))) in
      record {
        is = λ v may. found_only old read x v (subst (λ (y : Answer (Counted ℤ)). Sought written.place y v.code old v.place read v.read) e may.5);
        answer = found x old read;
        allowed = (([], ([], ([], ([], ([], tt))))), anywhere, somewhere, afar, nowhere, subst⁻¹ (λ (y : Answer (Counted ℤ)). Sought written.place y (found x old read).code old (found x old read).place read (found x old read).read) e (found_out old read x));
      }

  previous_is : (mask : ℕ) (p old : ℤ) (read : ℕ)
      → Answered (MayPrevious numbers m grant mask p old read) (λ v. v) (found (unless (first_of (mill_search_rows grant mask mark p)) (through (shown_place (origin_of mark)) (previous_search (at run) (length run) mask (place mark p)))) old read)
  previous_is mask p old read =
      let e = asked_is (below.previous_is mask p) in
      let x = unless (first_of (mill_search_rows grant mask mark p)) (through (shown_place (origin_of mark)) (previous_search (at run) (length run) mask (place mark p))) in
      record {
        is = λ v may. found_only old read x v (subst (λ (y : Answer (Counted ℤ)). Sought written.place y v.code old v.place read v.read) e may.5);
        answer = found x old read;
        allowed = (([], ([], ([], ([], ([], tt))))), anywhere, somewhere, afar, nowhere, subst⁻¹ (λ (y : Answer (Counted ℤ)). Sought written.place y (found x old read).code old (found x old read).place read (found x old read).read) e (found_out old read x));
      }

  encoder_is : (a b : ℕ) (position : ℤ) (counts : List ℕ) → length counts ≡ 3
      → Answered (MayEncoder numbers m grant a b position counts) (λ v. v) (turned (unless (first_of (mill_encoder_rows grant a b)) (encoder (at run) (length run) a b)) position counts)
  encoder_is a b position counts size =
      let e = asked_is (below.encoder_is a b) in
      let x = unless (first_of (mill_encoder_rows grant a b)) (encoder (at run) (length run) a b) in
      record {
        is = λ v may. turned_only position counts size x v (subst (λ (y : Answer Turns). TurnsOut y v.code position v.position counts v.counts) e may.5);
        answer = turned x position counts;
        allowed = (
          ([], ([], ([], ([], ([], tt))))),
          anywhere,
          somewhere,
          afar,
          anywhere,
          subst⁻¹ (λ (y : Answer Turns). TurnsOut y (turned x position counts).code position (turned x position counts).position counts (turned x position counts).counts) e (turned_out position counts size x),
        );
      }

  burst_is : (mask : ℕ) (p : ℤ) (gap tolerance budget : ℕ) (first last : ℤ) (jumps : List ℕ) → length jumps ≡ 2 → (read : ℕ)
      → Answered (MayBurst numbers m grant mask p gap tolerance budget first last jumps read) (λ v. v)
      (bursted (unless (first_of (mill_search_rows grant mask mark p)) (through (shown_burst (origin_of mark)) (burst_search (at run) (length run) mask (place mark p) gap tolerance budget))) first last jumps read)
  burst_is mask p gap tolerance budget first last jumps size read =
      let e = asked_is (below.burst_is mask p gap tolerance budget) in
      let x = unless (first_of (mill_search_rows grant mask mark p)) (through (shown_burst (origin_of mark)) (burst_search (at run) (length run) mask (place mark p) gap tolerance budget)) in
      record {
        is = λ v may. bursted_only first last jumps size read x v (subst (λ (y : Answer (Counted MillBurst)). Told first last jumps size read y v) e may.7);
        answer = bursted x first last jumps read;
        allowed = (
          ([], ([], ([], ([], ([], ([], ([], tt))))))),
          anywhere,
          somewhere,
          afar,
          afar,
          anywhere,
          nowhere,
          subst⁻¹ (λ (y : Answer (Counted MillBurst)). Told first last jumps size read y (bursted x first last jumps read)) e (bursted_out first last jumps size read x),
        );
      }

  -- ---- samples
  module _ (p : ℤ) (n : ℕ) (output : List ℕ) (old : ℕ) where
    abbrev i : ℕ
    i = place_at (origin_in c) p

    abbrev copy_refusal_lem : ℕ
    copy_refusal_lem = mill_samples_refusal (store_of c) lent p n (length output)

    samples_are : Answered (MaySamples numbers m grant p n output old) (λ v. v)
        (copies (unless (first_of (mill_samples_rows mark (length run) p n (length output))) (list_from (λ i. bit_and (at run i) grant) (place mark p) (refusal.copied (length run) (place mark p) n))) output old)
    samples_are = record {
      is = λ v may.
          copies_only copy_refusal_lem (refusal.copied c.len i n) (cut_lines grant t) i output old v may.5.count_is may.5.output_is
          ∙ ap (λ (x : Answer (List ℕ)). copies x output old)
          (asked_run c m h (λ x j. mill_samples_rows x j p n (length output)) (λ f x j. list_from (cut_lines grant f) (place_at (origin_of x) p) (refusal.copied j (place_at (origin_of x) p) n))
          (λ z. list_same (cut_lines grant t) (cut_lines grant (at run)) i i (refusal.copied c.len i n) (λ j l. ap (λ (v : ℕ). bit_and v grant) (agree c m h (i + j) (copied_inside c.len i n j l)))));
      answer = record {
        code = (got (unless copy_refusal_lem (refusal.copied c.len i n)) old).code;
        copied = (got (unless copy_refusal_lem (refusal.copied c.len i n)) old).value;
        output = copied_to (cut_lines grant t) i (unrefused copy_refusal_lem (refusal.copied c.len i n)) output;
      };
      allowed = (([], ([], ([], ([], ([], tt))))), anywhere, somewhere, anywhere, nowhere, record { count_is = got_out (unless copy_refusal_lem (refusal.copied c.len i n)) old; output_is = refl });
    }

  -- ---- render
  module _ (start spp : Float) (width : ℕ) (output : List ℕ) where
    abbrev view : pixel.View
    view = record { start = start; spp = spp }

    abbrev draw_refusal_lem : ℕ
    draw_refusal_lem = render_refusal (store_of c) lent (view_of start spp) width (length output)

    -- what is drawn of samples f, of which n are stored, counted from the origin of a mark x
    abbrev row : (ℕ → ℕ) → Option ℕ → ℕ → List ℕ
    row f x n = cut_pixels grant (row_by (node_of f) (range_from (origin_of x) (view_of start spp) n) 0 width)

    drawn_only : (v : Drawn) → DrawsOut c m.samples (levels m) grant start spp width output v.code v.output → v ≡ drawn (unless draw_refusal_lem (row t c.trigger c.len)) width output
    drawn_only v out = go draw_refusal_lem refl
      where
        r : (r : Result Unit Refusal) × (drawn_of r ≡ unless draw_refusal_lem tt)
        r = result_for (λ x. x) draw_refusal_lem tt tt refl (store_told (store_of c) lent (view_rows (view_of start spp) width (length output)) ((rows.View, refl), ((rows.Output, refl), tt)))

        -- what the call under it draws
        call : MillDraws (memory.summed (levels m) t) (store_of c) lent grant (view_of start spp) width output r.0 v.output
        call = record { answer_is = r.1; output_is = out.output_is }

        go : (n : ℕ) → draw_refusal_lem ≡ n → v ≡ drawn (unless n (row t c.trigger c.len)) width output
        go zero e = λ i. record { code = (out.code_is ∙ e) i; output = drawn_row i }
          where
            drawn_row : v.output ≡ row t c.trigger c.len ++ drop (2 * width) output
            drawn_row = render_row ([], ([], tt)) c (shown somewhere m) grant view width (at_last anywhere output) r.0 v.output call (right c m h) e
        go (suc n) e = λ i. record { code = (out.code_is ∙ e) i; output = same i }
          where
            same : v.output ≡ output
            same = render_refused ([], ([], tt)) c (shown somewhere m) grant view width (at_last anywhere output) r.0 v.output call (λ z. suc-ne-zero n (sym e ∙ z))

    render_is : Answered (MayRender numbers m grant start spp width output) (λ v. v)
        (drawn (unless (first_of (view_rows (view_of start spp) width (length output))) (cut_pixels grant (row_by (node_of (at run)) (range_from (origin_of mark) (view_of start spp) (length run)) 0 width))) width output)
    render_is = record {
      is = λ v may.
          drawn_only v may.4
          ∙ ap (λ (x : Answer (List ℕ)). drawn x width output)
          (asked_run c m h (λ x n. view_rows (view_of start spp) width (length output)) row
          (λ z. ap (cut_pixels grant) (row_below t (at run) c.len (agree c m h) (range_from (origin_in c) (view_of start spp) c.len) (from_stored (origin_in c) (view_of start spp) c.len) 0 width)));
      answer = record { code = draw_refusal_lem; output = mill_drawn grant (memory.summed (levels m) t) (range_from (origin_in c) (view_of start spp) c.len) (unrefused draw_refusal_lem width) output };
      allowed = (([], ([], ([], ([], tt)))), anywhere, somewhere, anywhere, record { code_is = refl; output_is = refl });
    }

  pub mill_exports_answer : MillAnswers grant run mark numbers m
  mill_exports_answer = record {
    extent_is = extent_is;
    get_is = get_is;
    samples_are = samples_are;
    summary_is = summary_is;
    next_is = next_is;
    previous_is = previous_is;
    burst_is = burst_is;
    encoder_is = encoder_is;
    render_is = render_is;
  }
