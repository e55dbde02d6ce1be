-- Asked through the exports with numbers and memory that hold a run, each question gives 01's code and numbers for the run, and no other: what the calls answer, told by `codes`.
use mathlib.Core.Path.{◌≡◌, refl, sym, ap, ◌∙◌, subst, subst⁻¹}
use mathlib.Core.List.{List, [], ◌∷◌, ◌++◌}
use Rattle.std.specs.Prelude.{Option, None, Some, Result}
use Prim.Native.Nat.{ℕ, zero, suc, ◌+◌, ◌*◌}
use native.Mathlib.Nat.{suc-ne-zero}
use lib.Ieee.{Float}
use lib.IntN.{ℤ, pos}
use lib.ListN.{length, drop}
use contract.Lifetimes.{Lfts}
use denote.Ref.{at_last}
use Rattle.rules.specs.Sample.{sample_of, list_from}
use Rattle.rules.specs.Node.{Node, Lines, lines_of}
use Rattle.rules.specs.Search.{summary, density}
use Rattle.rules.specs.Walk.{Walked, Counted, next_search, previous_search}
use Rattle.rules.specs.Burst.{Burst, burst_search}
use Rattle.rules.specs.Pixel.{pixel_range, render}
use Rattle.rules.specs.Refusal.{first_of, get_row, copied, copy_row, samples_refusal, view_rows, render_refusal, top_line}
use Rattle.rules.specs.Answer.{Answer, refused, given, unless, unrefused}
use Rattle.rules.proofs.Sample.{list_length, list_same}
use Rattle.rules.proofs.SampleBytes.{list_whole}
use Rattle.rules.proofs.Refusal.{rows_left}
use Rattle.rules.specs.Encoder.{Turns, encoder, pair_row}
use Rattle.codes.specs.Turned.{step_numbers, TurnsOut}
use Rattle.answer.specs.declared.Refusal.{Refusal}
use Rattle.answer.specs.declared.Refusal.TheVariants.{View, Output}
use Rattle.answer.specs.Answered.{told_of}
use Rattle.claim_alike.proofs.Rows.{result_for}
use Rattle.claim_alike.proofs.Below.{render_below}
use Rattle.capture.specs.declared.Capture.{Capture}
use Rattle.capture.specs.Record.{store_of, lent_of}
use Rattle.rules.specs.Reading.{copied_to}
use Rattle.capture.proofs.Calls.{over_none}
use Rattle.summary.specs.Summary.{summed}
use Rattle.pixel.specs.declared.View as pixel
use Rattle.render.specs.Render as drawing
use Rattle.render.proofs.Answers.{render_row, render_refused}
use Rattle.codes.specs.Code.{plain, perhaps, Out}
use Rattle.codes.specs.Sought.{Sought}
use Rattle.codes.specs.Record.{capture_in, lines_numbers, node_numbers, count_number, burst_numbers, number}
use Rattle.logic_core.specs.Asked.{DrawsOut}
use Rattle.claim_captures.specs.Words.{Memory, levels, at, Answered, Places, shown}
use Rattle.claim_captures.specs.Claim.{Held}
use Rattle.claim_captures.specs.Claim as calls
use Rattle.claim_captures.proofs.Rows.{store_told}
use Rattle.claim_captures.proofs.Answers.{answers, agree, right, asked_run, copied_inside, anywhere, somewhere}
use Rattle.claim_exports.specs.Questions.{One, Signed, MayGet, MaySamples, MaySummary, MayDensity, MayNext, MayPrevious, MayBurst, MayEncoder, MayRender, found, bursted, drawn, view_of, Answers}
use Rattle.claim_exports.specs.Questions as told

-- what a question of the calls answers is what its contract asks for
pub asked_is : {X A : Type 0} {told : X → A} {asked x : A} → Answered (λ v. (κs : Lfts 1) × (p : Places) × (told v ≡ asked)) told x → asked ≡ x
asked_is a = sym a.allowed.2 ∙ a.is a.answer a.allowed

-- ---- a code and numbers for each of 01's answers, and no others
-- all numbers behind a pointer are written
pub three : (n : Lines) (old : List ℕ) → length old ≡ 3 → lines_numbers n old ≡ n.first ∷ n.last ∷ n.toggles ∷ []
unfolding list_from
three n old size = ap (lines_numbers n) (list_whole 3 old size)

four : (b : Burst) (old : List ℕ) → length old ≡ 4 → burst_numbers b old ≡ b.first ∷ b.last ∷ b.jumps_end ∷ b.jumps_start ∷ []
unfolding list_from
four b old size = ap (burst_numbers b) (list_whole 4 old size)

pub steps_all : (t : Turns) (old : List ℕ) → length old ≡ 3 → step_numbers t old ≡ t.forward ∷ t.backward ∷ t.skipped ∷ []
unfolding list_from
steps_all t old size = ap (step_numbers t) (list_whole 3 old size)

module _ (position : ℤ) (counts : List ℕ) (size : length counts ≡ 3) where
  pub turned_only : (x : Answer Turns) (v : told.Turned) → TurnsOut x v.code position v.position counts v.counts → v ≡ told.turned x position counts
  turned_only (refused n) v out = λ i. record { code = out.position_is.code_is i; position = out.position_is.value_is i; counts = out.counts_are.value_is i }
  turned_only (given t) v out = λ i. record { code = out.position_is.code_is i; position = out.position_is.value_is i; counts = (out.counts_are.value_is ∙ steps_all t counts size) i }

  pub turned_out : (x : Answer Turns) → TurnsOut x (told.turned x position counts).code position (told.turned x position counts).position counts (told.turned x position counts).counts
  turned_out (refused n) = record { position_is = record { code_is = refl; value_is = refl }; counts_are = record { code_is = refl; value_is = refl } }
  turned_out (given t) = record { position_is = record { code_is = refl; value_is = refl }; counts_are = record { code_is = refl; value_is = sym (steps_all t counts size) } }

pub got_only : (x : Answer ℕ) (old : ℕ) (v : told.Got) → Out number (plain x) v.code old v.value → v ≡ told.got x old
got_only (refused n) old v out = λ i. record { code = out.code_is i; value = out.value_is i }
got_only (given a) old v out = λ i. record { code = out.code_is i; value = out.value_is i }

pub got_out : (x : Answer ℕ) (old : ℕ) → Out number (plain x) (told.got x old).code old (told.got x old).value
got_out (refused n) old = record { code_is = refl; value_is = refl }
got_out (given a) old = record { code_is = refl; value_is = refl }

-- samples that were copied, k of them
pub copies_only : (n k : ℕ) (f : ℕ → ℕ) (i : ℕ) (output : List ℕ) (old : ℕ) (v : told.Copied) → Out number (plain (unless n k)) v.code old v.copied → v.output ≡ copied_to f i (unrefused n k) output → v ≡ told.copies (unless n (list_from f i k)) output old
unfolding copied_to
copies_only zero k f i output old v out e = λ j. record { code = out.code_is j; copied = (out.value_is ∙ sym (list_length f i k)) j; output = (e ∙ ap (λ (x : ℕ). list_from f i k ++ drop x output) (sym (list_length f i k))) j }
copies_only (suc n) k f i output old v out e = λ j. record { code = out.code_is j; copied = out.value_is j; output = (e ∙ sym (over_none f i output)) j }

module _ (old : List ℕ) (size : length old ≡ 3) (count : ℕ) where
  abbrev SummedOut : Answer (Option Node) → told.Summed → Type 0
  SummedOut x v = Out node_numbers (perhaps x) v.code old v.node × Out count_number (perhaps x) v.code count v.count

  summed_only : (o : Option Node) (v : told.Summed) → SummedOut (given o) v → v ≡ told.summed o old count
  summed_only None v out = λ i. record { code = out.0.code_is i; node = out.0.value_is i; count = out.1.value_is i }
  summed_only (Some n) v out = λ i. record { code = out.0.code_is i; node = (out.0.value_is ∙ three (lines_of n) old size) i; count = out.1.value_is i }

  summed_out : (o : Option Node) → SummedOut (given o) (told.summed o old count)
  summed_out None = (record { code_is = refl; value_is = refl }, record { code_is = refl; value_is = refl })
  summed_out (Some n) = (record { code_is = refl; value_is = sym (three (lines_of n) old size) }, record { code_is = refl; value_is = refl })

module _ (steps old old-read : ℕ) where
  found_only : (o : Option ℕ) (v : told.Found) → Sought number (given (record { found = o; steps = steps })) v.code old v.place old-read v.read → v ≡ found o steps old
  found_only None v out = λ i. record { code = out.find.code_is i; place = out.find.value_is i; read = out.count.value_is i }
  found_only (Some k) v out = λ i. record { code = out.find.code_is i; place = out.find.value_is i; read = out.count.value_is i }

  found_out : (o : Option ℕ) → Sought number (given (record { found = o; steps = steps })) (found o steps old).code old (found o steps old).place old-read (found o steps old).read
  found_out None = record { find = record { code_is = refl; value_is = refl }; count = record { code_is = refl; value_is = refl } }
  found_out (Some k) = record { find = record { code_is = refl; value_is = refl }; count = record { code_is = refl; value_is = refl } }

module _ (steps : ℕ) (old : List ℕ) (size : length old ≡ 4) (old-read : ℕ) where
  bursted_only : (o : Option Burst) (v : told.Bursted) → Sought burst_numbers (given (record { found = o; steps = steps })) v.code old v.ends old-read v.read → v ≡ bursted o steps old
  bursted_only None v out = λ i. record { code = out.find.code_is i; ends = out.find.value_is i; read = out.count.value_is i }
  bursted_only (Some b) v out = λ i. record { code = out.find.code_is i; ends = (out.find.value_is ∙ four b old size) i; read = out.count.value_is i }

  bursted_out : (o : Option Burst) → Sought burst_numbers (given (record { found = o; steps = steps })) (bursted o steps old).code old (bursted o steps old).ends old-read (bursted o steps old).read
  bursted_out None = record { find = record { code_is = refl; value_is = refl }; count = record { code_is = refl; value_is = refl } }
  bursted_out (Some b) = record { find = record { code_is = refl; value_is = sym (four b old size) }; count = record { code_is = refl; value_is = refl } }

-- some reference to a number
pub nowhere : One
nowhere = record { ref_ptr = (0, 0); ghost_name = 0; now = 0 }

-- and to a signed one
pub afar : Signed
afar = record { ref_ptr = (0, 0); ghost_name = 0; now = pos 0 }

module _ {run : List ℕ} {mark : Option ℕ} (numbers : List ℕ) (m : Memory) (h : Held run mark (capture_in numbers) m) where
  abbrev c : Capture
  c = capture_in numbers

  abbrev below : calls.Answers run c m
  below = answers c m h

  get_is : (i value : ℕ) → Answered (MayGet numbers m i value) (λ v. v) (told.got (unless (first_of (get_row (length run) i ∷ [])) (at run i)) value)
  get_is i value =
      let e = asked_is (below.get_is i) in
      let x = unless (first_of (get_row (length run) i ∷ [])) (at run i) in
      record {
        is = λ v may. got_only x value v (subst (λ (y : Answer ℕ). Out number (plain y) v.code value v.value) e may.4);
        answer = told.got x value;
        allowed = (([], ([], ([], ([], tt)))), anywhere, somewhere, nowhere, subst⁻¹ (λ (y : Answer ℕ). Out number (plain y) (told.got x value).code value (told.got x value).value) e (got_out x value));
      }

  -- ---- samples
  module _ (start count : ℕ) (output : List ℕ) (old : ℕ) where
    abbrev copy_refusal_lem : ℕ
    copy_refusal_lem = samples_refusal (store_of c) (lent_of m.samples (levels m)) start count (length output)

    abbrev k : ℕ
    k = copied c.len start count

    samples_are : Answered (MaySamples numbers m start count output old) (λ v. v)
        (told.copies (unless (first_of (copy_row (length run) start count (length output) ∷ [])) (list_from (at run) start (copied (length run) start count))) output old)
    samples_are = record {
      is = λ v may.
          copies_only copy_refusal_lem k (sample_of c.unitsize m.samples) start output old v may.5.count_is may.5.output_is
          ∙ ap (λ (x : Answer (List ℕ)). told.copies x output old)
          (asked_run c m h (λ x n. copy_row n start count (length output) ∷ []) (λ f x n. list_from f start (copied n start count))
          (λ z. list_same (sample_of c.unitsize m.samples) (at run) start start k (λ i l. agree c m h (start + i) (copied_inside c.len start count i l))));
      answer = record {
        code = (told.got (unless copy_refusal_lem k) old).code;
        copied = (told.got (unless copy_refusal_lem k) old).value;
        output = copied_to (sample_of c.unitsize m.samples) start (unrefused copy_refusal_lem k) output;
      };
      allowed = (([], ([], ([], ([], ([], tt))))), anywhere, somewhere, anywhere, nowhere, record { count_is = got_out (unless copy_refusal_lem k) old; output_is = refl });
    }

  summary_is : (a b : ℕ) (node : List ℕ) → length node ≡ 3 → (count : ℕ) → Answered (MaySummary numbers m a b node count) (λ v. v) (told.summed (summary (at run) (length run) a b) node count)
  summary_is a b node size count =
      let e = asked_is (below.summary_is a b) in
      let o = summary (at run) (length run) a b in
      record {
        is = λ v may. summed_only node size count o v (subst (λ (x : Answer (Option Node)). SummedOut node size count x v) e may.5);
        answer = told.summed o node count;
        allowed = (
          ([], ([], ([], ([], ([], tt))))),
          anywhere,
          somewhere,
          anywhere,
          nowhere,
          subst⁻¹ (λ (x : Answer (Option Node)). SummedOut node size count x (told.summed o node count)) e (summed_out node size count o),
        );
      }

  density_is : (a b count : ℕ) → Answered (MayDensity numbers m a b count) (λ v. v) (told.got (given (density (at run) (length run) a b)) count)
  density_is a b count =
      let e = asked_is (below.density_is a b) in
      let x = given (density (at run) (length run) a b) in
      record {
        is = λ v may. got_only x count v (subst (λ (y : Answer ℕ). Out number (plain y) v.code count v.value) e may.4);
        answer = told.got x count;
        allowed = (([], ([], ([], ([], tt)))), anywhere, somewhere, nowhere, subst⁻¹ (λ (y : Answer ℕ). Out number (plain y) (told.got x count).code count (told.got x count).value) e (got_out x count));
      }

  encoder_is : (a b : ℕ) (position : ℤ) (counts : List ℕ) → length counts ≡ 3
      → Answered (MayEncoder numbers m a b position counts) (λ v. v) (told.turned (unless (first_of (pair_row top_line a b ∷ [])) (encoder (at run) (length run) a b)) position counts)
  encoder_is a b position counts size =
      let e = asked_is (below.encoder_is a b) in
      let x = unless (first_of (pair_row top_line a b ∷ [])) (encoder (at run) (length run) a b) in
      record {
        is = λ v may. turned_only position counts size x v (subst (λ (y : Answer Turns). TurnsOut y v.code position v.position counts v.counts) e may.5);
        answer = told.turned x position counts;
        allowed = (
          ([], ([], ([], ([], ([], tt))))),
          anywhere,
          somewhere,
          afar,
          anywhere,
          subst⁻¹ (λ (y : Answer Turns). TurnsOut y (told.turned x position counts).code position (told.turned x position counts).position counts (told.turned x position counts).counts) e (turned_out position counts size x),
        );
      }

  -- what a search's export leaves behind its two pointers, whatever stood there: it leaves that alone, and may leave it
  sought : {x : Answer Walked} (w : Walked) (place read : ℕ) → x ≡ given w
      → ((v : told.Found) → Sought number x v.code place v.place read v.read → v ≡ found w.found w.steps place)
      × Sought number x (found w.found w.steps place).code place (found w.found w.steps place).place read (found w.found w.steps place).read
  sought w place read e = (
    λ v may. found_only w.steps place read w.found v (subst (λ (x : Answer Walked). Sought number x v.code place v.place read v.read) e may),
    subst⁻¹ (λ (x : Answer Walked). Sought number x (found w.found w.steps place).code place (found w.found w.steps place).place read (found w.found w.steps place).read) e (found_out w.steps place read w.found),
  )

  next_is : (mask from place read : ℕ)
      → Answered (MayNext numbers m mask from place read) (λ v. v) (found (next_search (at run) (length run) mask from).found (next_search (at run) (length run) mask from).steps place)
  next_is mask from place read =
      let w = next_search (at run) (length run) mask from in
      let s = sought w place read (asked_is (below.next_is mask from)) in
      record {
        is = λ v may. s.0 v may.5;
        answer = found w.found w.steps place;
        allowed = (([], ([], ([], ([], ([], tt))))), anywhere, somewhere, nowhere, nowhere, s.1);
      }

  previous_is : (mask from place read : ℕ)
      → Answered (MayPrevious numbers m mask from place read) (λ v. v) (found (previous_search (at run) (length run) mask from).found (previous_search (at run) (length run) mask from).steps place)
  previous_is mask from place read =
      let w = previous_search (at run) (length run) mask from in
      let s = sought w place read (asked_is (below.previous_is mask from)) in
      record {
        is = λ v may. s.0 v may.5;
        answer = found w.found w.steps place;
        allowed = (([], ([], ([], ([], ([], tt))))), anywhere, somewhere, nowhere, nowhere, s.1);
      }

  burst_is : (mask sample gap tolerance budget : ℕ) (ends : List ℕ) → length ends ≡ 4 → (read : ℕ)
      → Answered (MayBurst numbers m mask sample gap tolerance budget ends read) (λ v. v)
      (bursted (burst_search (at run) (length run) mask sample gap tolerance budget).found (burst_search (at run) (length run) mask sample gap tolerance budget).steps ends)
  burst_is mask sample gap tolerance budget ends size read =
      let e = asked_is (below.burst_is mask sample gap tolerance budget) in
      let w = burst_search (at run) (length run) mask sample gap tolerance budget in
      record {
        is = λ v may. bursted_only w.steps ends size read w.found v (subst (λ (x : Answer (Counted Burst)). Sought burst_numbers x v.code ends v.ends read v.read) e may.5);
        answer = bursted w.found w.steps ends;
        allowed = (
          ([], ([], ([], ([], ([], tt))))),
          anywhere,
          somewhere,
          anywhere,
          nowhere,
          subst⁻¹ (λ (x : Answer (Counted Burst)). Sought burst_numbers x (bursted w.found w.steps ends).code ends (bursted w.found w.steps ends).ends read (bursted w.found w.steps ends).read) e (bursted_out w.steps ends size read w.found),
        );
      }

  -- ---- render
  module _ (start spp : Float) (width : ℕ) (output : List ℕ) where
    abbrev view : pixel.View
    view = record { start = start; spp = spp }

    abbrev refusal : ℕ
    refusal = render_refusal (store_of c) (lent_of m.samples (levels m)) (view_of start spp) width (length output)

    abbrev t : ℕ → ℕ
    t = sample_of c.unitsize m.samples

    -- 10 and 11 decide
    decides : refusal ≡ first_of (view_rows (view_of start spp) width (length output))
    decides = rows_left (store_of c) (lent_of m.samples (levels m)) h.passes (view_rows (view_of start spp) width (length output))

    drawn_only : (v : told.Drawn) → DrawsOut c m.samples (levels m) start spp width output v.code v.output → v ≡ drawn (unless refusal (render (at run) (length run) (view_of start spp) width)) width output
    drawn_only v out = go refusal refl
      where
        r : (r : Result (Unit {0}) Refusal) × (told_of r ≡ unless refusal tt)
        r =
            result_for (λ x. x) refusal tt tt refl
            (store_told (store_of c) (lent_of m.samples (levels m)) (view_rows (view_of start spp) width (length output)) ((View, refl), ((Output, refl), tt)))

        -- what the call under it draws
        call : drawing.Draws (summed (levels m) t) (store_of c) (lent_of m.samples (levels m)) (view_of start spp) width output r.0 v.output
        call = record { answer_is = r.1; output_is = out.output_is }

        go : (n : ℕ) → refusal ≡ n → v ≡ drawn (unless n (render (at run) (length run) (view_of start spp) width)) width output
        go zero e = λ i. record { code = (out.code_is ∙ e) i; output = row i }
          where
            row : v.output ≡ render (at run) (length run) (view_of start spp) width ++ drop (2 * width) output
            row =
                render_row ([], ([], tt)) c (shown somewhere m) view width (at_last anywhere output) r.0 v.output call (right c m h) e
                ∙ ap (λ (l : List ℕ). l ++ drop (2 * width) output) (render_below t (at run) c.len (agree c m h) (view_of start spp) width ∙ ap (λ (n : ℕ). render (at run) n (view_of start spp) width) h.len_is)
        go (suc n) e = λ i. record { code = (out.code_is ∙ e) i; output = same i }
          where
            same : v.output ≡ output
            same = render_refused ([], ([], tt)) c (shown somewhere m) view width (at_last anywhere output) r.0 v.output call (λ z. suc-ne-zero n (sym e ∙ z))

    render_is : Answered (MayRender numbers m start spp width output) (λ v. v)
        (drawn (unless (first_of (view_rows (view_of start spp) width (length output))) (render (at run) (length run) (view_of start spp) width)) width output)
    render_is = record {
      is = λ v may. drawn_only v may.4 ∙ ap (λ (n : ℕ). drawn (unless n (render (at run) (length run) (view_of start spp) width)) width output) decides;
      answer = record { code = refusal; output = drawing.drawn (summed (levels m) t) (pixel_range (view_of start spp) c.len) (unrefused refusal width) output };
      allowed = (([], ([], ([], ([], tt)))), anywhere, somewhere, anywhere, record { code_is = refl; output_is = refl });
    }

  pub exports_answer : Answers run numbers m
  exports_answer = record { get_is = get_is; samples_are = samples_are; summary_is = summary_is; density_is = density_is; next_is = next_is; previous_is = previous_is; burst_is = burst_is; encoder_is = encoder_is; render_is = render_is }
