-- Asked through the exports, two captures that hold a run each look alike to a viewer of chosen lines exactly when the runs are the same on those lines; and densities add up.
use mathlib.Core.Path.{◌≡◌, refl, sym, ap, ◌∙◌}
use mathlib.Core.Bool.{cond}
use mathlib.Core.List.{List, [], ◌∷◌, ◌++◌, map-append}
use mathlib.Core.Logic.{◌↔◌}
use Rattle.std.specs.Prelude.{Option, None, Some}
use Prim.Native.Nat.{ℕ, zero, suc, ◌+◌, ◌*◌, ◌<◌}
use native.Mathlib.Nat.{zero-lt-suc}
use lib.Bits.{bit_and}
use lib.Dec.{eqb}
use lib.ListN.{length, drop, get_or}
use Rattle.rules.specs.Node.{Node, Lines}
use Rattle.rules.specs.Search.{summary, cut_summary}
use Rattle.rules.specs.Walk.{Walked, Counted}
use Rattle.rules.specs.Burst.{Burst}
use Rattle.rules.specs.Refusal.{first_of, view_rows, top_line}
use Rattle.rules.specs.Answer.{Answer, given, unless}
use Rattle.rules.specs.Pixel.{render, cut_pixels}
use Rattle.rules.specs.Encoder.{Turns, pair_wrong, pair_row}
use Rattle.rules.proofs.Refusal.{row_passed}
use Rattle.claim_alike.specs.Alike.{Alike}
use Rattle.claim_alike.proofs.Alike.{same_alike, alike_same}
use Rattle.codes.specs.Record.{capture_in}
use Rattle.claim_captures.specs.Words.{Memory, at, Same}
use Rattle.claim_captures.specs.Claim.{Held}
use Rattle.claim_captures.proofs.Words.{held_words}
use Rattle.claim_captures.proofs.Answers.{unless_same}
use Rattle.claim_captures.proofs.Alike.{agreed, same_seen, places}
use Rattle.claim_captures.proofs.Additive.{add_up}
use Rattle.claim_exports.specs.Questions.{Got, got, summed, CutSummed, cut_summed, found, bursted, turned, drawn, view_of, Answers, cut_node, cut_drawn, LookAlike, Additive}
use Rattle.claim_exports.proofs.Answers.{exports_answer}

-- cut down, what is told of a summary is what is told of the summary cut down
cut_summed_lem : (v : ℕ) (o : Option Node) (old : List ℕ) (count : ℕ) → cut_node v (summed o old count) ≡ cut_summed (cut_summary v o) (cut_pixels v old)
cut_summed_lem v None old count = refl
cut_summed_lem v (Some n) old count = refl

-- a summary's lines from what is told of them
read_back : CutSummed → Option Lines
read_back t = cond (eqb t.code 0) (Some (record { first = get_or t.node 0 0; last = get_or t.node 1 0; toggles = get_or t.node 2 0 })) None

summed_back : (o : Option Lines) (old : List ℕ) → read_back (cut_summed o old) ≡ o
unfolding read_back
summed_back None old = refl
summed_back (Some n) old = refl

summed_same : (v : ℕ) (o₁ o₂ : Option Node) (old : List ℕ) (count : ℕ) → cut_node v (summed o₁ old count) ≡ cut_node v (summed o₂ old count) → cut_summary v o₁ ≡ cut_summary v o₂
summed_same v o₁ o₂ old count e =
    sym (summed_back (cut_summary v o₁) (cut_pixels v old))
    ∙ ap read_back (sym (cut_summed_lem v o₁ old count) ∙ e ∙ cut_summed_lem v o₂ old count)
    ∙ summed_back (cut_summary v o₂) (cut_pixels v old)

-- pixels that are the same cut down, in outputs that were the same
cut_append : (v : ℕ) (a b rest : List ℕ) → cut_pixels v a ≡ cut_pixels v b → cut_pixels v (a ++ rest) ≡ cut_pixels v (b ++ rest)
cut_append v a b rest e = map-append (λ (x : ℕ). bit_and x v) a rest ∙ ap (λ (l : List ℕ). l ++ cut_pixels v rest) e ∙ sym (map-append (λ (x : ℕ). bit_and x v) b rest)

drawn_same : (v n width : ℕ) (a b old : List ℕ) → cut_pixels v a ≡ cut_pixels v b → cut_drawn v (drawn (unless n a) width old) ≡ cut_drawn v (drawn (unless n b) width old)
drawn_same v zero width a b old e = λ i. record { code = 0; output = cut_append v a b (drop (2 * width) old) e i }
drawn_same v (suc n) width a b old e = refl

module _ {run₁ : List ℕ} {mark₁ : Option ℕ} (n₁ : List ℕ) (m₁ : Memory) {run₂ : List ℕ} {mark₂ : Option ℕ} (n₂ : List ℕ) (m₂ : Memory)
    (one : Held run₁ mark₁ (capture_in n₁) m₁) (two : Held run₂ mark₂ (capture_in n₂) m₂) (v : ℕ) where
  abbrev a₁ : Answers run₁ n₁ m₁
  a₁ = exports_answer n₁ m₁ one

  abbrev a₂ : Answers run₂ n₂ m₂
  a₂ = exports_answer n₂ m₂ two

  alike_runs : LookAlike v n₁ m₁ n₂ m₂ → Same v run₁ mark₁ run₂ mark₂
  alike_runs look = record {
    marks = sym one.mark_is ∙ look.marks ∙ two.mark_is;
    runs = alike_same v (at run₁) (length run₁) (at run₂) (length run₂) (sym one.len_is ∙ look.lens ∙ two.len_is) samples;
  }
    where
      samples : (i : ℕ) → i < length run₁ → cut_summary v (summary (at run₁) (length run₁) i (i + 1)) ≡ cut_summary v (summary (at run₂) (length run₂) i (i + 1))
      samples i h =
          let p = places (capture_in n₁) m₁ one i h in
          summed_same v (summary (at run₁) (length run₁) i (i + 1)) (summary (at run₂) (length run₂) i (i + 1)) (0 ∷ 0 ∷ 0 ∷ []) 0
          (same_seen (cut_node v) (a₁.summary_is i (i + 1) (0 ∷ 0 ∷ 0 ∷ []) refl 0) (a₂.summary_is i (i + 1) (0 ∷ 0 ∷ 0 ∷ []) refl 0) (look.summaries i (i + 1) p.0 p.1 (0 ∷ 0 ∷ 0 ∷ []) refl 0))

  runs_alike : Same v run₁ mark₁ run₂ mark₂ → LookAlike v n₁ m₁ n₂ m₂
  runs_alike same = record {
    lens = one.len_is ∙ same.runs.len ∙ sym two.len_is;
    marks = one.mark_is ∙ same.marks ∙ sym two.mark_is;
    summaries = λ a b _ _ node size count.
        agreed (cut_node v) (a₁.summary_is a b node size count) (a₂.summary_is a b node size count)
        (cut_summed_lem v (summary (at run₁) (length run₁) a b) node count
        ∙ ap (λ (o : Option Lines). cut_summed o (cut_pixels v node)) (rules.summaries a b)
        ∙ sym (cut_summed_lem v (summary (at run₂) (length run₂) a b) node count));
    pixels = λ start spp width _ _ _ output _.
        agreed (cut_drawn v) (a₁.render_is start spp width output) (a₂.render_is start spp width output)
        (drawn_same v (first_of (view_rows (view_of start spp) width (length output))) width (render (at run₁) (length run₁) (view_of start spp) width) (render (at run₂) (length run₂) (view_of start spp) width) output
        (rules.pixels (view_of start spp) width));
    nexts = λ mask from _ w _ place read. agreed (λ x. x) (a₁.next_is mask from place read) (a₂.next_is mask from place read) (ap (λ (s : Walked). found s.found s.steps place) (rules.nexts mask w from));
    previouses = λ mask from _ w _ place read. agreed (λ x. x) (a₁.previous_is mask from place read) (a₂.previous_is mask from place read) (ap (λ (s : Walked). found s.found s.steps place) (rules.previouses mask w from));
    bursts = λ mask sample gap tolerance budget _ w _ _ _ _ ends size read.
        agreed (λ x. x) (a₁.burst_is mask sample gap tolerance budget ends size read) (a₂.burst_is mask sample gap tolerance budget ends size read)
        (ap (λ (s : Counted Burst). bursted s.found s.steps ends) (rules.bursts mask w sample gap tolerance budget));
    encoders = λ a b _ _ w position counts size.
        agreed (λ x. x) (a₁.encoder_is a b position counts size) (a₂.encoder_is a b position counts size)
        (ap (λ (x : Answer Turns). turned x position counts)
        (unless_same (first_of (pair_row top_line a b ∷ [])) _ _ (λ z. rules.encoders a b (w ((row_passed 14 0 (pair_wrong top_line a b) (zero-lt-suc 13)).0 z).0))));
    densities = λ e a b _ _ count. agreed (λ x. x) (a₁.density_is a b count) (a₂.density_is a b count) (ap (λ (n : ℕ). got (given n) count) (rules.densities e a b));
    counts = λ e a b _ _ node size count. agreed (λ x. x) (a₁.summary_is a b node size count) (a₂.summary_is a b node size count) (ap (λ (o : Option Node). summed o node count) (rules.counts e a b));
  }
    where
      rules : Alike v (at run₁) (length run₁) (at run₂) (length run₂)
      rules = same_alike v (at run₁) (length run₁) (at run₂) (length run₂) (held_words (capture_in n₁) m₁ one) (held_words (capture_in n₂) m₂ two) same.runs

  pub exports_alike : LookAlike v n₁ m₁ n₂ m₂ ↔ Same v run₁ mark₁ run₂ mark₂
  exports_alike = (alike_runs, runs_alike)

pub additive : {run : List ℕ} {mark : Option ℕ} (numbers : List ℕ) (m : Memory) → Held run mark (capture_in numbers) m → Additive run numbers m
additive {run} numbers m h part count may =
    add_up run part (λ x y l k. ap (λ (v : Got). v.value) (((exports_answer numbers m h).density_is x y count).is (record { code = 0; value = part x y }) (may x y l k)))
