-- Two captures that hold a run each tell a mill the same where the runs are the same in length, mark and granted lines; so do two recordings.
use mathlib.Core.Path.{◌≡◌, refl, sym, ap, ap₂, ◌∙◌}
use mathlib.Core.Bool.{Bool, true, false, cond, not}
use mathlib.Core.List.{List, []}
use Rattle.std.specs.Prelude.{Option}
use Prim.Native.Nat.{ℕ, ◌+◌}
use native.Mathlib.Nat.{zero-lt-suc}
use lib.Bits.{bit_and}
use lib.Dec.{eqb}
use lib.IntN.{ℤ}
use lib.ListN.{length}
use borrow.Author.Tests.{eqb-true}
use Rattle.rules.specs.Sample.{list_from, Within, cut_lines}
use Rattle.rules.specs.Node.{node_of}
use Rattle.rules.specs.Search.{summary, cut_summary}
use Rattle.rules.specs.Walk.{through, next_search, previous_search}
use Rattle.rules.specs.Burst.{burst_search}
use Rattle.rules.specs.Pixel.{row_by, range_from, cut_pixels}
use Rattle.rules.specs.Encoder.{encoder, pair_mask, pair_wrong}
use Rattle.rules.specs.Refusal.{Row, first_of, view_rows, copied, top_line}
use Rattle.rules.specs.Mill.{origin_of, place_at, beyond, shown_place, shown_burst, mill_get_rows, mill_samples_rows, mill_summary_rows, mill_search_rows, mill_encoder_rows}
use Rattle.rules.specs.Answer.{unless}
use Rattle.rules.proofs.Sample.{list_same}
use Rattle.rules.proofs.Refusal.{row_passed}
use Rattle.rules.proofs.Row.{from_stored}
use Rattle.claim_alike.specs.Alike.{Alike}
use Rattle.claim_alike.proofs.Alike.{same_alike, row_alike}
use Rattle.capture.specs.declared.Capture.{Capture}
use Rattle.mill_read.specs.Read.{extent_for}
use Rattle.pixel.specs.Ranges.{view_as}
use Rattle.claim_captures.specs.Words.{Memory, at, Same}
use Rattle.claim_captures.specs.Claim.{Held}
use Rattle.claim_captures.proofs.Words.{held_words}
use Rattle.claim_captures.proofs.Answers.{unless_same, copied_inside}
use Rattle.claim_captures.proofs.Alike.{agreed}
use Rattle.claim_recording.specs.Claim.{store, run, mark}
use Rattle.claim_recording.proofs.Selection.{selection}
use Rattle.claim_mill.specs.Claim.{MillAnswers, MillAlike, CapturesShow, MillLearns}
use Rattle.claim_mill.proofs.Answers.{got_inside, mill_answers}

-- 12 does not refuse: the mask is within the grant
not-false : (b : Bool) → not b ≡ false → b ≡ true
not-false true e = refl
not-false false e = sym e

granted : (grant mask rest : ℕ) → cond (beyond grant mask) 12 rest ≡ 0 → Within mask grant
granted grant mask rest z = eqb-true (bit_and mask grant) mask (not-false (eqb (bit_and mask grant) mask) ((row_passed 12 rest (beyond grant mask) (zero-lt-suc 11)).0 z).0)

within : (grant mask : ℕ) (x : Option ℕ) (p : ℤ) → first_of (mill_search_rows grant mask x p) ≡ 0 → Within mask grant
within grant mask x p z = granted grant mask _ z

-- behind 14
pair_within : (grant a b : ℕ) → first_of (mill_encoder_rows grant a b) ≡ 0 → Within (pair_mask a b) grant
pair_within grant a b z = granted grant (pair_mask a b) 0 ((row_passed 14 _ (pair_wrong top_line a b) (zero-lt-suc 13)).0 z).1

module _ (grant : ℕ) {run₁ : List ℕ} {mark₁ : Option ℕ} (c₁ : Capture) (m₁ : Memory) {run₂ : List ℕ} {mark₂ : Option ℕ} (c₂ : Capture) (m₂ : Memory)
    (one : Held run₁ mark₁ c₁ m₁) (two : Held run₂ mark₂ c₂ m₂) (same : Same grant run₁ mark₁ run₂ mark₂) where
  abbrev a₁ : MillAnswers grant run₁ mark₁ c₁ m₁
  a₁ = mill_answers c₁ m₁ one grant

  abbrev a₂ : MillAnswers grant run₂ mark₂ c₂ m₂
  a₂ = mill_answers c₂ m₂ two grant

  rules : Alike grant (at run₁) (length run₁) (at run₂) (length run₂)
  rules = same_alike grant (at run₁) (length run₁) (at run₂) (length run₂) (held_words c₁ m₁ one) (held_words c₂ m₂ two) same.runs

  -- the same rows, and where they do not refuse the same answer by the rules
  both : {A : Type 0} (rows : Option ℕ → ℕ → List Row) (rule : (ℕ → ℕ) → Option ℕ → ℕ → A)
      → (first_of (rows mark₁ (length run₁)) ≡ 0 → rule (at run₁) mark₁ (length run₁) ≡ rule (at run₂) mark₁ (length run₂))
      → unless (first_of (rows mark₁ (length run₁))) (rule (at run₁) mark₁ (length run₁)) ≡ unless (first_of (rows mark₂ (length run₂))) (rule (at run₂) mark₂ (length run₂))
  both rows rule e =
      unless_same (first_of (rows mark₁ (length run₁))) (rule (at run₁) mark₁ (length run₁)) (rule (at run₂) mark₁ (length run₂)) e
      ∙ ap₂ (λ (x : Option ℕ) (n : ℕ). unless (first_of (rows x n)) (rule (at run₂) x (length run₂))) same.marks same.runs.len

  -- the place of the run that a mill's place is
  abbrev spot : ℤ → ℕ
  spot p = place_at (origin_of mark₁) p

  pub mill_alike : MillAlike grant c₁ m₁ c₂ m₂
  mill_alike = record {
    extents = agreed (λ x. x) a₁.extent_is a₂.extent_is (both (λ x n. []) (λ f x n. extent_for x n) (λ z. ap (extent_for mark₁) same.runs.len));
    gets = λ p.
        agreed (λ x. x) (a₁.get_is p) (a₂.get_is p)
        (both (λ x n. mill_get_rows x n p) (λ f x n. bit_and (f (place_at (origin_of x) p)) grant) (λ z. same.runs.lines (spot p) (got_inside mark₁ (length run₁) p z)));
    samples = λ p n output₁ output₂ e.
        agreed (λ x. x) (a₁.samples_are p n output₁) (a₂.samples_are p n output₂)
        (both (λ x j. mill_samples_rows x j p n (length output₁)) (λ f x j. list_from (cut_lines grant f) (place_at (origin_of x) p) (copied j (place_at (origin_of x) p) n)) (λ z. copies p n)
        ∙ ap (λ (l : ℕ). unless (first_of (mill_samples_rows mark₂ (length run₂) p n l)) (list_from (cut_lines grant (at run₂)) (place_at (origin_of mark₂) p) (copied (length run₂) (place_at (origin_of mark₂) p) n))) e);
    summaries = λ a b.
        agreed (λ x. x) (a₁.summary_is a b) (a₂.summary_is a b)
        (both (λ x n. mill_summary_rows x a b) (λ f x n. cut_summary grant (summary f n (place_at (origin_of x) a) (place_at (origin_of x) b))) (λ z. rules.summaries (spot a) (spot b)));
    nexts = λ mask p.
        agreed (λ x. x) (a₁.next_is mask p) (a₂.next_is mask p)
        (both (λ x n. mill_search_rows grant mask x p) (λ f x n. through (shown_place (origin_of x)) (next_search f n mask (place_at (origin_of x) p)))
        (λ z. ap (through (shown_place (origin_of mark₁))) (rules.nexts mask (within grant mask mark₁ p z) (spot p))));
    previouses = λ mask p.
        agreed (λ x. x) (a₁.previous_is mask p) (a₂.previous_is mask p)
        (both (λ x n. mill_search_rows grant mask x p) (λ f x n. through (shown_place (origin_of x)) (previous_search f n mask (place_at (origin_of x) p)))
        (λ z. ap (through (shown_place (origin_of mark₁))) (rules.previouses mask (within grant mask mark₁ p z) (spot p))));
    bursts = λ mask p gap tolerance budget.
        agreed (λ x. x) (a₁.burst_is mask p gap tolerance budget) (a₂.burst_is mask p gap tolerance budget)
        (both (λ x n. mill_search_rows grant mask x p) (λ f x n. through (shown_burst (origin_of x)) (burst_search f n mask (place_at (origin_of x) p) gap tolerance budget))
        (λ z. ap (through (shown_burst (origin_of mark₁))) (rules.bursts mask (within grant mask mark₁ p z) (spot p) gap tolerance budget)));
    encoders = λ a b.
        agreed (λ x. x) (a₁.encoder_is a b) (a₂.encoder_is a b)
        (both (λ x n. mill_encoder_rows grant a b) (λ f x n. encoder f n a b) (λ z. rules.encoders a b (pair_within grant a b z)));
    pixels = λ view width output₁ output₂ e.
        agreed (λ x. x) (a₁.render_is view width output₁) (a₂.render_is view width output₂)
        (both (λ x n. view_rows (view_as view) width (length output₁)) (λ f x n. cut_pixels grant (row_by (node_of f) (range_from (origin_of x) (view_as view) n) 0 width))
        (λ z. row_alike grant (at run₁) (length run₁) (at run₂) (length run₂) same.runs (range_from (origin_of mark₁) (view_as view)) (from_stored (origin_of mark₁) (view_as view)) 0 width)
        ∙ ap (λ (l : ℕ). unless (first_of (view_rows (view_as view) width l)) (cut_pixels grant (row_by (node_of (at run₂)) (range_from (origin_of mark₂) (view_as view) (length run₂)) 0 width))) e);
  }
    where
      copies : (p : ℤ) (n : ℕ) → list_from (cut_lines grant (at run₁)) (spot p) (copied (length run₁) (spot p) n) ≡ list_from (cut_lines grant (at run₂)) (spot p) (copied (length run₂) (spot p) n)
      copies p n =
          list_same (cut_lines grant (at run₁)) (cut_lines grant (at run₂)) (spot p) (spot p) (copied (length run₁) (spot p) n) (λ j h. same.runs.lines (spot p + j) (copied_inside (length run₁) (spot p) n j h))
          ∙ ap (λ (l : ℕ). list_from (cut_lines grant (at run₂)) (spot p) (copied l (spot p) n)) same.runs.len

pub captures_show : CapturesShow
captures_show grant run₁ mark₁ c₁ m₁ run₂ mark₂ c₂ m₂ one two = (mill_answers c₁ m₁ one grant, mill_answers c₂ m₂ two grant, mill_alike grant c₁ m₁ c₂ m₂ one two)

pub mill_learns : MillLearns
mill_learns grant one two =
    captures_show grant (run one) (mark one) (store one) one.memory.store (run two) (mark two) (store two) two.memory.store (selection one).held (selection two).held
