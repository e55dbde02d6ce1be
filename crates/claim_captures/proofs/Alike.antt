-- Two captures that hold a run each look alike to a viewer of chosen lines exactly when the runs are the same on those lines.
use mathlib.Core.Path.{◌≡◌, refl, sym, ap, ◌∙◌}
use mathlib.Core.List.{List, [], ◌∷◌}
use Rattle.std.specs.Prelude.{Option}
use Prim.Native.Nat.{ℕ, zero, suc, ◌+◌, ◌≤◌, ◌<◌}
use native.Mathlib.Nat.{zero-lt-suc}
use native.Mathlib.Omega.{arith}
use lib.ListN.{length}
use Rattle.rules.specs.Search.{summary, cut_summary}
use Rattle.rules.specs.Encoder.{pair_wrong, pair_row}
use Rattle.rules.specs.Refusal.{first_of, view_rows, most_samples, top_line}
use Rattle.rules.proofs.Refusal.{row_passed}
use Rattle.rules.specs.Answer.{given, unless, seen}
use Rattle.rules.specs.Pixel.{cut_pixels}
use Rattle.claim_alike.specs.Alike.{Alike}
use Rattle.claim_alike.proofs.Alike.{same_alike, alike_same}
use Rattle.capture.specs.declared.Capture.{Capture}
use Rattle.pixel.specs.Ranges.{view_as}
use Rattle.claim_captures.specs.Words.{Memory, at, Answered, Usize, Agree, Same}
use Rattle.claim_captures.specs.Claim.{Held, Answers, LookAlike, CapturesAlike}
use Rattle.claim_captures.proofs.Words.{held_words}
use Rattle.claim_captures.proofs.Answers.{bounds, answers, unless_same}

-- ---- two calls that answer x and y agree exactly when these are seen as the same
module _ {X A B : Type 0} {may₁ may₂ : X → Type 0} {told : X → A} {x y : A} (view : A → B) (one : Answered may₁ told x) (two : Answered may₂ told y) where
  pub agreed : view x ≡ view y → Agree may₁ may₂ (λ v. view (told v))
  agreed e v w p q = ap view (one.is v p) ∙ e ∙ sym (ap view (two.is w q))

  pub same_seen : Agree may₁ may₂ (λ v. view (told v)) → view x ≡ view y
  same_seen a = sym (ap view (one.is one.answer one.allowed)) ∙ a one.answer two.answer one.allowed two.allowed ∙ ap view (two.is two.answer two.allowed)

pub given_same : {A : Type 0} (x y : A) → given x ≡ given y → x ≡ y
given_same x y e = cc

-- a refusal is seen as it is
seen_same : {A B : Type 0} (f : A → B) (n k : ℕ) (x y : A) → n ≡ k → f x ≡ f y → seen f (unless n x) ≡ seen f (unless k y)
seen_same f n k x y e h = ap (λ (j : ℕ). seen f (unless j x)) e ∙ go k
  where
    go : (k : ℕ) → seen f (unless k x) ≡ seen f (unless k y)
    go zero = ap given h
    go (suc k) = refl

-- a place of a run is a usize, and so is the one after it
pub places : {run : List ℕ} {mark : Option ℕ} (c : Capture) (m : Memory) → Held run mark c m → (i : ℕ) → i < length run → Usize i × Usize (i + 1)
places {run} c m h i l =
    let most : length run ≤ most_samples = omega (arith, h.len_is, (bounds c m h).len_most, (bounds c m h).capacity_most) in
    (omega arith, omega arith)

module _ {run₁ : List ℕ} {mark₁ : Option ℕ} (c₁ : Capture) (m₁ : Memory) {run₂ : List ℕ} {mark₂ : Option ℕ} (c₂ : Capture) (m₂ : Memory) (one : Held run₁ mark₁ c₁ m₁) (two : Held run₂ mark₂ c₂ m₂) (v : ℕ) where
  abbrev a₁ : Answers run₁ c₁ m₁
  a₁ = answers c₁ m₁ one

  abbrev a₂ : Answers run₂ c₂ m₂
  a₂ = answers c₂ m₂ two

  alike_runs : LookAlike v c₁ m₁ c₂ m₂ → Same v run₁ mark₁ run₂ mark₂
  alike_runs look = record {
    marks = sym one.mark_is ∙ look.marks ∙ two.mark_is;
    runs = alike_same v (at run₁) (length run₁) (at run₂) (length run₂) (sym one.len_is ∙ look.lens ∙ two.len_is) samples;
  }
    where
      samples : (i : ℕ) → i < length run₁ → cut_summary v (summary (at run₁) (length run₁) i (i + 1)) ≡ cut_summary v (summary (at run₂) (length run₂) i (i + 1))
      samples i h =
          let p = places c₁ m₁ one i h in
          given_same _ _ (same_seen (seen (cut_summary v)) (a₁.summary_is i (i + 1)) (a₂.summary_is i (i + 1)) (look.summaries i (i + 1) p.0 p.1))

  runs_alike : Same v run₁ mark₁ run₂ mark₂ → LookAlike v c₁ m₁ c₂ m₂
  runs_alike same = record {
    lens = one.len_is ∙ same.runs.len ∙ sym two.len_is;
    marks = one.mark_is ∙ same.marks ∙ sym two.mark_is;
    summaries = λ a b _ _. agreed (seen (cut_summary v)) (a₁.summary_is a b) (a₂.summary_is a b) (ap given (rules.summaries a b));
    pixels = λ view width _ _ _ output₁ output₂ e _.
        agreed (seen (cut_pixels v)) (a₁.render_is view width output₁) (a₂.render_is view width output₂)
        (seen_same (cut_pixels v) _ _ _ _ (ap (λ (n : ℕ). first_of (view_rows (view_as view) width n)) e) (rules.pixels (view_as view) width));
    nexts = λ mask from _ w _. agreed (λ x. x) (a₁.next_is mask from) (a₂.next_is mask from) (ap given (rules.nexts mask w from));
    previouses = λ mask from _ w _. agreed (λ x. x) (a₁.previous_is mask from) (a₂.previous_is mask from) (ap given (rules.previouses mask w from));
    bursts = λ mask sample gap tolerance budget _ w _ _ _ _.
        agreed (λ x. x) (a₁.burst_is mask sample gap tolerance budget) (a₂.burst_is mask sample gap tolerance budget) (ap given (rules.bursts mask w sample gap tolerance budget));
    encoders = λ a b _ _ w.
        agreed (λ x. x) (a₁.encoder_is a b) (a₂.encoder_is a b)
        (unless_same (first_of (pair_row top_line a b ∷ [])) _ _ (λ z. rules.encoders a b (w ((row_passed 14 0 (pair_wrong top_line a b) (zero-lt-suc 13)).0 z).0)));
    densities = λ e a b _ _. agreed (λ x. x) (a₁.density_is a b) (a₂.density_is a b) (ap given (rules.densities e a b));
    counts = λ e a b _ _. agreed (λ x. x) (a₁.summary_is a b) (a₂.summary_is a b) (ap given (rules.counts e a b));
  }
    where
      rules : Alike v (at run₁) (length run₁) (at run₂) (length run₂)
      rules = same_alike v (at run₁) (length run₁) (at run₂) (length run₂) (held_words c₁ m₁ one) (held_words c₂ m₂ two) same.runs

pub captures_alike : CapturesAlike
captures_alike run₁ mark₁ c₁ m₁ run₂ mark₂ c₂ m₂ one two v = (answers c₁ m₁ one, answers c₂ m₂ two, (alike_runs c₁ m₁ c₂ m₂ one two v, runs_alike c₁ m₁ c₂ m₂ one two v))
