-- Runs of the same length with the same chosen lines answer alike, and runs of one length that answer alike have the same chosen lines.
use mathlib.Core.Path.{◌≡◌, sym, ap, ◌∙◌, subst, subst⁻¹}
use mathlib.Core.Logic.{◌↔◌}
use Rattle.std.specs.Prelude.{Option, Some}
use Prim.Native.Nat.{ℕ, ◌+◌, ◌<◌, min}
use native.Mathlib.Omega.{arith}
use lib.Bits.{bit_and}
use borrow.Author.Tests.{lt-ltb}
use Rattle.rules.specs.Node.{Lines, node_of, cut, leaf}
use Rattle.rules.specs.Search.{summary, cut_summary}
use Rattle.rules.specs.Pixel.{Range, row_by, cut_pixels}
use Rattle.rules.specs.Sample.{all_lines, cut_lines}
use Rattle.rules.proofs.Node.{node_one}
use Rattle.rules.proofs.Row.{Stored}
use Rattle.rules.proofs.Encoder.{encoder_same, lines_chosen}
use Rattle.claim_alike.specs.Alike.{AreWords, Same, Alike}
use Rattle.claim_alike.proofs.Below.{summary_below, density_below, render_below, next_below, previous_below, burst_below, row_below}
use Rattle.claim_alike.proofs.Cut.{all_lines_lem, lines_in, summary_cut, render_cut, next_cut, previous_cut, burst_cut, row_cut}

-- the answers of either run, cut down, are those of its chosen lines, which agree
same_len : (v : ℕ) (s₁ s₂ : ℕ → ℕ) (len : ℕ) → AreWords s₁ len → AreWords s₂ len → ((i : ℕ) → i < len → bit_and (s₁ i) v ≡ bit_and (s₂ i) v) → Alike v s₁ len s₂ len
same_len v s₁ s₂ len words₁ words₂ lines = record {
  summaries = λ a b. sym (summary_cut v s₁ len a b) ∙ ap lines_in (summary_below t₁ t₂ len lines a b) ∙ summary_cut v s₂ len a b;
  pixels = λ view width. sym (render_cut v s₁ len view width) ∙ render_below t₁ t₂ len lines view width ∙ render_cut v s₂ len view width;
  nexts = λ mask w from. sym (next_cut v s₁ len mask w from) ∙ next_below t₁ t₂ len lines mask from ∙ next_cut v s₂ len mask w from;
  previouses = λ mask w from. sym (previous_cut v s₁ len mask w from) ∙ previous_below t₁ t₂ len lines mask from ∙ previous_cut v s₂ len mask w from;
  bursts = λ mask w sample gap tolerance budget.
      sym (burst_cut v s₁ len mask w sample gap tolerance budget)
      ∙ burst_below t₁ t₂ len lines mask sample gap tolerance budget
      ∙ burst_cut v s₂ len mask w sample gap tolerance budget;
  encoders = λ a b w. encoder_same s₁ s₂ len a b (λ i l. lines_chosen v a b (s₁ i) (s₂ i) w (lines i l));
  densities = λ e. density_below s₁ s₂ len (samples e);
  counts = λ e. summary_below s₁ s₂ len (samples e);
}
  where
    t₁ : ℕ → ℕ
    t₁ = cut_lines v s₁

    t₂ : ℕ → ℕ
    t₂ = cut_lines v s₂

    -- who chose all lines sees every sample whole
    samples : v ≡ all_lines → (i : ℕ) → i < len → s₁ i ≡ s₂ i
    samples e i l = sym (all_lines_lem (s₁ i) (words₁ i l)) ∙ subst (λ (w : ℕ). bit_and (s₁ i) w ≡ bit_and (s₂ i) w) e (lines i l) ∙ all_lines_lem (s₂ i) (words₂ i l)

module _ (v : ℕ) (s₁ : ℕ → ℕ) (len₁ : ℕ) (s₂ : ℕ → ℕ) (len₂ : ℕ) where
  pub same_alike : AreWords s₁ len₁ → AreWords s₂ len₂ → Same v s₁ len₁ s₂ len₂ → Alike v s₁ len₁ s₂ len₂
  same_alike words₁ words₂ same = subst (λ (n : ℕ). Alike v s₁ len₁ s₂ n) same.len (same_len v s₁ s₂ len₁ words₁ (subst⁻¹ (AreWords s₂) same.len words₂) same.lines)

  -- a row of pixels over any ranges of stored places
  pub row_alike : Same v s₁ len₁ s₂ len₂ → (range : ℕ → ℕ → Option Range) → ((n : ℕ) → Stored (range n) n) → (px n : ℕ) → cut_pixels v (row_by (node_of s₁) (range len₁) px n) ≡ cut_pixels v (row_by (node_of s₂) (range len₂) px n)
  row_alike same range stored px n =
      sym (row_cut v s₁ len₁ (range len₁) px n)
      ∙ row_below (cut_lines v s₁) (cut_lines v s₂) len₁ same.lines (range len₁) (stored len₁) px n
      ∙ row_cut v s₂ len₁ (range len₁) px n
      ∙ ap (λ (l : ℕ). cut_pixels v (row_by (node_of s₂) (range l) px n)) same.len

  -- the node of one sample is that sample
  one_sample : (s : ℕ → ℕ) (len i : ℕ) → i < len → cut_summary v (summary s len i (i + 1)) ≡ Some (cut v (leaf (s i)))
  one_sample s len i h = rw (least, lt-ltb i (i + 1) (omega arith), node_one s i)
    where
      least : min (i + 1) len ≡ i + 1
      least = omega arith

  -- summaries of single samples suffice
  pub alike_same : len₁ ≡ len₂ → ((i : ℕ) → i < len₁ → cut_summary v (summary s₁ len₁ i (i + 1)) ≡ cut_summary v (summary s₂ len₂ i (i + 1))) → Same v s₁ len₁ s₂ len₂
  alike_same e h = record { len = e; lines = λ i l. first i l (sym (one_sample s₁ len₁ i l) ∙ h i l ∙ one_sample s₂ len₂ i (omega arith)) }
    where
      first : (i : ℕ) → i < len₁ → Some (cut v (leaf (s₁ i))) ≡ Some (cut v (leaf (s₂ i))) → bit_and (s₁ i) v ≡ bit_and (s₂ i) v
      first i l q = let n : cut v (leaf (s₁ i)) ≡ cut v (leaf (s₂ i)) = cc in ap (λ (x : Lines). x.first) n

  pub alike : AreWords s₁ len₁ → AreWords s₂ len₂ → Same v s₁ len₁ s₂ len₂ ↔ ((len₁ ≡ len₂) × Alike v s₁ len₁ s₂ len₂)
  alike words₁ words₂ = (λ same. (same.len, same_alike words₁ words₂ same), λ t. alike_same t.0 (λ i l. t.1.summaries i (i + 1)))
