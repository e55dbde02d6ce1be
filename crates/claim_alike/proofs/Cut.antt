-- The chosen lines of a run answer what the run answers, cut down; a mask within them sees no difference.
use mathlib.Core.Path.{◌≡◌, refl, ap, ap₂, ◌∙◌}
use mathlib.Core.Bool.{Bool, true, false, cond}
use mathlib.Core.List.{List, ◌∷◌}
use Rattle.std.specs.Prelude.{Option, None, Some}
use Prim.Native.Nat.{ℕ, zero, suc, ◌+◌, min}
use native.Mathlib.Nat.{mod-eq_of_lt}
use lib.Bits.{bit_and, and_comm, and_mask}
use lib.Dec.{ltb}
use Rattle.rules.specs.Node.{Node, Lines, lines_of, node_of, cut, span}
use Rattle.rules.specs.Search.{summary, cut_summary}
use Rattle.rules.specs.Walk.{all_levels, run_reader, next_search, previous_search}
use Rattle.rules.specs.Burst.{burst_search}
use Rattle.rules.specs.Pixel.{View, Range, pixel_range, shown, row_by, render, cut_pixels}
use Rattle.rules.proofs.Bits.{and_assoc}
use Rattle.rules.specs.Sample.{mask_bits, Word, all_lines, cut_to, cut_lines, Within}
use Rattle.rules.proofs.Node.{node_cut}
use Rattle.rules.proofs.Steps.{AlikeNodes}
use Rattle.claim_alike.proofs.Searches.{next_by_nodes, previous_by_nodes, burst_by_nodes}

-- all lines of a word are the word
pub all_lines_lem : (x : ℕ) → Word x → cut_to all_lines x ≡ x
all_lines_lem x h = and_mask x mask_bits ∙ mod-eq_of_lt h

-- the lines of a summary; none stays none
abbrev pub lines_in : Option Node → Option Lines
lines_in None = None
lines_in (Some n) = Some (lines_of n)

module _ (v : ℕ) (s : ℕ → ℕ) (len : ℕ) where
  abbrev lines : ℕ → ℕ
  lines = cut_lines v s

  pub summary_cut : (a b : ℕ) → lines_in (summary lines len a b) ≡ cut_summary v (summary s len a b)
  summary_cut a b = go (ltb a (min b len))
    where
      go : (t : Bool) → lines_in (cond t (Some (node_of lines a (min b len))) None) ≡ cut_summary v (cond t (Some (node_of s a (min b len))) None)
      go true = ap Some (node_cut v s a (min b len))
      go false = refl

  shown_cut : (r : Option Range) (rest₁ rest₂ : List ℕ) → rest₁ ≡ cut_pixels v rest₂ → shown (node_of lines) r rest₁ ≡ cut_pixels v (shown (node_of s) r rest₂)
  shown_cut None rest₁ rest₂ e = ap (λ (rest : List ℕ). 0 ∷ 0 ∷ rest) e
  shown_cut (Some x) rest₁ rest₂ e = ap₂ (λ (n : Lines) (rest : List ℕ). n.first ∷ n.toggles ∷ rest) (node_cut v s x.from x.to) e

  pub row_cut : (range : ℕ → Option Range) (px n : ℕ) → row_by (node_of lines) range px n ≡ cut_pixels v (row_by (node_of s) range px n)
  unfolding row_by
  row_cut range px zero = refl
  row_cut range px (suc n) = shown_cut (range px) _ _ (row_cut range (px + 1) n)

  pub render_cut : (view : View) (width : ℕ) → render lines len view width ≡ cut_pixels v (render s len view width)
  render_cut view width = row_cut (pixel_range view len) 0 width

  module _ (mask : ℕ) (w : Within mask v) where
    cut_twice : (x : ℕ) → bit_and (bit_and x v) mask ≡ bit_and x mask
    cut_twice x = and_assoc x v mask ∙ ap (bit_and x) (and_comm v mask ∙ w)

    nodes_cut : AlikeNodes all_levels (run_reader lines) (run_reader s) len mask
    nodes_cut = record { is = λ l p _ _ _ _. ap masked (node_cut v s p (p + span l)) ∙ within (node_of s p (p + span l)) }
      where
        masked : Lines → Lines
        masked n = record { first = cut_to mask n.first; last = cut_to mask n.last; toggles = cut_to mask n.toggles }

        within : (n : Node) → masked (cut v n) ≡ cut mask n
        within n = simp cut_twice

    pub next_cut : (from : ℕ) → next_search lines len mask from ≡ next_search s len mask from
    next_cut = next_by_nodes lines s len mask nodes_cut

    pub previous_cut : (from : ℕ) → previous_search lines len mask from ≡ previous_search s len mask from
    previous_cut = previous_by_nodes lines s len mask nodes_cut

    pub burst_cut : (sample gap tolerance budget : ℕ) → burst_search lines len mask sample gap tolerance budget ≡ burst_search s len mask sample gap tolerance budget
    burst_cut = burst_by_nodes lines s len mask nodes_cut
