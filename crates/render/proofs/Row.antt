-- Laws of a row of pixels: what the loop over the pixels knows, what stands after them, and that summaries which agree on stored ranges draw the same.
use Prim.Native.Nat.{ℕ, zero, suc, ◌+◌, ◌*◌, ◌≤◌, ◌<◌}
use mathlib.Core.Path.{◌≡◌, refl, sym, ap, ap₂, ◌∙◌}
use mathlib.Core.List.{List, [], ◌∷◌, ◌++◌}
use Rattle.std.specs.Prelude.{Option, None, Some}
use native.Mathlib.Nat.{add-zero}
use native.Mathlib.Numerals.{add-one}
use native.Mathlib.Omega.{arith}
use lib.ListN.{length, take, drop, set, length-append, length-drop}
use lib.Seq.{sets-eq, take_at, drop_at, drop-drop}
use Rattle.rules.specs.Node.{Node, Lines, lines_of}
use Rattle.rules.specs.Pixel.{Range, shown, row_by}
use Rattle.rules.proofs.Row.{Stored, row_length, row_same}
use Rattle.render.specs.Render.{drawn, pixel_node}

module _ (node : ℕ → ℕ → Node) where
  -- ---- one pixel
  shown_append : (r : Option Range) (a b : List ℕ) → shown node r (a ++ b) ≡ shown node r a ++ b
  shown_append None a b = refl
  shown_append (Some r) a b = refl

  shown_is : (r : Option Range) (n : Node) → lines_of n ≡ lines_of (pixel_node node r) → n.first ∷ n.toggles ∷ [] ≡ shown node r []
  shown_is None n e = ap (λ (l : Lines). l.first ∷ l.toggles ∷ []) e
  shown_is (Some r) n e = ap (λ (l : Lines). l.first ∷ l.toggles ∷ []) e

  -- ---- a row
  module _ (range : ℕ → Option Range) where
    -- one pixel more
    row_last : (px n : ℕ) → row_by node range px (suc n) ≡ row_by node range px n ++ shown node (range (px + n)) []
    unfolding row_by
    row_last px zero = ap (λ (k : ℕ). shown node (range k) []) (sym (add-zero px))
    row_last px (suc n) =
        ap (shown node (range px)) (row_last (px + 1) n ∙ ap (λ (k : ℕ). row_by node range (px + 1) n ++ shown node (range k) []) next)
        ∙ shown_append (range px) (row_by node range (px + 1) n) (shown node (range (px + suc n)) [])
      where
        next : px + 1 + n ≡ px + suc n
        next = omega arith

    -- ---- output, of which the first pixels are drawn
    pub drawn_none : (output : List ℕ) → output ≡ drawn node range 0 output
    unfolding drawn row_by
    drawn_none output = refl

    pub drawn_length : (k : ℕ) (output : List ℕ) → 2 * k ≤ length output → length (drawn node range k output) ≡ length output
    unfolding drawn
    drawn_length k output h = length-append (row_by node range 0 k) (drop (2 * k) output) ∙ omega (arith, row_length node range 0 k, length-drop (2 * k) output)

    pub drawn_turn : (px : ℕ) (n : Node) (output now : List ℕ) → 2 * px + 2 ≤ length output → now ≡ drawn node range px output → lines_of n ≡ lines_of (pixel_node node (range px)) → set (set now (2 * px) n.first) (2 * px + 1) n.toggles ≡ drawn node range (px + 1) output
    unfolding drawn
    drawn_turn px n output now h e en =
        ap (λ (k : ℕ). set (set now (2 * px) n.first) k n.toggles) (add-one (2 * px))
        ∙ sets-eq (n.first ∷ n.toggles ∷ []) now (2 * px) (omega (arith, ap length e, drawn_length px output (omega arith)))
        ∙ ap₂ (λ (a b : List ℕ). a ++ (n.first ∷ n.toggles ∷ []) ++ b) before after
        ∙ ap (λ (a : List ℕ). row ++ a ++ drop (2 * (px + 1)) output) (shown_is (range px) n en)
        ∙ ap (λ (a : List ℕ). a ++ drop (2 * (px + 1)) output) (ap (λ (k : ℕ). row ++ shown node (range k) []) here ∙ sym (row_last 0 px) ∙ ap (row_by node range 0) (sym (add-one px)))
      where
        row : List ℕ
        row = row_by node range 0 px

        before : take (2 * px) now ≡ row
        before = ap (take (2 * px)) e ∙ take_at row (drop (2 * px) output) (2 * px) (row_length node range 0 px)

        here : px ≡ 0 + px
        here = omega arith

        two : 2 * px + 2 ≡ 2 * (px + 1)
        two = omega arith

        after : drop (2 * px + 2) now ≡ drop (2 * (px + 1)) output
        after =
            sym (drop-drop 2 (2 * px) now)
            ∙ ap (drop 2) (ap (drop (2 * px)) e ∙ drop_at row (drop (2 * px) output) (2 * px) (row_length node range 0 px))
            ∙ drop-drop 2 (2 * px) output
            ∙ ap (λ (k : ℕ). drop k output) two

    -- past the pixels
    pub drawn_rest : (k : ℕ) (output : List ℕ) → drop (2 * k) (drawn node range k output) ≡ drop (2 * k) output
    unfolding drawn
    drawn_rest k output = drop_at (row_by node range 0 k) (drop (2 * k) output) (2 * k) (row_length node range 0 k)

pub drawn_same : (node node' : ℕ → ℕ → Node) (range : ℕ → Option Range) (len : ℕ) → Stored range len → ((a b : ℕ) → a < b → b ≤ len → node a b ≡ node' a b) → (k : ℕ) (output : List ℕ) → drawn node range k output ≡ drawn node' range k output
unfolding drawn
drawn_same node node' range len stored same k output = ap (λ (a : List ℕ). a ++ drop (2 * k) output) (row_same node node' range len stored same 0 k)
