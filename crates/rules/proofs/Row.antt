-- Laws of a row of pixels: a pixel that is drawn covers stored places alone, so that summaries which agree on these draw the same.
use mathlib.Core.Path.{◌≡◌, refl, ap, ap₂, ◌∙◌}
use mathlib.Core.Bool.{Bool, true, false, cond, ◌||◌}
use mathlib.Core.List.{List, ◌∷◌}
use Rattle.std.specs.Prelude.{Option, None, Some}
use Rattle.rules.proofs.Options.{none-ne-some}
use Prim.Native.Nat.{ℕ, zero, suc, ◌+◌, ◌*◌, ◌≤◌, ◌<◌}
use native.Mathlib.Omega.{arith}
use lib.Dec.{eqb}
use lib.IntN.{pos, negsuc}
use lib.ListN.{length}
use borrow.Author.Tests.{leb-false, eqb-false}
use Rattle.rules.specs.Node.{Node}
use Rattle.rules.specs.Floor.{Whole, under, over, at, natural}
use Rattle.rules.specs.Floor
use Rattle.rules.specs.Pixel.{View, Range, pixel_edge, below0, reaches, end_of, range_of, pixel_range, shown, row_by, moved, range_from}
use Rattle.rules.proofs.Refusal.{neither}

-- ---- one pixel
-- "a ≥ len" and "len = 0" do not hold
starts : (a : Whole) (len : ℕ) → reaches a len ≡ false → 0 < len → natural a < len
starts Floor.none len e h = h
starts under len e h = h
starts over len e h = let z : ◌≡◌ {A = ℕ} 0 1 = cc in absurd (omega arith)
starts (at (pos n)) len e h = leb-false len n e
starts (at (negsuc n)) len e h = h

ends : (b : Whole) (a len : ℕ) → a < len → (a < end_of b a len) × (end_of b a len ≤ len)
ends Floor.none a len h = (omega arith, omega arith)
ends under a len h = (omega arith, omega arith)
ends over a len h = (h, omega arith)
ends (at (pos n)) a len h = (omega arith, omega arith)
ends (at (negsuc n)) a len h = (omega arith, omega arith)

-- at least one place, and none past the last
pub range_inside : (a b : Whole) (len : ℕ) (r : Range) → range_of a b len ≡ Some r → (r.from < r.to) × (r.to ≤ len)
range_inside a b len r e = go (below0 b || reaches a len || eqb len 0) refl e
  where
    go : (t : Bool) → (below0 b || reaches a len || eqb len 0) ≡ t → cond t None (Some (record { from = natural a; to = end_of b (natural a) len })) ≡ Some r → (r.from < r.to) × (r.to ≤ len)
    go true q e = absurd (none-ne-some r e)
    go false q e =
        let p = (neither (below0 b || reaches a len) (eqb len 0)).0 q in
        let h = starts a len ((neither (below0 b) (reaches a len)).0 p.0).1 (omega (arith, eqb-false len 0 p.1)) in
        let is : record { from = natural a; to = end_of b (natural a) len } ≡ r = cc in
        rw (← is) (ends b (natural a) len h)

-- ---- a row
shown_length : (node : ℕ → ℕ → Node) (r : Option Range) (rest : List ℕ) → length (shown node r rest) ≡ suc (suc (length rest))
shown_length node None rest = refl
shown_length node (Some r) rest = refl

module _ (node : ℕ → ℕ → Node) (range : ℕ → Option Range) where
  pub row_length : (px n : ℕ) → length (row_by node range px n) ≡ 2 * n
  unfolding row_by
  row_length px zero = refl
  row_length px (suc n) = shown_length node (range px) (row_by node range (px + 1) n) ∙ omega (arith, row_length (px + 1) n)

-- ranges of stored places alone, none of them empty
abbrev pub Stored : (ℕ → Option Range) → ℕ → Type 0
Stored range len = (px : ℕ) (r : Range) → range px ≡ Some r → (r.from < r.to) × (r.to ≤ len)

pub pixels_stored : (v : View) (len : ℕ) → Stored (pixel_range v len) len
pixels_stored v len px r e = range_inside (pixel_edge v px) (pixel_edge v (px + 1)) len r e

pub from_stored : (origin : ℕ) (v : View) (len : ℕ) → Stored (range_from origin v len) len
from_stored origin v len px r e = range_inside (moved (pos origin) (pixel_edge v px)) (moved (pos origin) (pixel_edge v (px + 1))) len r e

module _ (node₁ node₂ : ℕ → ℕ → Node) (range : ℕ → Option Range) (len : ℕ) (stored : Stored range len) (same : (a b : ℕ) → a < b → b ≤ len → node₁ a b ≡ node₂ a b) where
  shown_same : (r : Option Range) → ((x : Range) → r ≡ Some x → (x.from < x.to) × (x.to ≤ len)) → (rest₁ rest₂ : List ℕ) → rest₁ ≡ rest₂ → shown node₁ r rest₁ ≡ shown node₂ r rest₂
  shown_same None inside rest₁ rest₂ e = ap (λ (rest : List ℕ). 0 ∷ 0 ∷ rest) e
  shown_same (Some x) inside rest₁ rest₂ e =
      let h = inside x refl in
      ap₂ (λ (n : Node) (rest : List ℕ). n.first ∷ n.toggles ∷ rest) (same x.from x.to h.0 h.1) e

  pub row_same : (px n : ℕ) → row_by node₁ range px n ≡ row_by node₂ range px n
  unfolding row_by
  row_same px zero = refl
  row_same px (suc n) = shown_same (range px) (stored px) _ _ (row_same (px + 1) n)
