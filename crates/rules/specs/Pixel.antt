-- Pixels of a view. 01: Burst and render.
use Rattle.std.specs.Prelude.{Bool, true, false, cond, ◌||◌, List, [], ◌∷◌, map, ℕ, zero, suc, ◌+◌, min, max, leb, eqb, ℤ, pos, negsuc, ◌+ℤ◌, Float}
use Rattle.std.specs.Prelude.{Option, None, Some}
use Rattle.std.specs.Float.{binary64}
use Rattle.std.specs.Float.Ieee.{add, mul, of_int}
use Rattle.rules.specs.Sample.{cut_to}
use Rattle.rules.specs.Node.{Node, node_of}
use Rattle.rules.specs.Floor.{Whole, under, over, at, floor_of, natural}
use Rattle.rules.specs.Floor

-- "A view is a record of two binary64 numbers, start and spp (samples per pixel)."
pub record View : Type 0 where
  pub start : Float
  pub spp : Float

-- "floor(start + px × spp) ..: the product is rounded, then the sum, and then the floor is taken"
unfoldable pub pixel_edge : View → ℕ → Whole
pixel_edge v px = floor_of (add binary64 v.start (mul binary64 (of_int binary64 (pos px)) v.spp))

-- "b < 0". No edge of a view that is drawn is NaN
abbrev pub below0 : Whole → Bool
below0 Floor.none = true
below0 under = true
below0 over = false
below0 (at (negsuc k)) = true
below0 (at (pos n)) = false

-- "a ≥ len"
abbrev pub reaches : Whole → ℕ → Bool
reaches Floor.none len = false
reaches under len = false
reaches over len = true
reaches (at (negsuc k)) len = false
reaches (at (pos n)) len = leb len n

-- "b = min(max(b, a+1) + 1, len)"
abbrev pub end_of : Whole → ℕ → ℕ → ℕ
end_of Floor.none a len = min (a + 1 + 1) len
end_of under a len = min (a + 1 + 1) len
end_of over a len = len
end_of (at (negsuc k)) a len = min (a + 1 + 1) len
end_of (at (pos n)) a len = min (max n (a + 1) + 1) len

-- the places [a, b) of a pixel
pub record Range : Type 0 where
  pub from : ℕ
  pub to : ℕ

-- "b < 0, a ≥ len or len = 0: pixel 0, 0. Otherwise a = max(a,0), b = .."
abbrev pub range_of : Whole → Whole → ℕ → Option Range
range_of a b len = cond (below0 b || reaches a len || eqb len 0) None (Some (record { from = natural a; to = end_of b (natural a) len }))

-- "Pixel px, from 0, has a = .. and b the same with px + 1"
abbrev pub pixel_range : View → ℕ → ℕ → Option Range
pixel_range v len px = range_of (pixel_edge v px) (pixel_edge v (px + 1)) len

-- "the pixel is first and toggles of [a,b)"; where there is no range, 0 and 0
abbrev pub shown : (ℕ → ℕ → Node) → Option Range → List ℕ → List ℕ
shown node None rest = 0 ∷ 0 ∷ rest
shown node (Some r) rest = (node r.from r.to).first ∷ (node r.from r.to).toggles ∷ rest

-- n pixels from px on, over any summary of ranges and any ranges of pixels
unfoldable pub row_by : (ℕ → ℕ → Node) → (ℕ → Option Range) → ℕ → ℕ → List ℕ
row_by node range px zero = []
row_by node range px (suc n) = shown node (range px) (row_by node range (px + 1) n)

-- what render draws: two numbers a pixel
abbrev pub render : (ℕ → ℕ) → ℕ → View → ℕ → List ℕ
render s len v width = row_by (node_of s) (pixel_range v len) 0 width

-- "Cutting down takes first .. and toggles AND that mask", of every pixel
abbrev pub cut_pixels : ℕ → List ℕ → List ℕ
cut_pixels v row = map (cut_to v) row

-- ---- a view that counts from another place than the first
-- a whole number with d added
abbrev pub moved : ℤ → Whole → Whole
moved d Floor.none = Floor.none
moved d under = under
moved d over = over
moved d (at z) = at (z +ℤ d)

-- CR 1: "In render, −mark and len − mark stand for 0 and len": the places of the run that pixel px covers, where the view counts from origin
abbrev pub range_from : ℕ → View → ℕ → ℕ → Option Range
range_from origin v len px = range_of (moved (pos origin) (pixel_edge v px)) (moved (pos origin) (pixel_edge v (px + 1))) len
