-- The borders of pixels, computed: floors, the places of a pixel, and a row. Sums and products that round are in Floats. 01: Burst and render; 02: CR 1. Assumes nothing.
use mathlib.Core.Path.{◌≡◌, refl}
use mathlib.Core.Bool.{true, false}
use mathlib.Core.List.{[], ◌∷◌}
use Rattle.std.specs.Prelude.{Option, None, Some}
use Prim.Native.Nat.{ℕ, ◌+◌, ◌*◌}
use lib.IntN.{pos, negsuc}
use lib.Ieee.{Float, nan, inf, fin, add, mul, of_int}
use Rattle.rules.specs.Sample.{sample_of}
use Rattle.rules.specs.Node.{toggles_of, count_of, node_of}
use Rattle.rules.specs.Floor.{Whole, under, over, at, floor_of, nearest_of, natural}
use Rattle.rules.specs.Floor
use Rattle.rules.specs.Pixel.{View, pixel_edge, end_of, Range, range_of, pixel_range, row_by, render, cut_pixels, range_from}
use Rattle.rules.proofs.BorderRows.{largest}

-- ---- whole numbers: n, −n, and halves and quarters of them
abbrev whole : ℕ → Float
whole n = fin false n (pos 0)

abbrev minus : ℕ → Float
minus n = fin true n (pos 0)

-- the negative binary64 nearest to 0, −5e-324
abbrev least : Float
least = fin true 1 (negsuc 1073)

pub wholes :
    -- "the floor is taken": 2, 2.5, 2^60, −2, −2.5, −0.5, −0.0, −5e-324
    (floor_of (fin false 1 (pos 1)) ≡ at (pos 2))
    × (floor_of (fin false 5 (negsuc 0)) ≡ at (pos 2))
    × (floor_of (fin false 1 (pos 60)) ≡ at (pos 1152921504606846976))
    × (floor_of (fin true 1 (pos 1)) ≡ at (negsuc 1))
    × (floor_of (fin true 5 (negsuc 0)) ≡ at (negsuc 2))
    × (floor_of (fin true 1 (negsuc 0)) ≡ at (negsuc 0))
    × (floor_of (fin true 0 (pos 0)) ≡ at (pos 0))
    × (floor_of least ≡ at (negsuc 0))
    × (floor_of (inf false) ≡ over)
    × (floor_of (inf true) ≡ under)
    × (floor_of nan ≡ Floor.none)
    -- "rounded with halves away from zero": 2.25, 2.5, 2.75, 2^60, −2.25, −2.5
    × (nearest_of (fin false 9 (negsuc 1)) ≡ at (pos 2))
    × (nearest_of (fin false 5 (negsuc 0)) ≡ at (pos 3))
    × (nearest_of (fin false 11 (negsuc 1)) ≡ at (pos 3))
    × (nearest_of (fin false 1 (pos 60)) ≡ at (pos 1152921504606846976))
    × (nearest_of (fin true 9 (negsuc 1)) ≡ at (negsuc 1))
    × (nearest_of (fin true 5 (negsuc 0)) ≡ at (negsuc 2))
    × (nearest_of (inf false) ≡ over)
    × (nearest_of (inf true) ≡ under)
    × (nearest_of nan ≡ Floor.none)
unfolding floor_of nearest_of
wholes = (refl, refl, refl, refl, refl, refl, refl, refl, refl, refl, refl, refl, refl, refl, refl, refl, refl, refl, refl, refl)

-- ---- "b < 0, a ≥ len or len = 0: pixel 0, 0. Otherwise a = max(a,0), b = min(max(b, a+1) + 1, len)"
abbrev view : Float → Float → View
view start spp = record { start = start; spp = spp }

abbrev from : ℕ → ℕ → Option Range
from a b = Some (record { from = a; to = b })

-- pixel px of 8 samples
abbrev pixel : Float → Float → ℕ → Option Range
pixel start spp px = pixel_range (view start spp) 8 px

pub drawn_or_blank :
    -- −0.0, and just below 0: a and b, a alone, b alone
    (pixel (minus 0) (whole 0) 0 ≡ from 0 2)
    × (pixel (minus 0) (minus 0) 0 ≡ from 0 2)
    × (pixel least (whole 0) 0 ≡ None)
    × (pixel least (whole 1) 0 ≡ from 0 2)
    × (pixel (whole 0) least 0 ≡ None)
    -- b at 0, at −0.5 and at −1
    × (pixel (minus 1) (whole 1) 0 ≡ from 0 2)
    × (pixel (minus 1) (fin false 1 (negsuc 0)) 0 ≡ None)
    × (pixel (minus 2) (whole 1) 0 ≡ None)
    -- a at len − 1, just below len and at len
    × (pixel (whole 7) (whole 1) 0 ≡ from 7 8)
    × (pixel (fin false 31 (negsuc 1)) (whole 1) 0 ≡ from 7 8)
    × (pixel (whole 8) (whole 1) 0 ≡ None)
    -- len = 0
    × (pixel_range (view (minus 1) (whole 2)) 0 0 ≡ None)
    × (pixel_range (view (whole 0) (whole 1)) 1 0 ≡ from 0 1)
unfolding floor_of pixel_edge add mul of_int
drawn_or_blank = (refl, refl, refl, refl, refl, refl, refl, refl, refl, refl, refl, refl, refl)

pub ends :
    -- the end below len, at len and cut to len
    (pixel (whole 0) (whole 6) 0 ≡ from 0 7)
    × (pixel (whole 0) (whole 7) 0 ≡ from 0 8)
    × (pixel (whole 0) (whole 8) 0 ≡ from 0 8)
    × (pixel (whole 6) (whole 1) 0 ≡ from 6 8)
    -- b at a, at a + 1 and at a + 2; b < a
    × (pixel (whole 3) (whole 0) 5 ≡ from 3 5)
    × (pixel (whole 3) (whole 1) 0 ≡ from 3 5)
    × (pixel (whole 3) (whole 2) 0 ≡ from 3 6)
    × (pixel (whole 5) (minus 2) 0 ≡ from 5 7)
    × (pixel (whole 5) (minus 2) 1 ≡ from 3 5)
    × (pixel (whole 5) (minus 2) 2 ≡ None)
    -- an edge far beyond len and at +∞; far below 0 and at −∞
    × (pixel (whole 0) (fin false 1 (pos 64)) 0 ≡ from 0 8)
    × (pixel (fin true 9007199254740991 (pos 971)) largest 0 ≡ from 0 2)
    × (pixel (fin true 9007199254740991 (pos 971)) largest 1 ≡ from 0 8)
    × (pixel (whole 0) largest 2 ≡ None)
    × (pixel (whole 0) (fin true 9007199254740991 (pos 971)) 1 ≡ None)
    × (range_of under over 8 ≡ from 0 8)
    × (range_of under (at (pos 3)) 8 ≡ from 0 4)
    × (end_of under 3 8 ≡ 5)
    × (end_of under 7 8 ≡ 8)
    × (end_of (at (negsuc 0)) 3 8 ≡ 5)
    × (end_of (at (negsuc 0)) 7 8 ≡ 8)
unfolding floor_of pixel_edge add mul of_int
ends = (refl, refl, refl, refl, refl, refl, refl, refl, refl, refl, refl, refl, refl, refl, refl, refl, refl, refl, refl, refl, refl)

-- ---- CR 1: "In render, −mark and len − mark stand for 0 and len": 8 samples, the mark at 3. The floor is taken first, and then moved
abbrev moved : Float → Float → ℕ → Option Range
moved start spp px = range_from 3 (view start spp) 8 px

pub from_mark :
    (moved (minus 3) (whole 1) 0 ≡ from 0 2)
    × (moved (minus 4) (whole 1) 0 ≡ from 0 2)
    × (moved (minus 5) (whole 1) 0 ≡ None)
    × (moved (whole 0) (whole 1) 0 ≡ from 3 5)
    × (moved (whole 0) (whole 1) 1 ≡ from 4 6)
    × (moved (whole 4) (whole 1) 0 ≡ from 7 8)
    × (moved (whole 5) (whole 1) 0 ≡ None)
    × (moved (minus 3) (whole 7) 0 ≡ from 0 8)
    × (moved least (whole 0) 0 ≡ from 2 4)
    × (moved (fin true 9007199254740991 (pos 971)) largest 1 ≡ from 3 8)
    × (moved (whole 0) largest 2 ≡ None)
    × (moved (whole 0) (fin true 9007199254740991 (pos 971)) 1 ≡ None)
    × (range_from 0 (view (whole 5) (minus 2)) 8 1 ≡ from 3 5)
unfolding floor_of pixel_edge add mul of_int
from_mark = (refl, refl, refl, refl, refl, refl, refl, refl, refl, refl, refl, refl, refl)

-- ---- "the pixel is first and toggles of [a,b)"
abbrev s : ℕ → ℕ
s = sample_of 1 (5 ∷ 7 ∷ 6 ∷ [])

pub drawn :
    (render s 3 (view (minus 1) (whole 1)) 5 ≡ 5 ∷ 2 ∷ 5 ∷ 2 ∷ 7 ∷ 1 ∷ 6 ∷ 0 ∷ 0 ∷ 0 ∷ [])
    × (render s 3 (view (minus 2) (whole 1)) 2 ≡ 0 ∷ 0 ∷ 5 ∷ 2 ∷ [])
    × (render s 3 (view (whole 0) (whole 3)) 1 ≡ 5 ∷ 3 ∷ [])
    × (render s 3 (view (whole 0) (whole 1)) 0 ≡ [])
    × (row_by (λ a b. record { first = b; last = 7; toggles = a * 10 + b; count = 3 }) (λ px. from (px + 2) 5) 1 2 ≡ 5 ∷ 35 ∷ 5 ∷ 45 ∷ [])
    × (cut_pixels 5 (6 ∷ 3 ∷ []) ≡ 4 ∷ 1 ∷ [])
unfolding sample_of toggles_of count_of node_of floor_of pixel_edge row_by add mul of_int
drawn = (refl, refl, refl, refl, refl, refl)
