-- Numbers on which a plausible wrong reading of the float rules differs: a product or a sum left unrounded or fused, a floor toward zero, a rounding by floor(x + 0.5).
-- Computed, as one conjunction. A binary64 is given by its bits. Assumes nothing.
use mathlib.Core.Path.{◌≡◌, refl}
use mathlib.Core.Bool.{false}
use Prim.Native.Nat.{ℕ}
use lib.IntN.{pos, negsuc}
use lib.Ieee.{binary64, of_bits, add, mul, of_int, lt}
use Rattle.rules.specs.Floor.{Whole, over, at, floor_of, nearest_of}
use Rattle.rules.specs.Pixel.{pixel_edge}
use Rattle.rules.specs.Pretrigger.{Pre, seconds, most_fraction, times, fraction_of, pre_for}

-- Fraction of limit 100
abbrev of100 : ℕ → ℕ
of100 p = fraction_of 100 (of_bits binary64 p)

-- Seconds at a rate, unit 1
abbrev kept : ℕ → ℕ → Pre
kept t rate = pre_for (seconds (of_bits binary64 t)) 0 rate 1

abbrev edge_at : ℕ → ℕ → ℕ → Whole
edge_at start spp px = pixel_edge (record { start = of_bits binary64 start; spp = of_bits binary64 spp }) px

-- Fraction 0.29, 0.57, 0.58, 0.99, 1 and +∞; Seconds 0.49999999999999994 and 0.5; the edges of (0.3, 0.7), (0.1, 0.3), (−1, 1/3) and
-- (0, the largest binary64); −5e-324
pub computed :
    (of100 0x3fd2_8f5c_28f5_c28f ≡ 28)
    × (of100 0x3fe2_3d70_a3d7_0a3d ≡ 56)
    × (of100 0x3fe2_8f5c_28f5_c28f ≡ 57)
    × (of100 0x3fef_ae14_7ae1_47ae ≡ 99)
    × (of100 0x3ff0_0000_0000_0000 ≡ 99)
    × (of100 0x7ff0_0000_0000_0000 ≡ 99)
    × (kept 0x3fdf_ffff_ffff_ffff 1 ≡ record { samples = 0; was_cut = false })
    × (kept 0x3fe0_0000_0000_0000 3 ≡ record { samples = 2; was_cut = false })
    × (edge_at 0x3fd3_3333_3333_3333 0x3fe6_6666_6666_6666 1 ≡ at (pos 1))
    × (edge_at 0x3fb9_9999_9999_999a 0x3fd3_3333_3333_3333 3 ≡ at (pos 0))
    × (edge_at 0xbff0_0000_0000_0000 0x3fd5_5555_5555_5555 3 ≡ at (pos 0))
    × (edge_at 0x0 0x7fef_ffff_ffff_ffff 2 ≡ over)
    × (floor_of (of_bits binary64 0x8000_0000_0000_0001) ≡ at (negsuc 0))
unfolding floor_of nearest_of pixel_edge most_fraction times of_bits add mul of_int lt
computed = (refl, refl, refl, refl, refl, refl, refl, refl, refl, refl, refl, refl, refl)
