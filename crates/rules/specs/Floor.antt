-- Whole numbers of a binary64 value: its floor, and the nearest with halves away from zero. 01: Burst and render; Selection and recorder.
use Rattle.std.specs.Prelude.{ℕ, ◌+◌, ◌-◌, ◌*◌, ◌/◌, Bool, true, false, ℤ, pos, negsuc, neg_ℤ, Float}
use Rattle.std.specs.Float.{nan, inf, fin}
use Rattle.std.specs.Float.Ieee.{up, down}

-- a whole number, below or above all of them, or none (NaN)
pub data Whole : Type 0 where
  none : Whole
  under over : Whole
  at : ℤ → Whole

-- ⌊m·2^e⌋, and of a negative value −⌈m·2^e⌉
abbrev pub floor_fin : Bool → ℕ → ℤ → ℤ
floor_fin false m e = pos (m * up e / down e)
floor_fin true m e = neg_ℤ (pos ((m * up e + (down e - 1)) / down e))

-- "and then the floor is taken", exactly
unfoldable pub floor_of : Float → Whole
floor_of nan = none
floor_of (inf true) = under
floor_of (inf false) = over
floor_of (fin s m e) = at (floor_fin s m e)

-- ⌊m·2^e + 1/2⌋ of the size
abbrev pub nearest_fin : Bool → ℕ → ℤ → ℤ
nearest_fin false m e = pos ((2 * (m * up e) + down e) / (2 * down e))
nearest_fin true m e = neg_ℤ (pos ((2 * (m * up e) + down e) / (2 * down e)))

-- "rounded with halves away from zero"
unfoldable pub nearest_of : Float → Whole
nearest_of nan = none
nearest_of (inf true) = under
nearest_of (inf false) = over
nearest_of (fin s m e) = at (nearest_fin s m e)

-- the whole number of a w that is one and not negative
abbrev pub natural : Whole → ℕ
natural none = 0
natural under = 0
natural over = 0
natural (at (pos n)) = n
natural (at (negsuc n)) = 0
