-- Searches across unknown stretches, and row 18, at their borders, computed. 02: CR 9. Assumes nothing.
use mathlib.Core.Path.{◌≡◌, refl}
use mathlib.Core.Bool.{Bool, true, false}
use mathlib.Core.List.{[], ◌∷◌}
use Rattle.std.specs.Prelude.{Option, None, Some}
use Prim.Native.Nat.{ℕ}
use lib.ListN.{get_or}
use Rattle.rules.specs.Search.{seek}
use Rattle.rules.specs.Refusal.{Store, level_short}
use Rattle.rules.specs.Stretches.{covers, apart, pairs_in, stretch_at}
use Rattle.rules.specs.Unknown.{has_line, Sureness, certain, possible, unknown_search, list_wrong, unknown_refusal}
use Rattle.rules.proofs.BorderShelf.{enough}
use Rattle.rules.proofs.BorderSalvage.{stretch}

-- 0 1 0 0 0 1 1 0 on line 0, as salvaging stores it where the places 2 and 3 are unknown
abbrev run : ℕ → ℕ
run i = get_or (0 ∷ 1 ∷ 0 ∷ 0 ∷ 0 ∷ 1 ∷ 1 ∷ 0 ∷ []) i 0

abbrev asked : Sureness → Bool → ℕ → Option ℕ
asked sure back from = unknown_search sure back 1 run 8 (stretch 2 2 ∷ []) 1 from

-- no stored zero is taken for a sample, in the stretch or at the place right after it
pub certains : (asked certain false 0 ≡ Some 1)
    × (asked certain false 1 ≡ Some 5)
    × (asked certain false 7 ≡ None)
    × (asked certain true 100 ≡ Some 7)
    × (asked certain true 4 ≡ Some 1)
    × (asked certain true 0 ≡ None)
unfolding seek covers
certains = (refl, refl, refl, refl, refl, refl)

-- its first place is a possible change, and the place right after it; the next one is not
pub possibles : (asked possible false 0 ≡ Some 1)
    × (asked possible false 1 ≡ Some 2)
    × (asked possible false 3 ≡ Some 4)
    × (asked possible false 4 ≡ Some 5)
    × (asked possible true 4 ≡ Some 4)
    × (asked possible true 2 ≡ Some 2)
    × (asked possible true 1 ≡ Some 1)
unfolding seek covers
possibles = (refl, refl, refl, refl, refl, refl, refl)

-- place 0 is no change, and a stretch up to the end has its last place
pub ends : (unknown_search possible true 1 run 8 (stretch 0 2 ∷ []) 2 0 ≡ None)
    × (unknown_search possible false 1 run 8 (stretch 0 2 ∷ []) 2 0 ≡ Some 1)
    × (unknown_search possible false 1 run 8 (stretch 6 2 ∷ []) 2 6 ≡ Some 7)
    × (unknown_search possible false 1 run 8 (stretch 6 2 ∷ []) 2 7 ≡ None)
unfolding seek covers
ends = (refl, refl, refl, refl)

-- "any value that the unit holds": the highest line of a unit, and the first that it lacks
pub lines : (has_line 1 128 ≡ true) × (has_line 1 256 ≡ false) × (has_line 1 384 ≡ true) × (has_line 2 32768 ≡ true) × (has_line 2 0 ≡ false)
lines = (refl, refl, refl, refl, refl)

pub lacked : (unknown_search possible false 1 run 8 (stretch 2 2 ∷ []) 256 0 ≡ None) × (unknown_search possible false 2 run 8 (stretch 2 2 ∷ []) 256 0 ≡ Some 2)
unfolding seek covers
lacked = (refl, refl)

-- ---- row 18
-- up to len and one past it; one place between two, and none; out of order; of no samples; an odd count; none at all
pub lists : (list_wrong 5 (0 ∷ 2 ∷ 3 ∷ 2 ∷ []) ≡ false)
    × (list_wrong 5 (0 ∷ 2 ∷ 3 ∷ 3 ∷ []) ≡ true)
    × (list_wrong 5 (0 ∷ 2 ∷ 2 ∷ 1 ∷ []) ≡ true)
    × (list_wrong 5 (3 ∷ 1 ∷ 0 ∷ 2 ∷ []) ≡ true)
    × (list_wrong 5 (1 ∷ 0 ∷ []) ≡ true)
    × (list_wrong 5 (1 ∷ 1 ∷ 3 ∷ []) ≡ true)
    × (list_wrong 0 [] ≡ false)
unfolding apart pairs_in
lists = (refl, refl, refl, refl, refl, refl, refl)

pub second_of : stretch_at (1 ∷ 2 ∷ 4 ∷ 1 ∷ []) 1 ≡ stretch 4 1
second_of = refl

-- after 1 and 2
abbrev one : ℕ → Store
one len = record { unit = 1; capacity = 1; len = len; mark = None }

pub rows : (unknown_refusal (one 2) (enough 0) (0 ∷ []) ≡ 1)
    × (unknown_refusal (one 1) (enough 0) (0 ∷ []) ≡ 2)
    × (unknown_refusal (one 1) (enough 1) (0 ∷ []) ≡ 18)
    × (unknown_refusal (one 1) (enough 1) (0 ∷ 1 ∷ []) ≡ 0)
unfolding level_short apart pairs_in
rows = (refl, refl, refl, refl)
