-- The borders of a mill's rows and places, computed. 0 is no refusal. 02: CR 1. Assumes nothing.
use mathlib.Core.Path.{◌≡◌, refl}
use Rattle.std.specs.Prelude.{None, Some}
use Prim.Native.Nat.{ℕ}
use lib.IntN.{ℤ, pos, negsuc}
use Rattle.rules.specs.Refusal.{Store, level_short}
use Rattle.rules.specs.Mill.{origin_of, mill_place, place_at, shown_place, shown_burst, mill_search_refusal, mill_get_refusal, mill_samples_refusal, mill_summary_refusal}
use Rattle.rules.proofs.BorderRows.{store, plenty, no_memory}

-- five samples, without a mark, and with the mark at the fourth; and none
abbrev plain : Store
plain = store 1 8 5 None

abbrev marked : Store
marked = store 1 8 5 (Some 3)

abbrev empty : Store
empty = store 1 8 0 None

-- unit 3, and len above capacity
abbrev wrong : Store
wrong = store 3 8 9 None

-- ---- 12: "a search or burst mask beyond the grant"
abbrev search : ℕ → ℕ → ℕ
search grant mask = mill_search_refusal marked plenty grant mask (pos 0)

pub row_12 :
    (search 5 5 ≡ 0)
    × (search 5 4 ≡ 0)
    × (search 5 0 ≡ 0)
    × (search 5 2 ≡ 12)
    × (search 5 7 ≡ 12)
    × (search 0 0 ≡ 0)
    × (search 0 1 ≡ 12)
    × (search 65535 65535 ≡ 0)
    × (search 32767 32768 ≡ 12)
unfolding level_short
row_12 = (refl, refl, refl, refl, refl, refl, refl, refl, refl)

-- ---- 13: "a place before the first sample"; 9 and 11 are about the run's place
abbrev search_at : Store → ℤ → ℕ
search_at st p = mill_search_refusal st plenty 1 1 p

abbrev get_at : Store → ℤ → ℕ
get_at st p = mill_get_refusal st plenty p

abbrev copy : ℤ → ℕ → ℕ → ℕ
copy p n output = mill_samples_refusal marked plenty p n output

abbrev sums : ℤ → ℤ → ℕ
sums a b = mill_summary_refusal marked plenty a b

pub row_13 :
    (search_at plain (pos 0) ≡ 0)
    × (search_at plain (negsuc 0) ≡ 13)
    × (search_at marked (negsuc 2) ≡ 0)
    × (search_at marked (negsuc 3) ≡ 13)
    × (search_at marked (pos 9) ≡ 0)
    × (get_at plain (negsuc 0) ≡ 13)
    × (get_at plain (pos 0) ≡ 0)
    × (get_at plain (pos 4) ≡ 0)
    × (get_at plain (pos 5) ≡ 9)
    × (get_at marked (negsuc 3) ≡ 13)
    × (get_at marked (negsuc 2) ≡ 0)
    × (get_at marked (pos 1) ≡ 0)
    × (get_at marked (pos 2) ≡ 9)
    × (copy (negsuc 3) 0 0 ≡ 13)
    × (copy (negsuc 2) 9 5 ≡ 0)
    × (copy (negsuc 2) 9 4 ≡ 11)
    × (copy (negsuc 2) 2 2 ≡ 0)
    × (copy (negsuc 2) 2 1 ≡ 11)
    × (copy (pos 1) 9 1 ≡ 0)
    × (copy (pos 1) 9 0 ≡ 11)
    × (copy (pos 2) 9 0 ≡ 0)
    × (sums (negsuc 2) (negsuc 2) ≡ 0)
    × (sums (negsuc 3) (pos 0) ≡ 13)
    × (sums (pos 0) (negsuc 3) ≡ 13)
    × (mill_summary_refusal plain plenty (pos 0) (negsuc 0) ≡ 13)
unfolding level_short
row_13 = (refl, refl, refl, refl, refl, refl, refl, refl, refl, refl, refl, refl, refl, refl, refl, refl, refl, refl, refl, refl, refl, refl, refl, refl, refl)

-- ---- "It refuses with 12 .. and then with 13 .., both after 2 and ahead of 9": every row refuses, then every one but the first, and so on
pub in_order :
    (mill_search_refusal wrong no_memory 1 2 (negsuc 9) ≡ 1)
    × (mill_search_refusal marked no_memory 1 2 (negsuc 9) ≡ 2)
    × (mill_search_refusal marked plenty 1 2 (negsuc 9) ≡ 12)
    × (mill_search_refusal marked plenty 1 1 (negsuc 9) ≡ 13)
    × (mill_get_refusal wrong no_memory (negsuc 9) ≡ 1)
    × (mill_get_refusal empty no_memory (negsuc 9) ≡ 2)
    × (mill_get_refusal empty plenty (negsuc 9) ≡ 13)
    × (mill_get_refusal empty plenty (pos 0) ≡ 9)
    × (mill_samples_refusal wrong no_memory (negsuc 9) 9 0 ≡ 1)
    × (mill_samples_refusal marked no_memory (negsuc 9) 9 0 ≡ 2)
    × (mill_samples_refusal marked plenty (negsuc 9) 9 0 ≡ 13)
    × (mill_samples_refusal marked plenty (negsuc 2) 9 0 ≡ 11)
    × (mill_summary_refusal wrong no_memory (negsuc 9) (negsuc 9) ≡ 1)
    × (mill_summary_refusal marked no_memory (negsuc 9) (negsuc 9) ≡ 2)
    × (mill_summary_refusal marked plenty (negsuc 9) (negsuc 9) ≡ 13)
unfolding level_short
in_order = (refl, refl, refl, refl, refl, refl, refl, refl, refl, refl, refl, refl, refl, refl, refl)

-- ---- "places count from the mark, negative before it (from the first sample if there is no mark)"
pub places :
    (origin_of None ≡ 0)
    × (origin_of (Some 3) ≡ 3)
    × (mill_place 3 0 ≡ negsuc 2)
    × (mill_place 3 2 ≡ negsuc 0)
    × (mill_place 3 3 ≡ pos 0)
    × (mill_place 3 4 ≡ pos 1)
    × (mill_place 0 4 ≡ pos 4)
    × (place_at 3 (negsuc 2) ≡ 0)
    × (place_at 3 (negsuc 0) ≡ 2)
    × (place_at 3 (pos 0) ≡ 3)
    × (place_at 3 (pos 1) ≡ 4)
    × (shown_place 3 None ≡ None)
    × (shown_place 3 (Some 2) ≡ Some (negsuc 0))
    × (shown_place 3 (Some 3) ≡ Some (pos 0))
    × (shown_burst 3 None ≡ None)
    × (shown_burst 3 (Some (record { first = 2; last = 4; jumps_end = 7; jumps_start = 8 })) ≡ Some (record { first = negsuc 0; last = pos 1; jumps_end = 7; jumps_start = 8 }))
places = (refl, refl, refl, refl, refl, refl, refl, refl, refl, refl, refl, refl, refl, refl, refl, refl)
