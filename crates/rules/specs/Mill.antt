-- A mill's reader: a grant, a mask of lines, and places that count from the mark. 02: CR 1.
use Rattle.std.specs.Prelude.{Bool, not, false, List, [], ◌∷◌, ℕ, suc, ◌+◌, ◌-◌, ltb, eqb, ℤ, pos, negsuc}
use Rattle.std.specs.Prelude.{Option, None, Some}
use Rattle.std.specs.Int.Bits.{bit_and}
use Rattle.std.proofs.Math.IntN.{sub_ℕ}
use Rattle.rules.specs.Burst.{Burst}
use Rattle.rules.specs.Refusal.{Store, Lent, Row, first_of, store_rows, get_row, copy_row, top_line}
use Rattle.rules.specs.Encoder.{pair_mask, pair_row}

-- ---- places
-- "places count from the mark, negative before it (from the first sample if there is no mark)": the place that counts as 0
abbrev pub origin_of : Option ℕ → ℕ
origin_of None = 0
origin_of (Some mark) = mark

-- the place i of the run, as a mill counts it
abbrev pub mill_place : ℕ → ℕ → ℤ
mill_place origin i = sub_ℕ i origin

-- the place of the run that a mill's place p is
abbrev pub place_at : ℕ → ℤ → ℕ
place_at origin (pos n) = origin + n
place_at origin (negsuc n) = origin - suc n

-- a place that is found, as a mill counts it
abbrev pub shown_place : ℕ → Option ℕ → Option ℤ
shown_place origin None = None
shown_place origin (Some i) = Some (mill_place origin i)

-- a burst, as a mill counts its places
pub record MillBurst : Type 0 where
  pub first : ℤ
  pub last : ℤ
  pub jumps_end : ℕ
  pub jumps_start : ℕ

abbrev pub shown_burst : ℕ → Option Burst → Option MillBurst
shown_burst origin None = None
shown_burst origin (Some b) = Some (record { first = mill_place origin b.first; last = mill_place origin b.last; jumps_end = b.jumps_end; jumps_start = b.jumps_start })

-- ---- 12: "a search or burst mask beyond the grant"
abbrev pub beyond : ℕ → ℕ → Bool
beyond grant mask = not (eqb (bit_and mask grant) mask)

abbrev pub beyond_row : Bool → Row
beyond_row b = record { number = 12; holds = b }

-- ---- 13: "a place before the first sample"
abbrev pub before_first : ℕ → ℤ → Bool
before_first origin (pos n) = false
before_first origin (negsuc n) = ltb origin (suc n)

abbrev pub before_row : Option ℕ → ℤ → Row
before_row mark p = record { number = 13; holds = before_first (origin_of mark) p }

-- ---- "It refuses with 12 .. and then with 13 .., both after 2 and ahead of 9"; extent and render refuse as to service readers
-- next, previous and burst
abbrev pub mill_search_rows : ℕ → ℕ → Option ℕ → ℤ → List Row
mill_search_rows grant mask mark p = beyond_row (beyond grant mask) ∷ before_row mark p ∷ []

abbrev pub mill_search_refusal : Store → Lent → ℕ → ℕ → ℤ → ℕ
mill_search_refusal st lent grant mask p = first_of (store_rows st lent (mill_search_rows grant mask st.mark p))

abbrev pub mill_get_rows : Option ℕ → ℕ → ℤ → List Row
mill_get_rows mark len p = before_row mark p ∷ get_row len (place_at (origin_of mark) p) ∷ []

abbrev pub mill_get_refusal : Store → Lent → ℤ → ℕ
mill_get_refusal st lent p = first_of (store_rows st lent (mill_get_rows st.mark st.len p))

abbrev pub mill_samples_rows : Option ℕ → ℕ → ℤ → ℕ → ℕ → List Row
mill_samples_rows mark len p n output = before_row mark p ∷ copy_row len (place_at (origin_of mark) p) n output ∷ []

abbrev pub mill_samples_refusal : Store → Lent → ℤ → ℕ → ℕ → ℕ
mill_samples_refusal st lent p n output = first_of (store_rows st lent (mill_samples_rows st.mark st.len p n output))

abbrev pub mill_summary_rows : Option ℕ → ℤ → ℤ → List Row
mill_summary_rows mark a b = before_row mark a ∷ before_row mark b ∷ []

abbrev pub mill_summary_refusal : Store → Lent → ℤ → ℤ → ℕ
mill_summary_refusal st lent a b = first_of (store_rows st lent (mill_summary_rows st.mark a b))

-- 02, CR 6: "It refuses with 14 ..; to a mill, a line beyond its grant is then 12."
abbrev pub mill_encoder_rows : ℕ → ℕ → ℕ → List Row
mill_encoder_rows grant a b = pair_row top_line a b ∷ beyond_row (beyond grant (pair_mask a b)) ∷ []

abbrev pub mill_encoder_refusal : Store → Lent → ℕ → ℕ → ℕ → ℕ
mill_encoder_refusal st lent grant a b = first_of (store_rows st lent (mill_encoder_rows grant a b))
