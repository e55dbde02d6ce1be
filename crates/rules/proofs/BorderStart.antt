-- The borders of a recorder's start, computed: its rows, the order of these, and the samples kept before the trigger. 0 is no refusal.
-- 01: Where each number is checked; Selection and recorder. Assumes nothing.
use mathlib.Core.Path.{◌≡◌, refl}
use mathlib.Core.Bool.{Bool, false, true}
use mathlib.Core.List.{List, [], ◌∷◌}
use Rattle.std.specs.Prelude.{None}
use Prim.Native.Nat.{ℕ}
use lib.IntN.{pos, negsuc}
use lib.Ieee.{Float, nan, inf, fin, binary64, round, of_bits, mul, of_int, lt, is_nan}
use Rattle.rules.specs.Floor.{floor_of, nearest_of}
use Rattle.rules.specs.Pretrigger.{Pretrigger, fraction, seconds, nought, one, most_fraction, times, Pre, pre_for}
use Rattle.rules.specs.Trigger.{Term, high}
use Rattle.rules.specs.Selection.{Settings, pre_of}
use Rattle.rules.specs.Refusal.{Lent, fresh, level_short, line_wrong, start_refusal}
use Rattle.rules.proofs.BorderRows.{store, lent, plenty, no_memory}

abbrev half : Float
half = fin false 1 (negsuc 0)

abbrev on : ℕ → Term
on line = record { line = line; condition = high }

abbrev settings : ℕ → ℕ → ℕ → List Term → Pretrigger → ℕ → Settings
settings channels capacity limit terms wish rate = record { channels = channels; capacity = capacity; limit = limit; terms = terms; wish = wish; rate = rate }

-- ---- 1 and 2, of the store that is started: "More than 8 channels means unit 2, else 1"
abbrev start_store : ℕ → ℕ → Lent → ℕ
start_store channels capacity memory = start_refusal (settings channels capacity 0 [] (seconds nought) 0) memory 0

pub row_1_2 :
    (fresh 8 33 ≡ store 1 33 0 None)
    × (fresh 9 34 ≡ store 2 34 0 None)
    × (start_store 8 0 plenty ≡ 1)
    × (start_store 8 1 plenty ≡ 0)
    × (start_store 9 67108864 plenty ≡ 0)
    × (start_store 8 67108865 plenty ≡ 1)
    × (start_store 8 33 (lent 33 10 5 5 5) ≡ 0)
    × (start_store 8 33 (lent 32 10 5 5 5) ≡ 2)
    × (start_store 8 33 (lent 33 9 5 5 5) ≡ 2)
    × (start_store 8 33 (lent 33 10 4 5 5) ≡ 2)
    × (start_store 8 33 (lent 33 10 5 4 5) ≡ 2)
    × (start_store 8 33 (lent 33 10 5 5 4) ≡ 2)
    × (start_store 9 33 (lent 66 10 5 5 5) ≡ 0)
    × (start_store 9 33 (lent 65 10 5 5 5) ≡ 2)
unfolding nearest_of times mul of_int lt is_nan level_short line_wrong
row_1_2 = (refl, refl, refl, refl, refl, refl, refl, refl, refl, refl, refl, refl, refl, refl)

-- ---- 3 to 7: 4 channels, 8 samples of capacity, and a ring of 8 bytes
abbrev start : ℕ → List Term → Pretrigger → ℕ → ℕ
start limit terms wish rate = start_refusal (settings 4 8 limit terms wish rate) plenty 8

pub row_3_6 :
    -- 3: "a term's line above 15"
    (start 0 (on 15 ∷ []) (seconds nought) 0 ≡ 0)
    × (start 0 (on 16 ∷ []) (seconds nought) 0 ≡ 3)
    × (start 0 (on 0 ∷ on 15 ∷ []) (seconds nought) 0 ≡ 0)
    × (start 0 (on 0 ∷ on 16 ∷ []) (seconds nought) 0 ≡ 3)
    × (start 0 (on 16 ∷ on 0 ∷ []) (seconds nought) 0 ≡ 3)
    -- 4: "limit > capacity"
    × (start 8 [] (fraction half) 0 ≡ 0)
    × (start 9 [] (fraction half) 0 ≡ 4)
    -- 5: "Fraction with limit 0, Seconds with limit above 0"
    × (start 1 [] (fraction half) 0 ≡ 0)
    × (start 0 [] (fraction half) 0 ≡ 5)
    × (start 0 [] (seconds half) 0 ≡ 0)
    × (start 1 [] (seconds half) 0 ≡ 5)
    -- 6: "p or t not a number, or Seconds with rate > 1,000,000,000"
    × (start 8 [] (fraction nan) 0 ≡ 6)
    × (start 0 [] (seconds nan) 0 ≡ 6)
    × (start 0 [] (seconds nought) 1000000000 ≡ 0)
    × (start 0 [] (seconds nought) 1000000001 ≡ 6)
    × (start 8 [] (fraction half) 1000000001 ≡ 0)
    × (start 8 [] (fraction (inf false)) 0 ≡ 0)
    × (start 8 [] (fraction (inf true)) 0 ≡ 0)
    × (start 0 [] (seconds (inf false)) 7 ≡ 0)
    × (start 0 [] (seconds (inf true)) 7 ≡ 0)
unfolding floor_of nearest_of most_fraction times mul of_int lt is_nan level_short line_wrong
row_3_6 = (refl, refl, refl, refl, refl, refl, refl, refl, refl, refl, refl, refl, refl, refl, refl, refl, refl, refl, refl, refl)

-- 7: "pre ≥ capacity, or ring too short", with terms and without
abbrev start_ring : ℕ → ℕ → List Term → Pretrigger → ℕ → ℕ → ℕ
start_ring channels limit terms wish rate ring = start_refusal (settings channels 8 limit terms wish rate) plenty ring

pub row_7 :
    (start_ring 8 0 [] (seconds one) 7 1000 ≡ 0)
    × (start_ring 8 0 [] (seconds one) 8 1000 ≡ 7)
    × (start_ring 9 0 (on 0 ∷ []) (seconds one) 7 1000 ≡ 0)
    × (start_ring 9 0 (on 0 ∷ []) (seconds one) 8 1000 ≡ 7)
    × (start_ring 8 0 [] (seconds one) 7 7 ≡ 0)
    × (start_ring 8 0 [] (seconds one) 7 6 ≡ 7)
    × (start_ring 9 0 (on 0 ∷ []) (seconds one) 7 14 ≡ 0)
    × (start_ring 9 0 (on 0 ∷ []) (seconds one) 7 13 ≡ 7)
    × (start_ring 8 6 [] (fraction half) 0 3 ≡ 0)
    × (start_ring 8 6 [] (fraction half) 0 2 ≡ 7)
    × (start_ring 9 6 [] (fraction half) 0 6 ≡ 0)
    × (start_ring 9 6 [] (fraction half) 0 5 ≡ 7)
    × (start_ring 8 0 [] (seconds nought) 7 0 ≡ 0)
    -- capped, which only two bytes a sample let pass
    × (start_refusal (settings 9 33554433 0 [] (seconds one) 1000000000) plenty 67108864 ≡ 0)
    × (start_refusal (settings 9 33554432 0 [] (seconds one) 1000000000) plenty 67108864 ≡ 7)
    × (start_refusal (settings 8 67108864 0 [] (seconds one) 67108863) plenty 67108863 ≡ 0)
    × (start_refusal (settings 8 67108864 0 [] (seconds one) 1000000000) plenty 67108864 ≡ 7)
unfolding floor_of nearest_of most_fraction times mul of_int lt is_nan level_short line_wrong
row_7 = (refl, refl, refl, refl, refl, refl, refl, refl, refl, refl, refl, refl, refl, refl, refl, refl, refl)

-- "Rows in order": all of them refuse, then all but the first, and so on
abbrev start_all : ℕ → Lent → ℕ → ℕ → ℕ → ℕ
start_all capacity memory line limit rate = start_refusal (settings 8 capacity limit (on line ∷ []) (seconds one) rate) memory 0

pub in_order :
    (start_all 67108865 no_memory 16 67108866 1000000001 ≡ 1)
    × (start_all 8 no_memory 16 9 1000000001 ≡ 2)
    × (start_all 8 plenty 16 9 1000000001 ≡ 3)
    × (start_all 8 plenty 15 9 1000000001 ≡ 4)
    × (start_all 8 plenty 15 8 1000000001 ≡ 5)
    × (start_all 8 plenty 15 0 1000000001 ≡ 6)
    × (start_all 8 plenty 15 0 1000000000 ≡ 7)
    × (start_all 8 plenty 15 0 0 ≡ 0)
    × (start 9 [] (fraction nan) 0 ≡ 4)
    × (start 0 [] (fraction nan) 0 ≡ 5)
    × (start 8 [] (seconds nan) 0 ≡ 5)
unfolding floor_of nearest_of most_fraction times mul of_int lt is_nan level_short line_wrong
in_order = (refl, refl, refl, refl, refl, refl, refl, refl, refl, refl, refl)

-- ---- the samples kept; more products that round are in Floats
abbrev keeps : ℕ → Bool → Pre
keeps n flag = record { samples = n; was_cut = flag }

-- "floor(limit × p), p clamped to 0..0.99", and no flag: 0.99, the binary64 before it, 1, −1, −0.0, −∞, and the limit and the rate that do not count
abbrev of_limit : ℕ → Float → Pre
of_limit limit p = pre_for (fraction p) limit 0 2

pub fraction_kept :
    (most_fraction ≡ of_bits binary64 0x3fef_ae14_7ae1_47ae)
    × (of_limit 100 most_fraction ≡ keeps 99 false)
    × (of_limit 100 (of_bits binary64 0x3fef_ae14_7ae1_47ad) ≡ keeps 98 false)
    × (of_limit 100 one ≡ keeps 99 false)
    × (of_limit 1 one ≡ keeps 0 false)
    × (of_limit 67108864 one ≡ keeps 66437775 false)
    × (of_limit 100 (fin true 1 (pos 0)) ≡ keeps 0 false)
    × (of_limit 100 (fin true 0 (pos 0)) ≡ keeps 0 false)
    × (of_limit 100 (inf true) ≡ keeps 0 false)
    × (of_limit 3 half ≡ keeps 1 false)
    × (pre_for (fraction half) 8 1000000000 1 ≡ keeps 4 false)
unfolding floor_of most_fraction times round of_bits mul of_int lt
fraction_kept = (refl, refl, refl, refl, refl, refl, refl, refl, refl, refl, refl)

-- "t clamped to 0..1, times rate .., rounded with halves away from zero; at most 67,108,864 / unit, and a flag says whether that cut it"
abbrev at_rate : ℕ → ℕ → Float → Pre
at_rate unit rate t = pre_for (seconds t) 0 rate unit

pub seconds_kept :
    -- a quarter, a half, 2.5; 0.3 × 5 is below 1.5, and rounds to it
    (at_rate 1 1 (fin false 1 (negsuc 1)) ≡ keeps 0 false)
    × (at_rate 1 1 half ≡ keeps 1 false)
    × (at_rate 1 5 half ≡ keeps 3 false)
    × (at_rate 1 5 (of_bits binary64 0x3fd3_3333_3333_3333) ≡ keeps 2 false)
    -- 1, 1.5, +∞, −0.5, −∞
    × (at_rate 1 7 one ≡ keeps 7 false)
    × (at_rate 1 7 (fin false 3 (negsuc 0)) ≡ keeps 7 false)
    × (at_rate 1 7 (inf false) ≡ keeps 7 false)
    × (at_rate 1 7 (fin true 1 (negsuc 0)) ≡ keeps 0 false)
    × (at_rate 1 7 (inf true) ≡ keeps 0 false)
    -- the cap
    × (at_rate 1 67108864 one ≡ keeps 67108864 false)
    × (at_rate 1 67108865 one ≡ keeps 67108864 true)
    × (at_rate 2 33554432 one ≡ keeps 33554432 false)
    × (at_rate 2 33554433 one ≡ keeps 33554432 true)
unfolding nearest_of times of_bits mul of_int lt
seconds_kept = (refl, refl, refl, refl, refl, refl, refl, refl, refl, refl, refl, refl, refl)

-- the cap is by the unit that the channels mean
pub kept_unit :
    (pre_of (settings 8 9 0 [] (seconds one) 67108864) ≡ 67108864)
    × (pre_of (settings 9 5 0 [] (seconds one) 33554433) ≡ 33554432)
unfolding nearest_of times mul of_int lt
kept_unit = (refl, refl)
