-- The starred shelf examples of document 01, proved about its rules by computation, as one conjunction; and examples of document 02's CR 3 and CR 4.
use mathlib.Core.Path.{◌≡◌, refl}
use mathlib.Core.Bool.{false, cond}
use mathlib.Core.List.{List, [], ◌∷◌, ◌++◌}
use Rattle.std.specs.Prelude.{None, Some}
use Prim.Native.Nat.{ℕ}
use lib.IntN.{pos, negsuc}
use lib.Dec.{ltb}
use lib.Ieee.{Float, fin, add, mul, of_int, lt}
use Rattle.rules.specs.Sample.{sample_of, list_from}
use Rattle.rules.specs.Node.{toggles_of, count_of, node_of}
use Rattle.rules.specs.Search.{seek, next, previous, summary, density}
use Rattle.rules.specs.Walk.{best, walk, chunks, entered, next_entered, all_levels, run_reader, next_search, previous_search}
use Rattle.rules.specs.Burst.{jump, burst_by, burst, jump_steps, steps_by, burst_search}
use Rattle.rules.specs.Floor.{floor_of, nearest_of}
use Rattle.rules.specs.Pixel.{View, pixel_edge, row_by, render}
use Rattle.rules.specs.Pretrigger.{fraction, seconds, most_fraction, times}
use Rattle.rules.specs.Trigger.{Term, Condition, rising, falling, high, with_terms, both_as_edge, matches, fires, first_fire}
use Rattle.rules.specs.Selection.{Settings, going_on, complete, refused, rule_of, chosen, selection, accepted_from, run_of, mark_of, replies_from, replies_of}

-- A = 0 0 1 1 0 2 2 3; B = 0 1 0 0 0 0 0 0 1 0
abbrev list_a : List ℕ
list_a = 0 ∷ 0 ∷ 1 ∷ 1 ∷ 0 ∷ 2 ∷ 2 ∷ 3 ∷ []

abbrev list_b : List ℕ
list_b = 0 ∷ 1 ∷ 0 ∷ 0 ∷ 0 ∷ 0 ∷ 0 ∷ 0 ∷ 1 ∷ 0 ∷ []

abbrev A : ℕ → ℕ
A = sample_of 1 list_a

abbrev B : ℕ → ℕ
B = sample_of 1 list_b

-- 0, 0.5, 1.5 and 4
abbrev half : Float
half = fin false 1 (negsuc 0)

abbrev view : Float → Float → View
view start spp = record { start = start; spp = spp }

abbrev on0 : Condition → Term
on0 c = record { line = 0; condition = c }

-- limit 4, Fraction 0.5, one term on line 0; 8 channels, capacity 16
abbrev settings : Condition → Settings
settings c = record { channels = 8; capacity = 16; limit = 4; terms = on0 c ∷ []; wish = fraction half; rate = 0 }

pub shelf :
    (next A 8 1 0 ≡ Some 2)
    × (next A 8 1 7 ≡ None)
    × (previous A 8 1 6 ≡ Some 4)
    × (previous A 8 1 100 ≡ Some 7)
    × (summary A 8 0 8 ≡ Some (record { first = 0; last = 3; toggles = 3; count = 4 }))
    × (density A 8 0 8 ≡ 4)
    × (burst A 8 1 3 4 0 1 ≡ Some (record { first = 2; last = 7; jumps_end = 1; jumps_start = 0 }))
    × (burst A 8 1 3 3 0 1 ≡ Some (record { first = 2; last = 4; jumps_end = 0; jumps_start = 0 }))
    × (burst B 10 1 5 4 3 9 ≡ Some (record { first = 1; last = 2; jumps_end = 0; jumps_start = 0 }))
    × (render A 8 (view (fin false 0 (pos 0)) (fin false 1 (pos 2))) 2 ≡ 0 ∷ 1 ∷ 0 ∷ 3 ∷ [])
    × (render A 8 (view (fin false 3 (negsuc 0)) half) 1 ≡ 0 ∷ 1 ∷ [])
    × (run_of (rule_of (settings rising)) ((0 ∷ 0 ∷ []) ∷ (0 ∷ 1 ∷ 1 ∷ []) ∷ []) ≡ 0 ∷ 0 ∷ 1 ∷ 1 ∷ [])
    × (mark_of (rule_of (settings rising)) ((0 ∷ 0 ∷ []) ∷ (0 ∷ 1 ∷ 1 ∷ []) ∷ []) ≡ Some 2)
    × (replies_of (rule_of (settings rising)) ((0 ∷ 0 ∷ []) ∷ (0 ∷ 1 ∷ 1 ∷ []) ∷ []) ≡ going_on ∷ complete ∷ [])
    × (selection (rule_of (settings rising)) (1 ∷ []) ≡ record { run = []; mark = None })
    × (selection (rule_of (settings high)) (1 ∷ []) ≡ record { run = 1 ∷ []; mark = Some 0 })
unfolding sample_of list_from toggles_of count_of node_of seek jump burst_by floor_of nearest_of pixel_edge row_by most_fraction times with_terms both_as_edge matches fires first_fire chosen selection accepted_from replies_from add mul of_int lt
shelf = (refl, refl, refl, refl, refl, refl, refl, refl, refl, refl, refl, refl, refl, refl, refl, refl)

-- unit 2, no terms, capacity 1: a leftover byte joins nothing, and a push without room is refused and adds nothing
abbrev plain : Settings
plain = record { channels = 16; capacity = 1; limit = 0; terms = []; wish = seconds (fin false 0 (pos 0)); rate = 0 }

pub beside :
    (run_of (rule_of plain) ((7 ∷ []) ∷ (1 ∷ 2 ∷ []) ∷ (3 ∷ 4 ∷ []) ∷ []) ≡ 513 ∷ [])
    × (replies_of (rule_of plain) ((7 ∷ []) ∷ (1 ∷ 2 ∷ []) ∷ (3 ∷ 4 ∷ []) ∷ []) ≡ going_on ∷ going_on ∷ refused 8 ∷ [])
unfolding sample_of list_from nearest_of most_fraction times with_terms both_as_edge matches fires first_fire chosen selection accepted_from replies_from mul of_int lt
beside = (refl, refl)

-- 02, CR 3: what searches of A read, sample by sample; the second change of a side is searched for within the tolerance alone. And a lone change at
-- place 100 of 200: 31 samples and two nodes of 32 are passed, the next node is not quiet, and its fifth sample is the find
abbrev late : ℕ → ℕ
late i = cond (ltb i 100) 0 1

pub read :
    (next_search A 8 1 0 ≡ record { found = Some 2; steps = 2 })
    × (next_search A 8 1 7 ≡ record { found = None; steps = 0 })
    × (previous_search A 8 1 6 ≡ record { found = Some 4; steps = 3 })
    × ((burst_search A 8 1 3 4 0 1).steps ≡ 6)
    × (burst_search A 8 1 3 2 0 9 ≡ record { found = None; steps = 3 })
    × (burst_search A 8 1 3 2 1 9 ≡ record { found = None; steps = 7 })
    × (next_search late 200 1 0 ≡ record { found = Some 100; steps = 39 })
    × (next_entered all_levels (run_reader late) 200 1 0 ≡ 1)
unfolding sample_of toggles_of count_of node_of seek jump burst_by jump_steps steps_by best walk chunks entered
read = (refl, refl, refl, refl, refl, refl, refl, refl)

-- 02, CR 4: Rising and Falling on line 0, and High on it or on line 1 beside them; the first sample does not fire
abbrev turner : List Term → Settings
turner more = record { channels = 8; capacity = 16; limit = 4; terms = on0 rising ∷ more ++ (on0 falling ∷ []); wish = fraction half; rate = 0 }

pub both_on_one :
    (selection (rule_of (turner [])) (1 ∷ 1 ∷ 0 ∷ 1 ∷ []) ≡ record { run = 1 ∷ 1 ∷ 0 ∷ 1 ∷ []; mark = Some 2 })
    × (selection (rule_of (turner [])) (0 ∷ 1 ∷ []) ≡ record { run = 0 ∷ 1 ∷ []; mark = Some 1 })
    × (selection (rule_of (turner (on0 high ∷ []))) (1 ∷ 0 ∷ 1 ∷ []) ≡ record { run = 1 ∷ 0 ∷ 1 ∷ []; mark = Some 2 })
    × (selection (rule_of (turner (record { line = 1; condition = high } ∷ []))) (1 ∷ 0 ∷ 2 ∷ 3 ∷ []) ≡ record { run = 0 ∷ 2 ∷ 3 ∷ []; mark = Some 2 })
unfolding floor_of most_fraction times with_terms both_as_edge matches fires first_fire chosen selection mul of_int lt
both_on_one = (refl, refl, refl, refl)
