-- The borders of the trigger and of the run that a list of pushes makes, computed. 01: Selection and recorder; Lists of pushes; 02: CR 4. Assumes nothing.
use mathlib.Core.Path.{◌≡◌, refl}
use mathlib.Core.Bool.{Bool, true, false}
use mathlib.Core.List.{List, [], ◌∷◌}
use Rattle.std.specs.Prelude.{Option, None, Some}
use Prim.Native.Nat.{ℕ}
use lib.IntN.{negsuc}
use lib.Ieee.{fin, mul, of_int, lt}
use Rattle.rules.specs.Sample.{sample_of, list_from}
use Rattle.rules.specs.Floor.{floor_of, nearest_of}
use Rattle.rules.specs.Pretrigger.{Pretrigger, fraction, seconds, one, most_fraction, times}
use Rattle.rules.specs.Trigger.{Condition, rising, falling, edge, high, low, Term, Masks, with_line, with_terms, named_by, both_as_edge, masks_of, Armed, unarmed, waiting, armed_of, matches, fires, first_fire, last_of}
use Rattle.rules.specs.Selection.{Settings, Rule, rule_of, Selected, chosen, selection, accepted_from, accepted, run_of, mark_of, refused, going_on, complete, replies_from, replies_of}

-- ---- terms
abbrev on : ℕ → Condition → Term
on line condition = record { line = line; condition = condition }

abbrev masks : ℕ → ℕ → ℕ → ℕ → ℕ → Masks
masks h l r f e = record { high = h; low = l; rising = r; falling = f; edge = e }

pub terms :
    (with_line (masks 1 2 4 8 16) high 32 ≡ masks 33 2 4 8 16)
    × (with_line (masks 1 2 4 8 16) low 32 ≡ masks 1 34 4 8 16)
    × (with_line (masks 1 2 4 8 16) rising 32 ≡ masks 1 2 36 8 16)
    × (with_line (masks 1 2 4 8 16) falling 32 ≡ masks 1 2 4 40 16)
    × (with_line (masks 1 2 4 8 16) edge 32 ≡ masks 1 2 4 8 48)
    × (named_by (on 0 high ∷ on 1 low ∷ on 2 rising ∷ on 3 falling ∷ on 15 edge ∷ []) ≡ masks 1 2 4 8 32768)
    × (named_by (on 15 high ∷ on 0 low ∷ on 0 edge ∷ on 1 falling ∷ on 1 rising ∷ []) ≡ masks 32768 1 2 2 1)
    × (named_by (on 0 high ∷ on 0 high ∷ on 3 high ∷ on 1 low ∷ on 1 low ∷ on 3 low ∷ []) ≡ masks 9 10 0 0 0)
    × (named_by (on 0 rising ∷ on 0 rising ∷ on 3 rising ∷ on 1 falling ∷ on 1 falling ∷ on 3 falling ∷ on 2 edge ∷ on 2 edge ∷ on 3 edge ∷ []) ≡ masks 0 0 9 10 12)
    -- CR 4: "a line with both counts as one with Edge, beside any other terms on it": both on line 0, one on lines 1 and 2, Edge on lines 0 and 3
    × (both_as_edge (masks 1 1 3 5 8) ≡ masks 1 1 2 4 9)
    × (both_as_edge (masks 1 1 3 5 9) ≡ masks 1 1 2 4 9)
    × (both_as_edge (masks 4 8 1 2 0) ≡ masks 4 8 1 2 0)
    × (masks_of (on 0 rising ∷ on 0 falling ∷ []) ≡ masks 0 0 0 0 1)
    -- "armed with five masks or unarmed"
    × (armed_of [] ≡ unarmed)
    × (armed_of (on 0 falling ∷ on 0 rising ∷ []) ≡ waiting (masks 0 0 0 0 1))
unfolding with_terms both_as_edge
terms = (refl, refl, refl, refl, refl, refl, refl, refl, refl, refl, refl, refl, refl, refl, refl)

-- ---- "A sample v after p fires when .."; the first sample has no p
abbrev firing : List Term → ℕ → ℕ → Bool
firing ts p v = fires (masks_of ts) (Some p) v

-- one line: 0 after 0, 1 after 0, 0 after 1, 1 after 1; and the first sample, 0 and 1
abbrev after : Condition → List Bool
after c = firing (on 0 c ∷ []) 0 0 ∷ firing (on 0 c ∷ []) 0 1 ∷ firing (on 0 c ∷ []) 1 0 ∷ firing (on 0 c ∷ []) 1 1 ∷ []

abbrev first : List Term → ℕ → Bool
first ts v = fires (masks_of ts) None v

pub fired :
    (after high ≡ false ∷ true ∷ false ∷ true ∷ [])
    × (after low ≡ true ∷ false ∷ true ∷ false ∷ [])
    × (after rising ≡ false ∷ true ∷ false ∷ false ∷ [])
    × (after falling ≡ false ∷ false ∷ true ∷ false ∷ [])
    × (after edge ≡ false ∷ true ∷ true ∷ false ∷ [])
unfolding with_terms both_as_edge matches fires
fired = (refl, refl, refl, refl, refl)

-- "every": two lines, and one of them
pub every_line :
    (firing (on 0 high ∷ on 1 high ∷ []) 0 3 ≡ true)
    × (firing (on 0 high ∷ on 1 high ∷ []) 0 2 ≡ false)
    × (firing (on 0 low ∷ on 1 low ∷ []) 0 65532 ≡ true)
    × (firing (on 0 low ∷ on 1 low ∷ []) 0 2 ≡ false)
    × (firing (on 0 rising ∷ on 1 rising ∷ []) 0 3 ≡ true)
    × (firing (on 0 rising ∷ on 1 rising ∷ []) 0 2 ≡ false)
    × (firing (on 0 rising ∷ on 1 rising ∷ []) 1 3 ≡ false)
    × (firing (on 0 falling ∷ on 1 falling ∷ []) 3 0 ≡ true)
    × (firing (on 0 falling ∷ on 1 falling ∷ []) 3 1 ≡ false)
    × (firing (on 0 falling ∷ on 1 falling ∷ []) 2 0 ≡ false)
    × (firing (on 0 edge ∷ on 1 edge ∷ []) 1 2 ≡ true)
    × (firing (on 0 edge ∷ on 1 edge ∷ []) 1 0 ≡ false)
    -- of two conditions each has to hold
    × (firing (on 0 high ∷ on 1 rising ∷ []) 1 3 ≡ true)
    × (firing (on 0 high ∷ on 1 rising ∷ []) 0 2 ≡ false)
    × (firing (on 0 high ∷ on 1 rising ∷ []) 3 3 ≡ false)
    -- a line that the unit lacks is 0
    × (firing (on 8 high ∷ []) 0 255 ≡ false)
    × (firing (on 8 low ∷ []) 0 255 ≡ true)
unfolding with_terms both_as_edge matches fires
every_line = (refl, refl, refl, refl, refl, refl, refl, refl, refl, refl, refl, refl, refl, refl, refl, refl, refl)

-- "it fires only if there is no Rising, Falling or Edge term, tested with p = v"
pub first_sample :
    (first (on 0 high ∷ []) 0 ≡ false)
    × (first (on 0 high ∷ []) 1 ≡ true)
    × (first (on 0 low ∷ []) 0 ≡ true)
    × (first (on 0 low ∷ []) 1 ≡ false)
    × (first (on 0 high ∷ on 1 low ∷ []) 1 ≡ true)
    × (fires (masks 0 0 0 0 0) None 7 ≡ true)
    × (fires (masks 0 0 1 0 0) None 1 ≡ false)
    × (fires (masks 0 0 0 1 0) None 0 ≡ false)
    × (fires (masks 0 0 0 0 1) None 0 ≡ false)
unfolding with_terms both_as_edge matches fires
first_sample = (refl, refl, refl, refl, refl, refl, refl, refl, refl)

-- "T the first firing place", the count where there is none; "previous sample or none"
pub first_fire_lem :
    (first_fire (masks 0 0 1 0 0) None (0 ∷ 0 ∷ 1 ∷ 0 ∷ 1 ∷ []) ≡ 2)
    × (first_fire (masks 0 0 1 0 0) None (1 ∷ 1 ∷ []) ≡ 2)
    × (first_fire (masks 0 0 1 0 0) (Some 0) (1 ∷ 1 ∷ []) ≡ 0)
    × (first_fire (masks 0 0 1 0 0) (Some 1) (1 ∷ 0 ∷ 1 ∷ []) ≡ 2)
    × (first_fire (masks 1 0 0 0 0) None [] ≡ 0)
    × (first_fire (masks 1 0 0 0 0) None (1 ∷ []) ≡ 0)
    × (last_of None [] ≡ None)
    × (last_of (Some 3) [] ≡ Some 3)
    × (last_of (Some 3) (4 ∷ 5 ∷ []) ≡ Some 5)
unfolding matches fires first_fire last_of
first_fire_lem = (refl, refl, refl, refl, refl, refl, refl, refl, refl)

-- ---- the run; High on line 0, so that the first odd sample fires
abbrev odd : Armed
odd = waiting (masks 1 0 0 0 0)

abbrev select : Armed → ℕ → ℕ → List ℕ → Selected
select armed limit pre xs = selection (record { unit = 1; capacity = 99; limit = limit; pre = pre; armed = armed }) xs

abbrev is : List ℕ → Option ℕ → Selected
is run mark = record { run = run; mark = mark }

pub runs :
    -- "the run starts at T − min(T, pre), the mark is min(T, pre)": T is 0, below pre, at pre and above it; pre is 0; "no T, empty run and no mark"
    (select odd 0 2 (1 ∷ 2 ∷ 3 ∷ []) ≡ is (1 ∷ 2 ∷ 3 ∷ []) (Some 0))
    × (select odd 0 2 (2 ∷ 3 ∷ 4 ∷ []) ≡ is (2 ∷ 3 ∷ 4 ∷ []) (Some 1))
    × (select odd 0 2 (2 ∷ 4 ∷ 5 ∷ 7 ∷ []) ≡ is (2 ∷ 4 ∷ 5 ∷ 7 ∷ []) (Some 2))
    × (select odd 0 2 (2 ∷ 4 ∷ 6 ∷ 7 ∷ []) ≡ is (4 ∷ 6 ∷ 7 ∷ []) (Some 2))
    × (select odd 0 0 (2 ∷ 4 ∷ 5 ∷ 6 ∷ []) ≡ is (5 ∷ 6 ∷ []) (Some 0))
    × (select odd 0 2 (2 ∷ 4 ∷ 6 ∷ 8 ∷ []) ≡ is [] None)
    × (select odd 0 2 [] ≡ is [] None)
    -- "without terms the run is all of them, with no mark"
    × (select unarmed 0 2 (2 ∷ 4 ∷ 5 ∷ []) ≡ is (2 ∷ 4 ∷ 5 ∷ []) None)
    -- "Limit above 0 keeps the run's first limit samples": fewer, as many, one more; 1; the samples before the mark count
    × (select unarmed 3 0 (2 ∷ 4 ∷ []) ≡ is (2 ∷ 4 ∷ []) None)
    × (select unarmed 3 0 (2 ∷ 4 ∷ 5 ∷ []) ≡ is (2 ∷ 4 ∷ 5 ∷ []) None)
    × (select unarmed 3 0 (2 ∷ 4 ∷ 5 ∷ 6 ∷ []) ≡ is (2 ∷ 4 ∷ 5 ∷ []) None)
    × (select unarmed 1 0 (2 ∷ 4 ∷ []) ≡ is (2 ∷ []) None)
    × (select odd 3 2 (2 ∷ 4 ∷ 6 ∷ 7 ∷ 9 ∷ []) ≡ is (4 ∷ 6 ∷ 7 ∷ []) (Some 2))
unfolding matches fires first_fire chosen selection
runs = (refl, refl, refl, refl, refl, refl, refl, refl, refl, refl, refl, refl, refl)

-- ---- lists of pushes
abbrev rule : ℕ → ℕ → ℕ → ℕ → Armed → Rule
rule unit capacity limit pre armed = record { unit = unit; capacity = capacity; limit = limit; pre = pre; armed = armed }

-- capacity 3: it is reached, or would be by one more; a smaller push fits after one that is refused
abbrev full : List (List ℕ)
full = (2 ∷ 4 ∷ []) ∷ (5 ∷ []) ∷ [] ∷ (6 ∷ []) ∷ []

abbrev over : List (List ℕ)
over = (2 ∷ 4 ∷ []) ∷ (5 ∷ 6 ∷ []) ∷ (7 ∷ []) ∷ []

-- Rising on line 0, pre 2: a push that does not fire always fits; one that fires and is refused leaves the recorder waiting, with the sample before it
abbrev rises : Rule
rises = rule 1 3 0 2 (waiting (masks 0 0 1 0 0))

abbrev waits : List (List ℕ)
waits = (2 ∷ 4 ∷ 6 ∷ 8 ∷ []) ∷ (1 ∷ 3 ∷ 5 ∷ []) ∷ (7 ∷ []) ∷ (9 ∷ []) ∷ []

pub lists :
    (run_of (rule 1 3 0 0 unarmed) full ≡ 2 ∷ 4 ∷ 5 ∷ [])
    × (replies_of (rule 1 3 0 0 unarmed) full ≡ going_on ∷ going_on ∷ going_on ∷ refused 8 ∷ [])
    × (accepted (rule 1 3 0 0 unarmed) over ≡ 2 ∷ 4 ∷ 7 ∷ [])
    × (replies_of (rule 1 3 0 0 unarmed) over ≡ going_on ∷ refused 8 ∷ going_on ∷ [])
    × (accepted rises waits ≡ 2 ∷ 4 ∷ 6 ∷ 8 ∷ 7 ∷ [])
    × (run_of rises waits ≡ 6 ∷ 8 ∷ 7 ∷ [])
    × (mark_of rises waits ≡ Some 2)
    × (replies_of rises waits ≡ going_on ∷ refused 8 ∷ going_on ∷ refused 8 ∷ [])
    -- "complete exactly when the recorder is unarmed, limit is above 0 and len = limit", and again after it; what the limit cuts needs no room
    × (replies_of (rule 1 3 3 0 unarmed) full ≡ going_on ∷ complete ∷ complete ∷ complete ∷ [])
    × (replies_of (rule 1 3 3 0 unarmed) over ≡ going_on ∷ complete ∷ complete ∷ [])
    × (replies_of (rule 1 4 4 0 unarmed) full ≡ going_on ∷ going_on ∷ going_on ∷ complete ∷ [])
    × (replies_of (rule 1 3 2 1 odd) full ≡ going_on ∷ complete ∷ complete ∷ complete ∷ [])
    × (replies_of (rule 1 3 3 0 odd) full ≡ going_on ∷ going_on ∷ going_on ∷ going_on ∷ [])
    -- unit 2: "a leftover byte of each push dropped"
    × (run_of (rule 2 3 0 0 unarmed) ((1 ∷ 0 ∷ 9 ∷ []) ∷ (9 ∷ []) ∷ (2 ∷ 1 ∷ []) ∷ []) ≡ 1 ∷ 258 ∷ [])
    × (replies_of (rule 2 2 0 0 unarmed) ((1 ∷ 0 ∷ 2 ∷ 0 ∷ 9 ∷ []) ∷ (9 ∷ []) ∷ (2 ∷ 1 ∷ []) ∷ []) ≡ going_on ∷ going_on ∷ refused 8 ∷ [])
unfolding sample_of list_from matches fires first_fire chosen selection accepted_from replies_from
lists = (refl, refl, refl, refl, refl, refl, refl, refl, refl, refl, refl, refl, refl, refl, refl)

-- ---- "Its settings are what start was given": Fraction 0.5, and Seconds 1 in either unit, at a rate above two bytes' cap
abbrev settings : ℕ → ℕ → List Term → Pretrigger → Settings
settings channels limit terms wish = record { channels = channels; capacity = 40; limit = limit; terms = terms; wish = wish; rate = 40000000 }

pub rules :
    (rule_of (settings 9 6 (on 3 high ∷ []) (fraction (fin false 1 (negsuc 0)))) ≡ rule 2 40 6 3 (waiting (masks 8 0 0 0 0)))
    × (rule_of (settings 8 0 [] (seconds one)) ≡ rule 1 40 0 40000000 unarmed)
    × (rule_of (settings 9 0 [] (seconds one)) ≡ rule 2 40 0 33554432 unarmed)
unfolding floor_of nearest_of most_fraction times with_terms both_as_edge mul of_int lt
rules = (refl, refl, refl)
