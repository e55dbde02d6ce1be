-- An encoder's replay and its rows at their borders, computed. 02: CR 6. Assumes nothing.
use mathlib.Core.Path.{◌≡◌, refl}
use mathlib.Core.Bool.{true, false}
use mathlib.Core.List.{List, [], ◌∷◌}
use Rattle.std.specs.Prelude.{None}
use Prim.Native.Nat.{ℕ}
use lib.IntN.{ℤ, pos, negsuc}
use lib.ListN.{length, get_or}
use Rattle.rules.specs.Sample.{line}
use Rattle.rules.specs.Node.{count_of}
use Rattle.rules.specs.Cutting.{parts_by}
use Rattle.rules.specs.Refusal.{Store, level_short}
use Rattle.rules.specs.Encoder.{Turns, no_turns, turn_forward, turn_backward, turn_skipped, add_turns, step_of, turn_of, turns_of, encoder, encoder_in, pair_mask, pair_changes, opposite, trials, pair_wrong, encoder_refusal}
use Rattle.rules.specs.Mill.{mill_encoder_refusal}
use Rattle.rules.proofs.BorderRows.{store, plenty, no_memory}

abbrev turns : ℤ → ℕ → ℕ → ℕ → Turns
turns position forward backward skipped = record { position = position; forward = forward; backward = backward; skipped = skipped }

-- ---- a step, of all that there are: from (A,B) to (A,B)
pub steps :
    -- "The order (A,B) = 00, 10, 11, 01, 00 is forward"
    (step_of 0 0 1 0 ≡ turn_forward)
    × (step_of 1 0 1 1 ≡ turn_forward)
    × (step_of 1 1 0 1 ≡ turn_forward)
    × (step_of 0 1 0 0 ≡ turn_forward)
    -- "its reverse backward"
    × (step_of 0 0 0 1 ≡ turn_backward)
    × (step_of 1 0 0 0 ≡ turn_backward)
    × (step_of 1 1 1 0 ≡ turn_backward)
    × (step_of 0 1 1 1 ≡ turn_backward)
    -- "both lines changing in one sample is a skip and doesn't move"
    × (step_of 0 0 1 1 ≡ turn_skipped)
    × (step_of 1 0 0 1 ≡ turn_skipped)
    × (step_of 1 1 0 0 ≡ turn_skipped)
    × (step_of 0 1 1 0 ≡ turn_skipped)
    -- neither changes
    × (step_of 0 0 0 0 ≡ no_turns)
    × (step_of 1 0 1 0 ≡ no_turns)
    × (step_of 1 1 1 1 ≡ no_turns)
    × (step_of 0 1 0 1 ≡ no_turns)
steps = (refl, refl, refl, refl, refl, refl, refl, refl, refl, refl, refl, refl, refl, refl, refl, refl)

-- ---- "a signed position from 0, with forward, backward and skipped counts", A being line 0 and B line 1
abbrev replay : List ℕ → Turns
replay run = encoder (λ i. get_or run i 0) (length run) 0 1

pub replays :
    -- which way is forward
    (replay (0 ∷ 1 ∷ 3 ∷ 2 ∷ 0 ∷ []) ≡ turns (pos 4) 4 0 0)
    × (replay (0 ∷ 2 ∷ 3 ∷ 1 ∷ 0 ∷ []) ≡ turns (negsuc 3) 0 4 0)
    -- the state after a skip is the new one: the step behind it is from there
    × (replay (0 ∷ 3 ∷ 1 ∷ []) ≡ turns (negsuc 0) 0 1 1)
    × (replay (0 ∷ 3 ∷ 2 ∷ []) ≡ turns (pos 1) 1 0 1)
    -- lines beside the two count for nothing
    × (replay (4 ∷ 8 ∷ 9 ∷ 1 ∷ []) ≡ turns (pos 1) 1 0 0)
    -- a lone change at the last place; one sample, and none
    × (replay (0 ∷ 0 ∷ 0 ∷ 1 ∷ []) ≡ turns (pos 1) 1 0 0)
    × (replay (1 ∷ []) ≡ turns (pos 0) 0 0 0)
    × (replay (3 ∷ []) ≡ turns (pos 0) 0 0 0)
    × (replay [] ≡ no_turns)
    -- B and A exchanged turn the other way
    × (encoder (λ i. get_or (0 ∷ 1 ∷ 3 ∷ []) i 0) 3 1 0 ≡ turns (negsuc 1) 0 2 0)
    -- the highest line
    × (encoder (λ i. get_or (0 ∷ 32768 ∷ 49152 ∷ []) i 0) 3 15 14 ≡ turns (pos 2) 2 0 0)
    -- "the places at which A or B changes"
    × (pair_changes (λ i. get_or (0 ∷ 1 ∷ 5 ∷ 6 ∷ 4 ∷ []) i 0) 5 0 1 ≡ 3)
    × (pair_mask 0 1 ≡ 3)
    × (pair_mask 12 11 ≡ 6144)
    -- a part, with the border that it begins with: 1 to 3 is the second's
    × (encoder_in (λ i. get_or (0 ∷ 1 ∷ 3 ∷ 2 ∷ []) i 0) 0 1 0 2 ≡ turns (pos 1) 1 0 0)
    × (encoder_in (λ i. get_or (0 ∷ 1 ∷ 3 ∷ 2 ∷ []) i 0) 0 1 2 4 ≡ turns (pos 2) 2 0 0)
    × (encoder_in (λ i. get_or (0 ∷ 1 ∷ 3 ∷ 2 ∷ []) i 0) 0 1 0 1 ≡ no_turns)
    × (parts_by no_turns add_turns (encoder_in (λ i. get_or (0 ∷ 1 ∷ 3 ∷ 0 ∷ []) i 0) 0 1) 0 (1 ∷ 2 ∷ 3 ∷ 4 ∷ []) ≡ turns (pos 2) 2 0 1)
    -- the opposite, and trial turns
    × (opposite (turns (negsuc 1) 3 5 7) ≡ turns (pos 2) 5 3 7)
    × (trials 0 (1 ∷ 2 ∷ []) ≡ [])
    × (trials 2 (1 ∷ 2 ∷ []) ≡ 1 ∷ 2 ∷ 2 ∷ 1 ∷ 1 ∷ 2 ∷ 2 ∷ 1 ∷ [])
    × (replay (trials 2 (0 ∷ 1 ∷ 3 ∷ [])) ≡ turns (pos 0) 4 4 0)
unfolding turn_of turns_of line count_of trials
replays = (refl, refl, refl, refl, refl, refl, refl, refl, refl, refl, refl, refl, refl, refl, refl, refl, refl, refl, refl, refl, refl, refl)

-- ---- 14: "equal lines or a line above 15"
abbrev sound : Store
sound = store 1 8 5 None

-- unit 3, and len above capacity
abbrev wrong : Store
wrong = store 3 8 9 None

abbrev asked : ℕ → ℕ → ℕ
asked a b = encoder_refusal sound plenty a b

abbrev asked_by : ℕ → ℕ → ℕ → ℕ
asked_by grant a b = mill_encoder_refusal sound plenty grant a b

pub row_14 :
    (asked 0 1 ≡ 0)
    × (asked 1 0 ≡ 0)
    × (asked 14 15 ≡ 0)
    × (asked 15 14 ≡ 0)
    × (asked 15 16 ≡ 14)
    × (asked 16 15 ≡ 14)
    × (asked 0 0 ≡ 14)
    × (asked 15 15 ≡ 14)
    × (asked 0 18446744073709551615 ≡ 14)
    -- the highest line is a parameter
    × (pair_wrong 31 30 31 ≡ false)
    × (pair_wrong 31 31 32 ≡ true)
    × (pair_wrong 31 32 31 ≡ true)
    -- a line that the unit lacks is none of these
    × (asked 8 9 ≡ 0)
unfolding level_short
row_14 = (refl, refl, refl, refl, refl, refl, refl, refl, refl, refl, refl, refl, refl)

-- ---- "to a mill, a line beyond its grant is then 12"
pub row_12 :
    (asked_by 3 0 1 ≡ 0)
    × (asked_by 1 0 1 ≡ 12)
    × (asked_by 2 0 1 ≡ 12)
    × (asked_by 65535 14 15 ≡ 0)
    × (asked_by 32767 14 15 ≡ 12)
    × (asked_by 32767 15 14 ≡ 12)
unfolding level_short
row_12 = (refl, refl, refl, refl, refl, refl)

-- ---- "It refuses with 14 .., after 2; to a mill .. then 12": every row refuses, then every one but the first, and so on
pub in_order :
    (encoder_refusal wrong no_memory 0 0 ≡ 1)
    × (encoder_refusal sound no_memory 0 0 ≡ 2)
    × (encoder_refusal sound plenty 0 0 ≡ 14)
    × (mill_encoder_refusal wrong no_memory 0 1 1 ≡ 1)
    × (mill_encoder_refusal sound no_memory 0 1 1 ≡ 2)
    × (mill_encoder_refusal sound plenty 0 1 1 ≡ 14)
    × (mill_encoder_refusal sound plenty 0 1 2 ≡ 12)
    × (mill_encoder_refusal sound plenty 65535 16 2 ≡ 14)
unfolding level_short
in_order = (refl, refl, refl, refl, refl, refl, refl, refl)
