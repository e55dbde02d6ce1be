-- The borders of one push, computed: the ring that it writes and reads, what it stores, its refusals, its answer and the record that it leaves; what start
-- gives; and that pushes one after the other leave what the rule of lists says. 01: Records, Recorder; Selection and recorder; Lists of pushes. Assumes nothing.
use mathlib.Core.Path.{◌≡◌, refl}
use mathlib.Core.Bool.{Bool, true, false}
use mathlib.Core.List.{List, [], ◌∷◌, ◌++◌}
use Rattle.std.specs.Prelude.{Option, None, Some}
use Prim.Native.Nat.{ℕ}
use lib.IntN.{negsuc}
use lib.ListN.{length, take, drop}
use lib.Ieee.{Float, fin, mul, of_int, lt, is_nan}
use Rattle.rules.specs.Sample.{sample_of, list_from}
use Rattle.rules.specs.Floor.{floor_of, nearest_of}
use Rattle.rules.specs.Pretrigger.{Pretrigger, fraction, seconds, one, most_fraction, times}
use Rattle.rules.specs.Trigger.{Term, rising, Armed, unarmed, waiting, with_terms, both_as_edge, matches, fires, first_fire, last_of}
use Rattle.rules.specs.Selection.{Settings, Rule, rule_of, chosen, selection, accepted_from, accepted, run_of, mark_of, Beside, slot_of, beside_of, Reply, refused, going_on, complete, reply_of, told, replies_from, replies_of}
use Rattle.rules.specs.Refusal.{Store, Lent, Recorder, level_short, recorder_refusal, line_wrong}
use Rattle.rules.specs.Ring.{written, place_after, ring_bytes, kept_bytes}
use Rattle.rules.specs.Push.{room_for, plan, Left, left_of}
use Rattle.rules.specs.Start.{fresh_recorder, Begun, begun, beside_in, start_rule}
use Rattle.rules.specs.Answer.{Answer, given, unless}
use Rattle.rules.proofs.BorderRows.{store, lent, plenty, no_memory}

-- ---- the ring
pub ring_places :
    -- x at its place: at the start, inside, at the end, and nothing
    (written (1 ∷ 2 ∷ 3 ∷ 4 ∷ []) 0 (8 ∷ 9 ∷ []) ≡ 8 ∷ 9 ∷ 3 ∷ 4 ∷ [])
    × (written (1 ∷ 2 ∷ 3 ∷ 4 ∷ []) 1 (8 ∷ 9 ∷ []) ≡ 1 ∷ 8 ∷ 9 ∷ 4 ∷ [])
    × (written (1 ∷ 2 ∷ 3 ∷ 4 ∷ []) 2 (8 ∷ 9 ∷ []) ≡ 1 ∷ 2 ∷ 8 ∷ 9 ∷ [])
    × (written (1 ∷ 2 ∷ 3 ∷ 4 ∷ []) 1 [] ≡ 1 ∷ 2 ∷ 3 ∷ 4 ∷ [])
    -- "goes to slot k mod pre (none if pre = 0)": from slot 0, from slot 2, with one slot and with none
    × (place_after 3 0 0 ≡ 0)
    × (place_after 3 0 1 ≡ 1)
    × (place_after 3 0 2 ≡ 2)
    × (place_after 3 0 3 ≡ 0)
    × (place_after 3 0 7 ≡ 1)
    × (place_after 3 2 0 ≡ 2)
    × (place_after 3 2 1 ≡ 0)
    × (place_after 3 2 2 ≡ 1)
    × (place_after 1 0 1 ≡ 0)
    × (place_after 1 0 2 ≡ 0)
    × (place_after 0 0 2 ≡ 0)
    × (slot_of 3 0 ≡ 0)
    × (slot_of 3 2 ≡ 2)
    × (slot_of 3 3 ≡ 0)
    × (slot_of 3 7 ≡ 1)
    × (slot_of 1 2 ≡ 0)
    × (slot_of 0 2 ≡ 0)
unfolding place_after
ring_places = (refl, refl, refl, refl, refl, refl, refl, refl, refl, refl, refl, refl, refl, refl, refl, refl, refl, refl, refl, refl, refl)

-- a ring of four bytes, and of six
abbrev four : List ℕ
four = 90 ∷ 91 ∷ 92 ∷ 93 ∷ []

abbrev six : List ℕ
six = 90 ∷ 91 ∷ 92 ∷ 93 ∷ 94 ∷ 95 ∷ []

pub ring_writes :
    -- three slots, and a byte past them: no sample, one, up to the end, past it, more samples than slots
    (ring_bytes 1 3 four 1 0 (1 ∷ 2 ∷ []) ≡ four)
    × (ring_bytes 1 3 four 1 1 (1 ∷ 2 ∷ []) ≡ 90 ∷ 1 ∷ 92 ∷ 93 ∷ [])
    × (ring_bytes 1 3 four 1 2 (1 ∷ 2 ∷ []) ≡ 90 ∷ 1 ∷ 2 ∷ 93 ∷ [])
    × (ring_bytes 1 3 four 1 3 (1 ∷ 2 ∷ 3 ∷ []) ≡ 3 ∷ 1 ∷ 2 ∷ 93 ∷ [])
    × (ring_bytes 1 3 four 1 5 (1 ∷ 2 ∷ 3 ∷ 4 ∷ 5 ∷ []) ≡ 3 ∷ 4 ∷ 5 ∷ 93 ∷ [])
    -- one slot, and none
    × (ring_bytes 1 1 four 0 2 (1 ∷ 2 ∷ []) ≡ 2 ∷ 91 ∷ 92 ∷ 93 ∷ [])
    × (ring_bytes 1 0 four 0 2 (1 ∷ 2 ∷ []) ≡ four)
    -- unit 2: two slots and two bytes past them; "a leftover byte of each push dropped"
    × (ring_bytes 2 2 six 1 1 (1 ∷ 2 ∷ 3 ∷ []) ≡ 90 ∷ 91 ∷ 1 ∷ 2 ∷ 94 ∷ 95 ∷ [])
    × (ring_bytes 2 2 six 1 2 (1 ∷ 2 ∷ 3 ∷ 4 ∷ []) ≡ 3 ∷ 4 ∷ 1 ∷ 2 ∷ 94 ∷ 95 ∷ [])
    × (ring_bytes 2 2 six 0 3 (1 ∷ 2 ∷ 3 ∷ 4 ∷ 5 ∷ 6 ∷ 7 ∷ []) ≡ 5 ∷ 6 ∷ 3 ∷ 4 ∷ 94 ∷ 95 ∷ [])
    × (ring_bytes 2 1 six 0 2 (1 ∷ 2 ∷ 3 ∷ 4 ∷ []) ≡ 3 ∷ 4 ∷ 92 ∷ 93 ∷ 94 ∷ 95 ∷ [])
    × (ring_bytes 2 0 six 0 2 (1 ∷ 2 ∷ 3 ∷ 4 ∷ []) ≡ six)
unfolding ring_bytes
ring_writes = (refl, refl, refl, refl, refl, refl, refl, refl, refl, refl, refl, refl)

pub ring_reads :
    -- three slots, the next one 1: the newest sample is in slot 0, the oldest in slot 1
    (kept_bytes 1 3 four 1 0 ≡ [])
    × (kept_bytes 1 3 four 1 1 ≡ 90 ∷ [])
    × (kept_bytes 1 3 four 1 2 ≡ 92 ∷ 90 ∷ [])
    × (kept_bytes 1 3 four 1 3 ≡ 91 ∷ 92 ∷ 90 ∷ [])
    × (kept_bytes 1 3 four 0 1 ≡ 92 ∷ [])
    × (kept_bytes 1 3 four 0 3 ≡ 90 ∷ 91 ∷ 92 ∷ [])
    × (kept_bytes 1 3 four 2 1 ≡ 91 ∷ [])
    × (kept_bytes 1 3 four 2 2 ≡ 90 ∷ 91 ∷ [])
    × (kept_bytes 1 3 four 2 3 ≡ 92 ∷ 90 ∷ 91 ∷ [])
    × (kept_bytes 1 1 four 0 1 ≡ 90 ∷ [])
    × (kept_bytes 1 0 four 0 0 ≡ [])
    × (kept_bytes 2 2 six 1 1 ≡ 90 ∷ 91 ∷ [])
    × (kept_bytes 2 2 six 1 2 ≡ 92 ∷ 93 ∷ 90 ∷ 91 ∷ [])
    × (kept_bytes 2 2 six 0 1 ≡ 92 ∷ 93 ∷ [])
    × (kept_bytes 2 2 six 0 2 ≡ 90 ∷ 91 ∷ 92 ∷ 93 ∷ [])
    × (kept_bytes 2 3 six 2 1 ≡ 92 ∷ 93 ∷ [])
ring_reads = (refl, refl, refl, refl, refl, refl, refl, refl, refl, refl, refl, refl, refl, refl, refl, refl)

-- ---- a push: the recorder it is given, and what it leaves
abbrev recorder : Store → ℕ → ℕ → Armed → Option ℕ → ℕ → ℕ → Recorder
recorder st limit pre armed previous place kept = record { store = st; limit = limit; pre = pre; armed = armed; previous = previous; place = place; kept = kept }

abbrev left : Reply → Recorder → List ℕ → List ℕ → Left
left reply c samples ring = record { reply = reply; recorder = c; samples = samples; ring = ring }

-- Rising on line 0: an odd sample after an even one fires, and the first of all does not. High on line 0: any odd one fires
abbrev rises : Armed
rises = waiting (record { high = 0; low = 0; rising = 1; falling = 0; edge = 0 })

abbrev odd : Armed
odd = waiting (record { high = 1; low = 0; rising = 0; falling = 0; edge = 0 })

-- sample memory of 8 bytes
abbrev eight : List ℕ
eight = 80 ∷ 81 ∷ 82 ∷ 83 ∷ 84 ∷ 85 ∷ 86 ∷ 87 ∷ []

-- xs at its start, and the rest as it was
abbrev over : List ℕ → List ℕ
over xs = xs ++ drop (length xs) eight

-- enough for 8 samples of unit 1, or 4 of unit 2
abbrev enough : Lent
enough = lent 8 5 5 5 5

abbrev push : Recorder → List ℕ → List ℕ → Left
push c g b = left_of c enough eight g b

-- ---- none of its samples fires: all go to the ring, and the store is as it was
-- capacity 8, no limit
abbrev waits_with : ℕ → Option ℕ → ℕ → ℕ → Recorder
waits_with pre previous place kept = recorder (store 1 8 0 None) 0 pre rises previous place kept

abbrev waits : Option ℕ → ℕ → ℕ → Recorder
waits previous place kept = waits_with 3 previous place kept

-- unit 2: capacity 4, pre 2
abbrev waits2 : ℕ → ℕ → ℕ → Recorder
waits2 previous place kept = recorder (store 2 4 0 None) 0 2 rises (Some previous) place kept

-- a full store, with a limit and a mark
abbrev waits_full : ℕ → ℕ → ℕ → Recorder
waits_full previous place kept = recorder (store 1 8 8 (Some 2)) 8 3 rises (Some previous) place kept

pub waiting_push :
    -- up to the end of the ring, past it; more samples than slots; none
    (push (waits None 0 0) four (2 ∷ 4 ∷ []) ≡ left going_on (waits (Some 4) 2 2) eight (2 ∷ 4 ∷ 92 ∷ 93 ∷ []))
    × (push (waits None 0 0) four (2 ∷ 4 ∷ 6 ∷ []) ≡ left going_on (waits (Some 6) 0 3) eight (2 ∷ 4 ∷ 6 ∷ 93 ∷ []))
    × (push (waits (Some 4) 2 2) four (6 ∷ 8 ∷ []) ≡ left going_on (waits (Some 8) 1 3) eight (8 ∷ 91 ∷ 6 ∷ 93 ∷ []))
    × (push (waits (Some 4) 1 1) four (2 ∷ 4 ∷ 6 ∷ 8 ∷ 10 ∷ []) ≡ left going_on (waits (Some 10) 0 3) eight (6 ∷ 8 ∷ 10 ∷ 93 ∷ []))
    × (push (waits (Some 4) 1 1) four [] ≡ left going_on (waits (Some 4) 1 1) eight four)
    -- the sample before decides: none, an odd one
    × (push (waits None 0 0) four (1 ∷ []) ≡ left going_on (waits (Some 1) 1 1) eight (1 ∷ 91 ∷ 92 ∷ 93 ∷ []))
    × (push (waits (Some 5) 2 2) four (1 ∷ []) ≡ left going_on (waits (Some 1) 0 3) eight (90 ∷ 91 ∷ 1 ∷ 93 ∷ []))
    -- one slot, and none
    × (push (waits_with 1 None 0 0) four (2 ∷ 4 ∷ []) ≡ left going_on (waits_with 1 (Some 4) 0 1) eight (4 ∷ 91 ∷ 92 ∷ 93 ∷ []))
    × (push (waits_with 0 None 0 0) four (2 ∷ 4 ∷ []) ≡ left going_on (waits_with 0 (Some 4) 0 0) eight four)
    -- unit 2; the leftover byte would be an odd sample
    × (push (waits2 2 1 1) six (4 ∷ 0 ∷ 6 ∷ 1 ∷ 1 ∷ []) ≡ left going_on (waits2 262 1 2) eight (6 ∷ 1 ∷ 4 ∷ 0 ∷ 94 ∷ 95 ∷ []))
    × (push (waits2 2 1 1) six (1 ∷ []) ≡ left going_on (waits2 2 1 1) eight six)
    -- no store is too full for it, nor is it complete where len = limit
    × (push (waits_full 4 1 3) four (6 ∷ 8 ∷ []) ≡ left going_on (waits_full 8 0 3) eight (90 ∷ 6 ∷ 8 ∷ 93 ∷ []))
unfolding level_short sample_of list_from matches fires first_fire last_of place_after ring_bytes plan left_of
waiting_push = (refl, refl, refl, refl, refl, refl, refl, refl, refl, refl, refl, refl)

-- ---- sample i of it fires. The ring holds 91 92 90 where it has wrapped and place is 1
abbrev fired_with : ℕ → ℕ → ℕ → ℕ → Recorder
fired_with pre len mark v = recorder (store 1 8 len (Some mark)) 0 pre unarmed (Some v) 0 0

abbrev fired : ℕ → ℕ → ℕ → Recorder
fired len mark v = fired_with 3 len mark v

pub firing_push :
    -- i is 0, below pre, at pre, above it, and the ring full: "the run starts at T − min(T, pre), the mark is min(T, pre)"
    (push (waits (Some 90) 1 3) four (1 ∷ 2 ∷ 3 ∷ []) ≡ left going_on (fired 6 3 1) (over (91 ∷ 92 ∷ 90 ∷ 1 ∷ 2 ∷ 3 ∷ [])) four)
    × (push (waits (Some 90) 1 3) four (2 ∷ 1 ∷ 4 ∷ []) ≡ left going_on (fired 5 3 1) (over (92 ∷ 90 ∷ 2 ∷ 1 ∷ 4 ∷ [])) four)
    × (push (waits (Some 90) 1 3) four (2 ∷ 4 ∷ 5 ∷ 6 ∷ []) ≡ left going_on (fired 5 3 5) (over (90 ∷ 2 ∷ 4 ∷ 5 ∷ 6 ∷ [])) four)
    × (push (waits (Some 90) 1 3) four (2 ∷ 4 ∷ 6 ∷ 5 ∷ []) ≡ left going_on (fired 4 3 5) (over (2 ∷ 4 ∷ 6 ∷ 5 ∷ [])) four)
    × (push (waits (Some 90) 1 3) four (2 ∷ 4 ∷ 6 ∷ 8 ∷ 5 ∷ 7 ∷ []) ≡ left going_on (fired 5 3 5) (over (4 ∷ 6 ∷ 8 ∷ 5 ∷ 7 ∷ [])) four)
    -- one sample kept: kept + i below pre, at pre, above it
    × (push (waits (Some 90) 1 1) four (1 ∷ []) ≡ left going_on (fired 2 1 1) (over (90 ∷ 1 ∷ [])) four)
    × (push (waits (Some 90) 1 1) four (2 ∷ 1 ∷ []) ≡ left going_on (fired 3 2 1) (over (90 ∷ 2 ∷ 1 ∷ [])) four)
    × (push (waits (Some 90) 1 1) four (2 ∷ 4 ∷ 1 ∷ []) ≡ left going_on (fired 4 3 1) (over (90 ∷ 2 ∷ 4 ∷ 1 ∷ [])) four)
    × (push (waits (Some 90) 1 1) four (2 ∷ 4 ∷ 6 ∷ 1 ∷ []) ≡ left going_on (fired 4 3 1) (over (2 ∷ 4 ∷ 6 ∷ 1 ∷ [])) four)
    -- two kept, not wrapped; none, and a first sample that does not fire
    × (push (waits (Some 90) 2 2) four (1 ∷ []) ≡ left going_on (fired 3 2 1) (over (90 ∷ 91 ∷ 1 ∷ [])) four)
    × (push (waits None 0 0) four (1 ∷ 2 ∷ 3 ∷ []) ≡ left going_on (fired 3 2 3) (over (1 ∷ 2 ∷ 3 ∷ [])) four)
    × (push (waits None 0 0) four (2 ∷ 4 ∷ 6 ∷ 8 ∷ 1 ∷ []) ≡ left going_on (fired 4 3 1) (over (4 ∷ 6 ∷ 8 ∷ 1 ∷ [])) four)
    × (push (recorder (store 1 8 0 None) 0 3 odd None 0 0) four (1 ∷ 2 ∷ []) ≡ left going_on (fired 2 0 1) (over (1 ∷ 2 ∷ [])) four)
    -- pre is 1, and 0
    × (push (waits_with 1 (Some 90) 0 1) four (1 ∷ []) ≡ left going_on (fired_with 1 2 1 1) (over (90 ∷ 1 ∷ [])) four)
    × (push (waits_with 1 (Some 90) 0 1) four (2 ∷ 4 ∷ 1 ∷ []) ≡ left going_on (fired_with 1 2 1 1) (over (4 ∷ 1 ∷ [])) four)
    × (push (waits_with 0 (Some 90) 0 0) four (2 ∷ 4 ∷ 1 ∷ 6 ∷ []) ≡ left going_on (fired_with 0 2 0 1) (over (1 ∷ 6 ∷ [])) four)
unfolding level_short sample_of list_from matches fires first_fire last_of place_after ring_bytes plan left_of
firing_push = (refl, refl, refl, refl, refl, refl, refl, refl, refl, refl, refl, refl, refl, refl, refl, refl)

-- unit 2: the ring holds the samples 92 93 and 90 91, in this order
abbrev wrapped2 : Recorder
wrapped2 = waits2 2 1 2

abbrev fired2 : ℕ → ℕ → Recorder
fired2 len v = recorder (store 2 4 len (Some 2)) 0 2 unarmed (Some v) 0 0

pub firing_push_2 :
    (push wrapped2 six (1 ∷ 0 ∷ 2 ∷ 0 ∷ 9 ∷ []) ≡ left going_on (fired2 4 1) (92 ∷ 93 ∷ 90 ∷ 91 ∷ 1 ∷ 0 ∷ 2 ∷ 0 ∷ []) six)
    × (push wrapped2 six (4 ∷ 0 ∷ 1 ∷ 2 ∷ 9 ∷ []) ≡ left going_on (fired2 3 513) (over (90 ∷ 91 ∷ 4 ∷ 0 ∷ 1 ∷ 2 ∷ [])) six)
    × (push wrapped2 six (4 ∷ 0 ∷ 6 ∷ 0 ∷ 8 ∷ 0 ∷ 1 ∷ 2 ∷ []) ≡ left going_on (fired2 3 513) (over (6 ∷ 0 ∷ 8 ∷ 0 ∷ 1 ∷ 2 ∷ [])) six)
unfolding level_short sample_of list_from matches fires first_fire last_of place_after ring_bytes plan left_of
firing_push_2 = (refl, refl, refl)

-- ---- "Limit above 0 keeps the run's first limit samples"; "complete exactly when the recorder is unarmed, limit is above 0 and len = limit"
abbrev limits : ℕ → Recorder
limits limit = recorder (store 1 8 0 None) limit 3 rises (Some 90) 1 3

abbrev fired_within : ℕ → ℕ → Recorder
fired_within limit len = recorder (store 1 8 len (Some 3)) limit 3 unarmed (Some 1) 0 0

pub limited :
    (room_for 0 5 9 ≡ 9)
    × (room_for 7 5 1 ≡ 1)
    × (room_for 7 5 2 ≡ 2)
    × (room_for 7 5 3 ≡ 2)
    × (room_for 5 5 3 ≡ 0)
    × (room_for 1 0 3 ≡ 1)
    × (reply_of unarmed 0 0 ≡ going_on)
    × (reply_of unarmed 4 3 ≡ going_on)
    × (reply_of unarmed 4 4 ≡ complete)
    × (reply_of unarmed 4 5 ≡ going_on)
    × (reply_of unarmed 1 1 ≡ complete)
    × (reply_of rises 4 4 ≡ going_on)
    × (reply_of rises 0 0 ≡ going_on)
    -- a run of six: more room, as much, less
    × (push (limits 7) four (1 ∷ 2 ∷ 3 ∷ []) ≡ left going_on (fired_within 7 6) (over (91 ∷ 92 ∷ 90 ∷ 1 ∷ 2 ∷ 3 ∷ [])) four)
    × (push (limits 6) four (1 ∷ 2 ∷ 3 ∷ []) ≡ left complete (fired_within 6 6) (over (91 ∷ 92 ∷ 90 ∷ 1 ∷ 2 ∷ 3 ∷ [])) four)
    × (push (limits 5) four (1 ∷ 2 ∷ 3 ∷ []) ≡ left complete (fired_within 5 5) (over (91 ∷ 92 ∷ 90 ∷ 1 ∷ 2 ∷ [])) four)
unfolding level_short sample_of list_from matches fires first_fire last_of place_after ring_bytes plan left_of
limited = (refl, refl, refl, refl, refl, refl, refl, refl, refl, refl, refl, refl, refl, refl, refl, refl)

-- records that no list makes: pre is above limit; samples are stored, and there is a mark, while it waits; two samples are kept, and the ring place is 0
abbrev waits_behind : ℕ → Option ℕ → ℕ → Recorder
waits_behind len mark limit = recorder (store 1 8 len mark) limit 3 rises (Some 90) 1 3

pub no_list_makes :
    (push (limits 2) four (1 ∷ 2 ∷ 3 ∷ []) ≡ left complete (fired_within 2 2) (over (91 ∷ 92 ∷ [])) four)
    × (push (waits_behind 1 (Some 1) 5) four (1 ∷ 2 ∷ 3 ∷ []) ≡ left complete (fired_within 5 5) (over (80 ∷ 91 ∷ 92 ∷ 90 ∷ 1 ∷ [])) four)
    × (push (waits_behind 2 None 2) four (1 ∷ 2 ∷ 3 ∷ []) ≡ left complete (fired_within 2 2) eight four)
    × ((plan (waits_behind 2 None 2) four (1 ∷ 2 ∷ 3 ∷ [])).recorder ≡ fired_within 2 2)
    × (push (waits (Some 92) 0 2) four (1 ∷ []) ≡ left going_on (fired 3 2 1) (over (91 ∷ 92 ∷ 1 ∷ [])) four)
unfolding level_short sample_of list_from matches fires first_fire last_of place_after ring_bytes plan left_of
no_list_makes = (refl, refl, refl, refl, refl)

-- ---- "a push on an unarmed recorder goes straight to the store"; "unarmed pushes change none of the three"
abbrev straight : ℕ → ℕ → Recorder
straight limit len = recorder (store 1 8 len (Some 1)) limit 3 unarmed (Some 7) 1 2

abbrev straight2 : ℕ → Recorder
straight2 len = recorder (store 2 4 len (Some 0)) 0 2 unarmed (Some 7) 1 2

pub unarmed_push :
    (push (straight 0 2) four (1 ∷ 2 ∷ 3 ∷ []) ≡ left going_on (straight 0 5) (over (80 ∷ 81 ∷ 1 ∷ 2 ∷ 3 ∷ [])) four)
    × (push (straight 0 2) four [] ≡ left going_on (straight 0 2) eight four)
    × (push (recorder (store 1 8 0 None) 0 0 unarmed None 0 0) [] [] ≡ left going_on (recorder (store 1 8 0 None) 0 0 unarmed None 0 0) eight [])
    -- up to the limit and past it, and once it is reached
    × (push (straight 5 2) four (1 ∷ 2 ∷ []) ≡ left going_on (straight 5 4) (over (80 ∷ 81 ∷ 1 ∷ 2 ∷ [])) four)
    × (push (straight 5 2) four (1 ∷ 2 ∷ 3 ∷ []) ≡ left complete (straight 5 5) (over (80 ∷ 81 ∷ 1 ∷ 2 ∷ 3 ∷ [])) four)
    × (push (straight 5 2) four (1 ∷ 2 ∷ 3 ∷ 4 ∷ []) ≡ left complete (straight 5 5) (over (80 ∷ 81 ∷ 1 ∷ 2 ∷ 3 ∷ [])) four)
    × (push (straight 5 5) four (1 ∷ 2 ∷ 3 ∷ 4 ∷ []) ≡ left complete (straight 5 5) eight four)
    × (push (straight 5 5) four [] ≡ left complete (straight 5 5) eight four)
    -- unit 2, and a leftover byte
    × (push (straight2 1) four (1 ∷ 2 ∷ 3 ∷ 4 ∷ 5 ∷ []) ≡ left going_on (straight2 3) (over (80 ∷ 81 ∷ 1 ∷ 2 ∷ 3 ∷ 4 ∷ [])) four)
    × (push (straight2 2) four (1 ∷ 2 ∷ 3 ∷ 4 ∷ 5 ∷ []) ≡ left going_on (straight2 4) (80 ∷ 81 ∷ 82 ∷ 83 ∷ 1 ∷ 2 ∷ 3 ∷ 4 ∷ []) four)
    × (push (straight2 4) four (1 ∷ []) ≡ left going_on (straight2 4) eight four)
unfolding level_short sample_of list_from plan left_of
unarmed_push = (refl, refl, refl, refl, refl, refl, refl, refl, refl, refl, refl)

-- ---- 1, 2 and 8: "A refusal returns its number, the record as given .., all memory unchanged"
-- a run of six in a store of this capacity
abbrev holds : ℕ → ℕ → Recorder
holds capacity limit = recorder (store 1 capacity 0 None) limit 3 rises (Some 90) 1 3

-- more kept than pre
abbrev wrong : Armed → Recorder
wrong armed = recorder (store 1 8 2 None) 0 3 armed (Some 90) 1 4

-- refused with n, and nothing changed
abbrev same : ℕ → Recorder → List ℕ → Left
same n c g = left (refused n) c eight g

abbrev seven : List ℕ
seven = 1 ∷ 2 ∷ 3 ∷ 4 ∷ 5 ∷ 6 ∷ 7 ∷ []

pub refused_push :
    -- 8: "len plus the samples to store > capacity", of a firing push and of an unarmed one; what the limit cuts needs no room
    ((push (holds 6 0) four (1 ∷ 2 ∷ 3 ∷ [])).reply ≡ going_on)
    × (push (holds 5 0) four (1 ∷ 2 ∷ 3 ∷ []) ≡ same 8 (holds 5 0) four)
    × ((push (holds 5 5) four (1 ∷ 2 ∷ 3 ∷ [])).reply ≡ complete)
    × ((push (holds 4 0) four (2 ∷ 4 ∷ 6 ∷ 8 ∷ 1 ∷ [])).reply ≡ going_on)
    × (push (holds 4 0) four (2 ∷ 4 ∷ 6 ∷ 8 ∷ 1 ∷ 3 ∷ []) ≡ same 8 (holds 4 0) four)
    × ((push (holds 4 0) four (2 ∷ 4 ∷ 6 ∷ 8 ∷ 10 ∷ 12 ∷ [])).reply ≡ going_on)
    × (push wrapped2 six (1 ∷ 0 ∷ 2 ∷ 0 ∷ 3 ∷ 0 ∷ []) ≡ same 8 wrapped2 six)
    × (push (straight 0 2) four (1 ∷ 2 ∷ 3 ∷ 4 ∷ 5 ∷ 6 ∷ []) ≡ left going_on (straight 0 8) (80 ∷ 81 ∷ 1 ∷ 2 ∷ 3 ∷ 4 ∷ 5 ∷ 6 ∷ []) four)
    × (push (straight 0 2) four seven ≡ same 8 (straight 0 2) four)
    × ((push (straight 8 2) four seven).reply ≡ complete)
    × (push (straight2 2) four (1 ∷ 2 ∷ 3 ∷ 4 ∷ 5 ∷ 6 ∷ []) ≡ same 8 (straight2 2) four)
    -- 2 before 8: no sample memory; a ring of two bytes where three are needed
    × (left_of (straight 0 2) no_memory eight four seven ≡ same 2 (straight 0 2) four)
    × (push (straight 0 2) (90 ∷ 91 ∷ []) seven ≡ same 2 (straight 0 2) (90 ∷ 91 ∷ []))
    × (push (holds 5 0) (90 ∷ 91 ∷ []) (1 ∷ 2 ∷ 3 ∷ []) ≡ same 2 (holds 5 0) (90 ∷ 91 ∷ []))
    × (push (waits None 0 0) (90 ∷ 91 ∷ []) (2 ∷ []) ≡ same 2 (waits None 0 0) (90 ∷ 91 ∷ []))
    -- 1 before both
    × (left_of (wrong unarmed) no_memory eight (90 ∷ 91 ∷ []) seven ≡ same 1 (wrong unarmed) (90 ∷ 91 ∷ []))
    × (left_of (wrong rises) no_memory eight (90 ∷ 91 ∷ []) seven ≡ same 1 (wrong rises) (90 ∷ 91 ∷ []))
    × (push (wrong rises) four (2 ∷ []) ≡ same 1 (wrong rises) four)
    -- 1 and 2 alone
    × (recorder_refusal (straight 0 2) enough 3 ≡ 0)
    × (recorder_refusal (straight 0 2) enough 2 ≡ 2)
    × (recorder_refusal (straight 0 2) no_memory 3 ≡ 2)
    × (recorder_refusal (wrong unarmed) no_memory 2 ≡ 1)
unfolding level_short sample_of list_from matches fires first_fire last_of place_after ring_bytes plan left_of
refused_push = (refl, refl, refl, refl, refl, refl, refl, refl, refl, refl, refl, refl, refl, refl, refl, refl, refl, refl, refl, refl, refl, refl)

-- ---- the record that start gives, and its flag
abbrev half : Float
half = fin false 1 (negsuc 0)

abbrev settings : ℕ → ℕ → ℕ → List Term → Pretrigger → ℕ → Settings
settings channels capacity limit terms wish rate = record { channels = channels; capacity = capacity; limit = limit; terms = terms; wish = wish; rate = rate }

abbrev rising0 : List Term
rising0 = record { line = 0; condition = rising } ∷ []

abbrev gives : Recorder → Bool → Answer Begun
gives c flag = given (record { recorder = c; was_cut = flag })

-- the largest capacity, Seconds 1: in unit 2 at the cap, and above it; in unit 1
abbrev largest : ℕ → ℕ → Settings
largest channels rate = settings channels 67108864 0 [] (seconds one) rate

pub started :
    (start_rule (settings 8 8 4 rising0 (fraction half) 0) enough 2 ≡ gives (recorder (store 1 8 0 None) 4 2 rises None 0 0) false)
    × (start_rule (settings 9 4 0 [] (seconds one) 3) enough 6 ≡ gives (recorder (store 2 4 0 None) 0 3 unarmed None 0 0) false)
    × (start_rule (largest 9 33554432) plenty 67108864 ≡ gives (recorder (store 2 67108864 0 None) 0 33554432 unarmed None 0 0) false)
    × (start_rule (largest 9 33554433) plenty 67108864 ≡ gives (recorder (store 2 67108864 0 None) 0 33554432 unarmed None 0 0) true)
    × (start_rule (largest 8 33554433) plenty 67108864 ≡ gives (recorder (store 1 67108864 0 None) 0 33554433 unarmed None 0 0) false)
    -- a refusal gives none
    × (start_rule (settings 9 4 0 [] (seconds one) 3) enough 5 ≡ unless 7 (begun (largest 9 0)))
    × (start_rule (settings 9 4 0 [] (seconds one) 3) no_memory 5 ≡ unless 2 (begun (largest 9 0)))
    × (start_rule (settings 9 0 0 [] (seconds one) 3) no_memory 5 ≡ unless 1 (begun (largest 9 0)))
unfolding level_short line_wrong floor_of nearest_of most_fraction times with_terms both_as_edge mul of_int lt is_nan
started = (refl, refl, refl, refl, refl, refl, refl, refl)

-- ---- what a recorder holds beside its store, once samples were accepted
abbrev rule : ℕ → ℕ → ℕ → ℕ → Armed → Rule
rule unit capacity limit pre armed = record { unit = unit; capacity = capacity; limit = limit; pre = pre; armed = armed }

abbrev beside : Armed → Option ℕ → ℕ → ℕ → Beside
beside armed previous place kept = record { armed = armed; previous = previous; place = place; kept = kept }

abbrev after : ℕ → Armed → List ℕ → Beside
after pre armed xs = beside_of (rule 1 8 0 pre armed) xs

pub besides :
    (beside_in (recorder (store 1 8 6 (Some 5)) 7 4 rises (Some 3) 2 1) ≡ beside rises (Some 3) 2 1)
    -- it waits: k below pre, at pre, above it; pre is 1, and 0
    × (after 3 rises [] ≡ beside rises None 0 0)
    × (after 3 rises (2 ∷ 4 ∷ []) ≡ beside rises (Some 4) 2 2)
    × (after 3 rises (2 ∷ 4 ∷ 6 ∷ []) ≡ beside rises (Some 6) 0 3)
    × (after 3 rises (2 ∷ 4 ∷ 6 ∷ 8 ∷ []) ≡ beside rises (Some 8) 1 3)
    × (after 1 rises (2 ∷ 4 ∷ []) ≡ beside rises (Some 4) 0 1)
    × (after 0 rises (2 ∷ 4 ∷ []) ≡ beside rises (Some 4) 0 0)
    × (after 3 rises (1 ∷ []) ≡ beside rises (Some 1) 1 1)
    -- it has fired: "the firing sample as the previous one", whatever came after it
    × (after 3 rises (2 ∷ 1 ∷ []) ≡ beside unarmed (Some 1) 0 0)
    × (after 3 rises (2 ∷ 4 ∷ 6 ∷ 8 ∷ 5 ∷ 6 ∷ 7 ∷ []) ≡ beside unarmed (Some 5) 0 0)
    × (after 3 odd (1 ∷ 2 ∷ []) ≡ beside unarmed (Some 1) 0 0)
    -- it was never armed
    × (after 3 unarmed (2 ∷ 4 ∷ []) ≡ beside unarmed None 0 0)
    -- what it answers: waiting, fired, never armed
    × (told (rule 1 8 2 1 rises) (2 ∷ 4 ∷ []) ≡ going_on)
    × (told (rule 1 8 3 1 rises) (2 ∷ 4 ∷ 1 ∷ []) ≡ going_on)
    × (told (rule 1 8 2 1 rises) (2 ∷ 4 ∷ 1 ∷ []) ≡ complete)
    × (told (rule 1 8 0 1 rises) (2 ∷ 4 ∷ 1 ∷ []) ≡ going_on)
    × (told (rule 1 8 3 1 unarmed) (2 ∷ 4 ∷ []) ≡ going_on)
    × (told (rule 1 8 2 1 unarmed) (2 ∷ 4 ∷ []) ≡ complete)
    × (told (rule 1 8 2 1 unarmed) (2 ∷ 4 ∷ 6 ∷ []) ≡ complete)
unfolding matches fires first_fire last_of chosen selection
besides = (refl, refl, refl, refl, refl, refl, refl, refl, refl, refl, refl, refl, refl, refl, refl, refl, refl, refl, refl)

-- ---- pushes one after the other leave what the rule of lists says: "each later one gets the record that the push before it returned and the same memory, whole,
-- as that push left it" (01, Lists of pushes)
abbrev then : Left → List ℕ → Left
then x b = left_of x.recorder enough x.samples x.ring b

unfoldable pub last_left : Left → List (List ℕ) → Left
last_left x [] = x
last_left x (b ∷ pushes) = last_left (then x b) pushes

unfoldable pub replies_in : Left → List (List ℕ) → List Reply
replies_in x [] = []
replies_in x (b ∷ pushes) = (then x b).reply ∷ replies_in (then x b) pushes

pub record Held : Type 0 where
  pub replies : List Reply
  pub beside : Beside
  pub run : List ℕ
  pub mark : Option ℕ

abbrev held : List Reply → Beside → List ℕ → Option ℕ → Held
held replies beside run mark = record { replies = replies; beside = beside; run = run; mark = mark }

abbrev stored_in : Left → List ℕ
stored_in x = list_from (sample_of x.recorder.store.unit x.samples) 0 x.recorder.store.len

abbrev held_in : List Reply → Left → Held
held_in replies x = held replies (beside_in x.recorder) (stored_in x) x.recorder.store.mark

abbrev fresh_left : Rule → Left
fresh_left r = left going_on (fresh_recorder r) eight six

abbrev in_turn : Rule → List (List ℕ) → Held
in_turn r pushes = held_in (replies_in (fresh_left r) pushes) (last_left (fresh_left r) pushes)

abbrev by_rule : Rule → List (List ℕ) → Held
by_rule r pushes = held (replies_of r pushes) (beside_of r (accepted r pushes)) (run_of r pushes) (mark_of r pushes)

-- example 13: "limit 4, Fraction 0.5, Rising line 0, pushes 0 0 and 0 1 1: run 0 0 1 1, mark 2, complete"
abbrev rule13 : Rule
rule13 = rule_of (settings 8 8 4 rising0 (fraction half) 0)

-- docs/DECISIONS.md, 10: "Capacity 3, pre 2, Rising on line 0: `0 0 0` is accepted, `1 0 0` gets 8, `1` fires."
abbrev rule10 : Rule
rule10 = rule 1 3 0 2 rises

abbrev pushes10 : List (List ℕ)
pushes10 = (0 ∷ 0 ∷ 0 ∷ []) ∷ (1 ∷ 0 ∷ 0 ∷ []) ∷ (1 ∷ []) ∷ []

-- a ring that wraps twice, a push without samples, the firing one, one that a limit cuts and one more; the same in unit 2, with leftover bytes
abbrev long : List (List ℕ)
long = (1 ∷ 2 ∷ []) ∷ (4 ∷ 6 ∷ 8 ∷ 10 ∷ []) ∷ [] ∷ (12 ∷ 13 ∷ 14 ∷ []) ∷ (16 ∷ 18 ∷ []) ∷ (20 ∷ []) ∷ []

abbrev long2 : List (List ℕ)
long2 =
    (1 ∷ 0 ∷ 9 ∷ [])
    ∷ (2 ∷ 0 ∷ 4 ∷ 1 ∷ 6 ∷ 2 ∷ [])
    ∷ (9 ∷ [])
    ∷ (8 ∷ 0 ∷ 3 ∷ 5 ∷ 10 ∷ 0 ∷ [])
    ∷ (3 ∷ 1 ∷ 5 ∷ 0 ∷ [])
    ∷ (7 ∷ 0 ∷ 9 ∷ [])
    ∷ []

pub in_turn_lem :
    (in_turn rule13 ((0 ∷ 0 ∷ []) ∷ []) ≡ held (going_on ∷ []) (beside rises (Some 0) 0 2) [] None)
    × (in_turn rule13 ((0 ∷ 0 ∷ []) ∷ (0 ∷ 1 ∷ 1 ∷ []) ∷ []) ≡ held (going_on ∷ complete ∷ []) (beside unarmed (Some 1) 0 0) (0 ∷ 0 ∷ 1 ∷ 1 ∷ []) (Some 2))
    × (by_rule rule13 ((0 ∷ 0 ∷ []) ∷ []) ≡ in_turn rule13 ((0 ∷ 0 ∷ []) ∷ []))
    × (by_rule rule13 ((0 ∷ 0 ∷ []) ∷ (0 ∷ 1 ∷ 1 ∷ []) ∷ []) ≡ in_turn rule13 ((0 ∷ 0 ∷ []) ∷ (0 ∷ 1 ∷ 1 ∷ []) ∷ []))
    × (in_turn rule10 (take 1 pushes10) ≡ held (going_on ∷ []) (beside rises (Some 0) 1 2) [] None)
    × (in_turn rule10 (take 2 pushes10) ≡ held (going_on ∷ refused 8 ∷ []) (beside rises (Some 0) 1 2) [] None)
    × (in_turn rule10 pushes10 ≡ held (going_on ∷ refused 8 ∷ going_on ∷ []) (beside unarmed (Some 1) 0 0) (0 ∷ 0 ∷ 1 ∷ []) (Some 2))
    × (by_rule rule10 (take 1 pushes10) ≡ in_turn rule10 (take 1 pushes10))
    × (by_rule rule10 (take 2 pushes10) ≡ in_turn rule10 (take 2 pushes10))
    × (by_rule rule10 pushes10 ≡ in_turn rule10 pushes10)
    -- armed, with a limit and without; pre is 3, 1 and 0; never armed
    × (by_rule (rule 1 8 0 3 rises) (take 2 long) ≡ in_turn (rule 1 8 0 3 rises) (take 2 long))
    × (by_rule (rule 1 8 0 3 rises) (take 4 long) ≡ in_turn (rule 1 8 0 3 rises) (take 4 long))
    × (by_rule (rule 1 8 0 3 rises) long ≡ in_turn (rule 1 8 0 3 rises) long)
    × (by_rule (rule 1 8 6 3 rises) long ≡ in_turn (rule 1 8 6 3 rises) long)
    × (by_rule (rule 1 5 0 1 rises) long ≡ in_turn (rule 1 5 0 1 rises) long)
    × (by_rule (rule 1 2 2 0 rises) long ≡ in_turn (rule 1 2 2 0 rises) long)
    × (by_rule (rule 1 8 0 3 unarmed) long ≡ in_turn (rule 1 8 0 3 unarmed) long)
    × (by_rule (rule 1 8 7 3 unarmed) long ≡ in_turn (rule 1 8 7 3 unarmed) long)
    × (by_rule (rule 2 4 0 2 rises) (take 2 long2) ≡ in_turn (rule 2 4 0 2 rises) (take 2 long2))
    × (by_rule (rule 2 4 0 2 rises) long2 ≡ in_turn (rule 2 4 0 2 rises) long2)
    × (by_rule (rule 2 4 4 3 rises) long2 ≡ in_turn (rule 2 4 4 3 rises) long2)
    × (by_rule (rule 2 4 0 3 unarmed) long2 ≡ in_turn (rule 2 4 0 3 unarmed) long2)
unfolding last_left replies_in level_short floor_of most_fraction times with_terms both_as_edge mul of_int lt sample_of list_from matches fires first_fire last_of chosen selection accepted_from replies_from place_after ring_bytes plan left_of
in_turn_lem = (refl, refl, refl, refl, refl, refl, refl, refl, refl, refl, refl, refl, refl, refl, refl, refl, refl, refl, refl, refl, refl, refl)
