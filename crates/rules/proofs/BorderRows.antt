-- The borders of the rows, computed: for every condition the last input that is let through and the first that is refused, and where several rows refuse the number
-- that is given. 0 is no refusal. 01: Where each number is checked. Start's rows are in BorderStart, a mill's in BorderMill. Assumes nothing.
use mathlib.Core.Path.{◌≡◌, refl}
use mathlib.Core.Bool.{false, true}
use mathlib.Core.List.{List, [], ◌∷◌}
use Rattle.std.specs.Prelude.{Option, None, Some}
use Prim.Native.Nat.{ℕ, suc}
use lib.IntN.{pos}
use lib.ListN.{get_or}
use lib.Ieee.{Float, nan, inf, fin}
use Rattle.rules.specs.Answer.{refused, given, unless, seen}
use Rattle.rules.specs.Trigger.{unarmed}
use Rattle.rules.specs.Refusal.{Store, Lent, Recorder, level_short, copied, store_refusal, append_refusal, get_refusal, samples_refusal, render_refusal}
use Rattle.rules.specs.Sample.{list_from}
use Rattle.rules.specs.Push.{plan, push_refusal}

abbrev pub store : ℕ → ℕ → ℕ → Option ℕ → Store
store unit capacity len mark = record { unit = unit; capacity = capacity; len = len; mark = mark }

-- bytes of samples, and numbers of levels 1 to 4
abbrev pub lent : ℕ → ℕ → ℕ → ℕ → ℕ → Lent
lent samples l1 l2 l3 l4 = record { samples = samples; level = λ l. get_or (0 ∷ l1 ∷ l2 ∷ l3 ∷ l4 ∷ []) l 0 }

-- enough for every store, and nothing
abbrev pub plenty : Lent
plenty = lent 134217728 10485760 327680 10240 320

abbrev pub no_memory : Lent
no_memory = lent 0 0 0 0 0

-- ---- 1: "unit, capacity, len or mark outside the above"
abbrev row1 : ℕ → ℕ → ℕ → Option ℕ → ℕ
row1 unit capacity len mark = store_refusal (store unit capacity len mark) plenty

pub row_1 :
    -- unit
    (row1 0 8 5 None ≡ 1)
    × (row1 1 8 5 None ≡ 0)
    × (row1 2 8 5 None ≡ 0)
    × (row1 3 8 5 None ≡ 1)
    -- "capacity (1 to 67,108,864 samples)"
    × (row1 1 0 0 None ≡ 1)
    × (row1 1 1 0 None ≡ 0)
    × (row1 2 67108864 5 None ≡ 0)
    × (row1 1 67108865 5 None ≡ 1)
    -- len
    × (row1 1 8 8 None ≡ 0)
    × (row1 1 8 9 None ≡ 1)
    -- "mark (absent, or a place at most len)"
    × (row1 1 8 0 None ≡ 0)
    × (row1 1 8 0 (Some 0) ≡ 0)
    × (row1 1 8 0 (Some 1) ≡ 1)
    × (row1 1 8 5 (Some 5) ≡ 0)
    × (row1 1 8 5 (Some 6) ≡ 1)
unfolding level_short
row_1 = (refl, refl, refl, refl, refl, refl, refl, refl, refl, refl, refl, refl, refl, refl, refl)

-- ---- 2: "a lent sample, level or ring slice shorter than needed"
abbrev row2 : ℕ → ℕ → Lent → ℕ
row2 unit capacity memory = store_refusal (store unit capacity 0 None) memory

pub row_2 :
    -- one sample more than a chunk, which needs a node of its own at every level
    (row2 1 1048577 (lent 1048577 163845 5125 165 10) ≡ 0)
    × (row2 1 1048577 (lent 1048576 163845 5125 165 10) ≡ 2)
    × (row2 1 1048577 (lent 1048577 163844 5125 165 10) ≡ 2)
    × (row2 1 1048577 (lent 1048577 163845 5124 165 10) ≡ 2)
    × (row2 1 1048577 (lent 1048577 163845 5125 164 10) ≡ 2)
    × (row2 1 1048577 (lent 1048577 163845 5125 165 9) ≡ 2)
    × (row2 2 1048577 (lent 2097154 163845 5125 165 10) ≡ 0)
    × (row2 2 1048577 (lent 2097153 163845 5125 165 10) ≡ 2)
    × (row2 2 1048577 (lent 2097154 163844 5125 165 10) ≡ 2)
    × (row2 2 1048577 (lent 2097154 163845 5124 165 10) ≡ 2)
    × (row2 2 1048577 (lent 2097154 163845 5125 164 10) ≡ 2)
    × (row2 2 1048577 (lent 2097154 163845 5125 165 9) ≡ 2)
    -- a chunk, which needs whole nodes alone, and one sample
    × (row2 1 1048576 (lent 1048576 163840 5120 160 5) ≡ 0)
    × (row2 1 1 (lent 1 5 5 5 5) ≡ 0)
    × (row2 1 1 (lent 1 5 5 5 4) ≡ 2)
    -- the largest
    × (row2 2 67108864 (lent 134217728 10485760 327680 10240 320) ≡ 0)
    × (row2 2 67108864 (lent 134217727 10485760 327680 10240 320) ≡ 2)
unfolding level_short
row_2 = (refl, refl, refl, refl, refl, refl, refl, refl, refl, refl, refl, refl, refl, refl, refl, refl, refl)

-- ---- 1 and 2 of a push. Rows 1 and 2 of its store are those above
abbrev recorder : Store → ℕ → ℕ → ℕ → ℕ → Recorder
recorder st limit pre place kept = record { store = st; limit = limit; pre = pre; armed = unarmed; previous = None; place = place; kept = kept }

-- 8 samples of capacity, 5 stored
-- n zeros
abbrev zeros : ℕ → List ℕ
zeros n = list_from (λ i. 0) 0 n

-- with so many bytes of ring memory lent, and so many pushed
abbrev push_sized : Recorder → Lent → ℕ → ℕ → ℕ
push_sized r memory ring n = push_refusal r memory (zeros ring) (zeros n)

abbrev push1 : ℕ → ℕ → ℕ → ℕ → ℕ
push1 limit pre place kept = push_sized (recorder (store 1 8 5 None) limit pre place kept) plenty 8 0

abbrev push_on : Store → ℕ
push_on st = push_sized (recorder st 0 0 0 0) plenty 0 0

pub row_1_push :
    -- "limit > capacity"
    (push1 8 0 0 0 ≡ 0)
    × (push1 9 0 0 0 ≡ 1)
    -- "pre ≥ capacity"
    × (push1 0 7 0 0 ≡ 0)
    × (push1 0 8 0 0 ≡ 1)
    -- "kept > pre"
    × (push1 0 3 0 3 ≡ 0)
    × (push1 0 3 0 4 ≡ 1)
    × (push1 0 0 0 1 ≡ 1)
    -- "ring place ≥ pre unless both are 0"
    × (push1 0 3 2 0 ≡ 0)
    × (push1 0 3 3 0 ≡ 1)
    × (push1 0 0 0 0 ≡ 0)
    × (push1 0 0 1 0 ≡ 1)
    -- "len > a nonzero limit"
    × (push1 5 0 0 0 ≡ 0)
    × (push1 4 0 0 0 ≡ 1)
    × (push_on (store 1 8 8 None) ≡ 0)
    -- and what row 1 says of its store
    × (push_on (store 0 8 5 None) ≡ 1)
    × (push_on (store 3 8 5 None) ≡ 1)
    × (push_on (store 1 0 0 None) ≡ 1)
    × (push_on (store 1 67108865 0 None) ≡ 1)
    × (push_on (store 1 8 9 None) ≡ 1)
    × (push_on (store 1 8 5 (Some 5)) ≡ 0)
    × (push_on (store 1 8 5 (Some 6)) ≡ 1)
unfolding level_short list_from plan
row_1_push = (refl, refl, refl, refl, refl, refl, refl, refl, refl, refl, refl, refl, refl, refl, refl, refl, refl, refl, refl, refl, refl)

-- "Ring memory needs pre × unit bytes": 8 samples of capacity, pre is 3
abbrev push2 : ℕ → Lent → ℕ → ℕ
push2 unit memory ring = push_sized (recorder (store unit 8 5 None) 0 3 0 0) memory ring 0

pub row_2_push :
    (push2 1 (lent 8 5 5 5 5) 3 ≡ 0)
    × (push2 1 (lent 7 5 5 5 5) 3 ≡ 2)
    × (push2 1 (lent 8 4 5 5 5) 3 ≡ 2)
    × (push2 1 (lent 8 5 4 5 5) 3 ≡ 2)
    × (push2 1 (lent 8 5 5 4 5) 3 ≡ 2)
    × (push2 1 (lent 8 5 5 5 4) 3 ≡ 2)
    × (push2 1 (lent 8 5 5 5 5) 2 ≡ 2)
    × (push2 2 (lent 16 5 5 5 5) 6 ≡ 0)
    × (push2 2 (lent 15 5 5 5 5) 6 ≡ 2)
    × (push2 2 (lent 16 4 5 5 5) 6 ≡ 2)
    × (push2 2 (lent 16 5 4 5 5) 6 ≡ 2)
    × (push2 2 (lent 16 5 5 4 5) 6 ≡ 2)
    × (push2 2 (lent 16 5 5 5 4) 6 ≡ 2)
    × (push2 2 (lent 16 5 5 5 5) 5 ≡ 2)
unfolding level_short list_from plan
row_2_push = (refl, refl, refl, refl, refl, refl, refl, refl, refl, refl, refl, refl, refl, refl)

-- ---- 8: "len plus the samples to store > capacity"; 9: "i ≥ len". In each call 1 stands before 2, and 2 before these
abbrev five : Store
five = store 1 8 5 None

-- unit 3, and len above capacity
abbrev wrong : Store
wrong = store 3 8 9 None

pub row_8_9 :
    (append_refusal five plenty 3 ≡ 0)
    × (append_refusal five plenty 4 ≡ 8)
    × (append_refusal (store 1 8 8 None) plenty 0 ≡ 0)
    × (append_refusal five no_memory 4 ≡ 2)
    × (append_refusal wrong no_memory 4 ≡ 1)
    × (push_sized (recorder five 0 3 0 0) plenty 3 3 ≡ 0)
    × (push_sized (recorder five 0 3 0 0) plenty 3 4 ≡ 8)
    × (push_sized (recorder five 0 3 0 0) plenty 2 4 ≡ 2)
    × (push_sized (recorder five 0 3 0 0) no_memory 3 4 ≡ 2)
    × (push_sized (recorder five 0 3 0 4) no_memory 2 4 ≡ 1)
    × (push_sized (recorder wrong 0 3 0 0) no_memory 2 4 ≡ 1)
    × (get_refusal five plenty 4 ≡ 0)
    × (get_refusal five plenty 5 ≡ 9)
    × (get_refusal (store 1 8 0 None) plenty 0 ≡ 9)
    × (get_refusal five no_memory 5 ≡ 2)
    × (get_refusal wrong no_memory 9 ≡ 1)
unfolding level_short list_from plan
row_8_9 = (refl, refl, refl, refl, refl, refl, refl, refl, refl, refl, refl, refl, refl, refl, refl, refl)

-- ---- 10: "start or spp infinite or not a number"; 11, render: "width > 65,536 or output under 2 × width"
-- the largest binary64
abbrev pub largest : Float
largest = fin false 9007199254740991 (pos 971)

abbrev draw : Float → Float → ℕ → ℕ → ℕ
draw start spp width output = render_refusal five plenty (record { start = start; spp = spp }) width output

abbrev draw_on : Store → Lent → ℕ
draw_on st memory = render_refusal st memory (record { start = nan; spp = nan }) 65537 0

pub row_10_11 :
    (draw largest largest 1 2 ≡ 0)
    × (draw (inf false) largest 1 2 ≡ 10)
    × (draw (inf true) largest 1 2 ≡ 10)
    × (draw nan largest 1 2 ≡ 10)
    × (draw largest (inf false) 1 2 ≡ 10)
    × (draw largest (inf true) 1 2 ≡ 10)
    × (draw largest nan 1 2 ≡ 10)
    × (draw largest largest 65536 131072 ≡ 0)
    × (draw largest largest 65536 131071 ≡ 11)
    × (draw largest largest 65537 131074 ≡ 11)
    × (draw largest largest 0 0 ≡ 0)
    -- 1 before 2 before 10 before 11
    × (draw_on wrong no_memory ≡ 1)
    × (draw_on five no_memory ≡ 2)
    × (draw_on five plenty ≡ 10)
unfolding level_short
row_10_11 = (refl, refl, refl, refl, refl, refl, refl, refl, refl, refl, refl, refl, refl, refl)

-- ---- 11, samples: "output under the count copied", and that count, "s[start..min(start+count, len)), nothing if that is empty"
abbrev copy : ℕ → ℕ → ℕ → ℕ
copy start n output = samples_refusal five plenty start n output

pub row_11 :
    (copied 5 1 3 ≡ 3)
    × (copied 5 1 4 ≡ 4)
    × (copied 5 1 5 ≡ 4)
    × (copied 5 4 9 ≡ 1)
    × (copied 5 5 9 ≡ 0)
    × (copied 5 6 9 ≡ 0)
    × (copied 5 1 0 ≡ 0)
    × (copied 5 1 18446744073709551615 ≡ 4)
    × (copied 18446744073709551618 18446744073709551613 5 ≡ 2)
    × (copy 1 3 3 ≡ 0)
    × (copy 1 3 2 ≡ 11)
    × (copy 1 9 4 ≡ 0)
    × (copy 1 9 3 ≡ 11)
    × (copy 5 9 0 ≡ 0)
    × (copy 1 0 0 ≡ 0)
    -- 1 before 2 before 11
    × (samples_refusal wrong no_memory 1 9 0 ≡ 1)
    × (samples_refusal five no_memory 1 9 0 ≡ 2)
unfolding level_short
row_11 = (refl, refl, refl, refl, refl, refl, refl, refl, refl, refl, refl, refl, refl, refl, refl, refl, refl)

-- ---- "A refusal returns its number", and f sees what is given
pub answers :
    (unless {A = ℕ} 0 5 ≡ given 5)
    × (unless {A = ℕ} 1 5 ≡ refused 1)
    × (unless {A = ℕ} 13 5 ≡ refused 13)
    × (seen suc (given 5) ≡ given 6)
    × (seen suc (refused 5) ≡ refused 5)
answers = (refl, refl, refl, refl, refl)
