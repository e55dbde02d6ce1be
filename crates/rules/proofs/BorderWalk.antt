-- The borders of the walk, computed: the level that it takes, its steps, and the chunks that it enters. 01: Search; 02: CR 3. Assumes nothing.
use mathlib.Core.Path.{◌≡◌, refl}
use mathlib.Core.Bool.{cond, ◌&&◌}
use Rattle.std.specs.Prelude.{Option, None, Some}
use Prim.Native.Nat.{ℕ, ◌+◌}
use lib.Dec.{ltb, eqb}
use Rattle.rules.specs.Node.{Node, toggles_of, count_of, node_of, leaf, span}
use Rattle.rules.specs.Search.{seek}
use Rattle.rules.specs.Walk.{Walked, through, forward, backward, best, walk, chunks, entered, chunks_for, next_walk, next_entered, previous_walk, previous_entered, all_levels, next_search, previous_search}

-- ---- "the highest level up to a cap .. at which p is a multiple of 32^l and p + 32^l fits the stored part of the chunk"
-- the part ends at hi, or starts at lo; p is the place
abbrev ahead : ℕ → ℕ → ℕ → ℕ
ahead cap hi p = best (λ l. (forward all_levels (λ l p. leaf 0) hi).takes l p) cap

abbrev back : ℕ → ℕ → ℕ → ℕ
back cap lo p = best (λ l. (backward all_levels (λ l p. leaf 0) lo).takes l p) cap

pub level_ahead :
    -- 31, 32 and 33 samples left, and the same of each level
    (ahead 4 31 0 ≡ 0)
    × (ahead 4 32 0 ≡ 1)
    × (ahead 4 33 0 ≡ 1)
    × (ahead 4 1023 0 ≡ 1)
    × (ahead 4 1024 0 ≡ 2)
    × (ahead 4 1025 0 ≡ 2)
    × (ahead 4 32767 0 ≡ 2)
    × (ahead 4 32768 0 ≡ 3)
    × (ahead 4 1048575 0 ≡ 3)
    × (ahead 4 1048576 0 ≡ 4)
    -- p is no multiple
    × (ahead 4 63 32 ≡ 0)
    × (ahead 4 64 32 ≡ 1)
    × (ahead 4 99 33 ≡ 0)
    × (ahead 4 2048 32 ≡ 1)
    × (ahead 4 2048 1024 ≡ 2)
    -- the cap
    × (ahead 3 1048576 0 ≡ 3)
    × (ahead 1 1048576 0 ≡ 1)
    × (ahead 0 1048576 0 ≡ 0)
    -- a level that is not there
    × (best (λ l. (forward (λ l. eqb l 2) (λ l p. leaf 0) 1023).takes l 0) 4 ≡ 0)
    × (best (λ l. (forward (λ l. eqb l 2) (λ l p. leaf 0) 1024).takes l 0) 4 ≡ 2)
unfolding best
level_ahead = (refl, refl, refl, refl, refl, refl, refl, refl, refl, refl, refl, refl, refl, refl, refl, refl, refl, refl, refl, refl)

-- "Backward is the mirror": in the first chunk and in the second
pub level_back :
    (back 4 0 31 ≡ 0)
    × (back 4 0 32 ≡ 1)
    × (back 4 0 33 ≡ 0)
    × (back 4 0 1024 ≡ 2)
    × (back 4 0 1056 ≡ 1)
    × (back 4 0 1048576 ≡ 4)
    × (back 3 0 1048576 ≡ 3)
    × (back 4 1048576 1048607 ≡ 0)
    × (back 4 1048576 1048608 ≡ 1)
    × (back 4 1048576 1049600 ≡ 2)
    × (back 4 1048576 2097152 ≡ 4)
    × (best (λ l. (backward (λ l. eqb l 2) (λ l p. leaf 0) 0).takes l 32) 4 ≡ 0)
    × (best (λ l. (backward (λ l. eqb l 2) (λ l p. leaf 0) 0).takes l 1024) 4 ≡ 2)
unfolding best
level_back = (refl, refl, refl, refl, refl, refl, refl, refl, refl, refl, refl, refl, refl)

-- ---- steps over nodes of a run whose one change is at place c, worked out without the run, so that it may be long
abbrev lone : ℕ → ℕ → ℕ → Node
lone c l p = record { first = cond (ltb p c) 0 1; last = cond (ltb (p + span l) (c + 1)) 0 1; toggles = cond (ltb p c && ltb c (p + span l)) 1 0; count = 0 }

abbrev never : ℕ
never = 999999999

abbrev steps : Option ℕ → ℕ → Walked
steps found n = record { found = found; steps = n }

abbrev next : ℕ → ℕ → ℕ → Walked
next c len from = next_walk all_levels (lone c) len 1 from

abbrev previous : ℕ → ℕ → ℕ → Walked
previous c len from = previous_walk all_levels (lone c) len 1 from

pub steps_ahead :
    -- samples up to a border of 32, nodes, and samples again; the sample that the walk starts from is not counted
    (next never 32 30 ≡ steps None 1)
    × (next never 63 0 ≡ steps None 62)
    × (next never 64 0 ≡ steps None 32)
    × (next never 65 0 ≡ steps None 33)
    × (next never 64 31 ≡ steps None 1)
    -- a node that is not quiet: inside, or at its first sample; the sample after it
    × (next 40 64 31 ≡ steps (Some 40) 10)
    × (next 63 64 31 ≡ steps (Some 63) 33)
    × (next 32 64 31 ≡ steps (Some 32) 2)
    × (next 64 65 31 ≡ steps (Some 64) 2)
    × (next 1064 2048 1023 ≡ steps (Some 1064) 12)
    -- no place to look at
    × (next never 32 31 ≡ steps None 0)
    × (next never 32 32 ≡ steps None 0)
    × (next never 0 0 ≡ steps None 0)
    × (next never 32 18446744073709551615 ≡ steps None 0)
    -- over chunks; a change between two
    × (next never 1048576 0 ≡ steps None 124)
    × (next never 3145728 0 ≡ steps None 126)
    × (next never 2097157 0 ≡ steps None 130)
    × (next never 2097152 1048575 ≡ steps None 1)
    × (next never 2097152 1048574 ≡ steps None 2)
    × (next 1048576 2097152 1048574 ≡ steps (Some 1048576) 6)
    × (next 1048581 1048676 0 ≡ steps (Some 1048581) 131)
unfolding best walk chunks
steps_ahead = (refl, refl, refl, refl, refl, refl, refl, refl, refl, refl, refl, refl, refl, refl, refl, refl, refl, refl, refl, refl, refl)

pub steps_back :
    (previous never 33 32 ≡ steps None 1)
    × (previous never 34 33 ≡ steps None 2)
    × (previous never 32 31 ≡ steps None 31)
    × (previous never 32 99 ≡ steps None 31)
    × (previous 20 33 32 ≡ steps (Some 20) 14)
    × (previous 1 33 32 ≡ steps (Some 1) 33)
    × (previous 32 33 32 ≡ steps (Some 32) 2)
    × (previous 984 2048 1024 ≡ steps (Some 984) 12)
    × (previous never 33 1 ≡ steps None 1)
    -- no place to look at
    × (previous never 33 0 ≡ steps None 0)
    × (previous never 0 99 ≡ steps None 0)
    -- over chunks: "an earlier chunk is entered at its length"
    × (previous never 3145728 2097153 ≡ steps None 3)
    × (previous never 1048582 18446744073709551615 ≡ steps None 6)
    × (previous never 2097152 1048608 ≡ steps None 2)
    × (previous never 2097152 1048576 ≡ steps None 1)
    × (previous 1048576 2097152 1048581 ≡ steps (Some 1048576) 10)
    × (previous 1048575 2097152 1048576 ≡ steps (Some 1048575) 6)
    × (previous 3 2097152 1048581 ≡ steps (Some 3) 132)
unfolding best walk chunks
steps_back = (refl, refl, refl, refl, refl, refl, refl, refl, refl, refl, refl, refl, refl, refl, refl, refl, refl, refl)

-- ---- the cap, which nodes that are not a run's show: a toggle in every node of level m, and in no sample
abbrev false_at : ℕ → ℕ → ℕ → Node
false_at m l p = record { first = 0; last = 0; toggles = cond (eqb l m) 1 0; count = 0 }

-- "a higher level lowers the cap to l − 1", for the rest of the chunk; "4 at each chunk"; level 0 and samples of the run alone
pub cap_lowered :
    (next_walk all_levels (false_at 1) 96 1 31 ≡ steps None 65)
    × (next_walk all_levels (false_at 4) 3145728 1 1048575 ≡ steps None 66)
    × (previous_walk all_levels (false_at 1) 96 1 64 ≡ steps None 65)
    × (previous_walk all_levels (false_at 4) 3145728 1 2097152 ≡ steps None 66)
    × (next_walk all_levels (false_at 1) 96 2 31 ≡ steps None 2)
unfolding best walk chunks
cap_lowered = (refl, refl, refl, refl, refl)

-- the end of a node that is looked at, and the one that stands for the value before: at level 1 first and last differ, and nothing inside
abbrev torn : ℕ → ℕ → ℕ → ℕ → Node
torn first last l p = record { first = cond (eqb l 0) 0 first; last = cond (eqb l 0) 0 last; toggles = 0; count = 0 }

pub ends_of_nodes :
    (next_walk all_levels (torn 0 1) 65 1 31 ≡ steps (Some 64) 2)
    × (next_walk all_levels (torn 1 0) 65 1 31 ≡ steps None 34)
    × (previous_walk all_levels (torn 1 0) 66 1 64 ≡ steps (Some 32) 3)
    × (previous_walk all_levels (torn 0 1) 66 1 64 ≡ steps None 65)
unfolding best walk chunks
ends_of_nodes = (refl, refl, refl, refl)

-- ---- chunks entered
abbrev next_in : ℕ → ℕ → ℕ → ℕ
next_in c len from = next_entered all_levels (lone c) len 1 from

abbrev previous_in : ℕ → ℕ → ℕ → ℕ
previous_in c len from = previous_entered all_levels (lone c) len 1 from

pub chunks_entered :
    (chunks_for 0 ≡ 0)
    × (chunks_for 1 ≡ 1)
    × (chunks_for 1048576 ≡ 1)
    × (chunks_for 1048577 ≡ 2)
    × (next_in never 3145728 0 ≡ 3)
    × (next_in never 1048577 0 ≡ 2)
    × (next_in never 1048576 0 ≡ 1)
    × (next_in 1048575 3145728 0 ≡ 1)
    × (next_in 1048576 3145728 0 ≡ 2)
    × (next_in never 2097152 1048574 ≡ 2)
    × (next_in never 2097152 1048575 ≡ 1)
    × (next_in never 32 31 ≡ 0)
    × (next_in never 0 0 ≡ 0)
    × (previous_in never 3145728 2097153 ≡ 3)
    × (previous_in never 3145728 2097152 ≡ 2)
    × (previous_in never 3145728 18446744073709551615 ≡ 3)
    × (previous_in 2097153 3145728 2097153 ≡ 1)
    × (previous_in 2097152 3145728 2097153 ≡ 2)
    × (previous_in never 33 1 ≡ 1)
    × (previous_in never 33 0 ≡ 0)
    × (previous_in never 0 99 ≡ 0)
unfolding best walk entered
chunks_entered = (refl, refl, refl, refl, refl, refl, refl, refl, refl, refl, refl, refl, refl, refl, refl, refl, refl, refl, refl, refl, refl)

-- ---- over the run itself; a find seen through a function keeps its count
abbrev since : ℕ → ℕ → ℕ
since c i = cond (ltb i c) 0 1

pub steps_run :
    (next_search (since 40) 64 1 31 ≡ steps (Some 40) 10)
    × (next_search (since 40) 64 2 31 ≡ steps None 1)
    × (next_search (since 40) 64 1 63 ≡ steps None 0)
    × (previous_search (since 20) 33 1 32 ≡ steps (Some 20) 14)
    × (previous_search (since 20) 33 2 99 ≡ steps None 1)
    × (previous_search (since 20) 33 1 0 ≡ steps None 0)
    × (previous_search (since 20) 0 1 9 ≡ steps None 0)
    × (through (λ found. Some 7) (steps (Some 3) 5) ≡ steps (Some 7) 5)
unfolding toggles_of count_of node_of seek best walk chunks
steps_run = (refl, refl, refl, refl, refl, refl, refl, refl)
