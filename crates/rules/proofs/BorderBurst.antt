-- The borders of bursts, computed: the pair, its two sides, the jumps at either end, and the nodes read. 01: Burst and render; 02: CR 3. Assumes nothing.
use mathlib.Core.Path.{◌≡◌, refl}
use mathlib.Core.Bool.{cond}
use mathlib.Core.List.{List, [], ◌∷◌}
use Rattle.std.specs.Prelude.{Option, None, Some}
use Prim.Native.Nat.{ℕ}
use lib.Bits.{bit_xor}
use lib.Dec.{ltb}
use Rattle.rules.specs.Node.{toggles_of, count_of, node_of}
use Rattle.rules.specs.Search.{seek}
use Rattle.rules.specs.Walk.{Counted, best, walk, chunks}
use Rattle.rules.specs.Burst.{sum, Burst, jump, last_end, first_end, burst_by, jump_steps, steps_by, bursted_by, burst, burst_search}

-- one line, which changes at the places of a list
abbrev pub turning : List ℕ → ℕ → ℕ
turning [] i = 0
turning (c ∷ cs) i = bit_xor (cond (ltb i c) 0 1) (turning cs i)

-- of 20 samples: at a place, with a gap, a tolerance and a budget
abbrev burst_at : List ℕ → ℕ → ℕ → ℕ → ℕ → Option Burst
burst_at cs sample gap tolerance budget = (burst_search (turning cs) 20 1 sample gap tolerance budget).found

abbrev is : ℕ → ℕ → ℕ → ℕ → Option Burst
is first last jumps_end jumps_start = Some (record { first = first; last = last; jumps_end = jumps_end; jumps_start = jumps_start })

pub pairs :
    -- "if both exist and n − p < max_gap, the pair is (p,n)": gap, and gap − 1; the place itself may change; before a side that is nearer
    (burst_at (2 ∷ 6 ∷ []) 3 4 0 0 ≡ None)
    × (burst_at (2 ∷ 6 ∷ []) 3 5 0 0 ≡ is 2 6 0 0)
    × (burst_at (2 ∷ 6 ∷ []) 2 5 0 0 ≡ is 2 6 0 0)
    × (burst_at (1 ∷ 2 ∷ 6 ∷ []) 3 5 9 0 ≡ is 2 6 0 0)
    -- "sample − p ≤ tolerance and their gap is below max_gap": distance, then gap
    × (burst_at (2 ∷ 5 ∷ []) 8 4 3 0 ≡ is 2 5 0 0)
    × (burst_at (2 ∷ 5 ∷ []) 8 4 2 0 ≡ None)
    × (burst_at (2 ∷ 5 ∷ []) 6 4 9 0 ≡ is 2 5 0 0)
    × (burst_at (2 ∷ 5 ∷ []) 6 3 9 0 ≡ None)
    × (burst_at (2 ∷ 6 ∷ []) 6 5 0 0 ≡ is 2 6 0 0)
    -- "right likewise from n"
    × (burst_at (9 ∷ 12 ∷ []) 6 4 3 0 ≡ is 9 12 0 0)
    × (burst_at (9 ∷ 12 ∷ []) 6 4 2 0 ≡ None)
    × (burst_at (9 ∷ 12 ∷ []) 8 4 9 0 ≡ is 9 12 0 0)
    × (burst_at (9 ∷ 12 ∷ []) 8 3 9 0 ≡ None)
    -- "tolerance becomes min(tolerance, max_gap − 1)"
    × (burst_at (4 ∷ 5 ∷ []) 8 4 99 0 ≡ is 4 5 0 0)
    × (burst_at (4 ∷ 5 ∷ []) 9 4 99 0 ≡ None)
    × (burst_at (9 ∷ 10 ∷ []) 6 4 99 0 ≡ is 9 10 0 0)
    × (burst_at (9 ∷ 10 ∷ []) 5 4 99 0 ≡ None)
    -- "The nearer side wins, left at equal distance": right nearer, equal, left nearer; a side that is none
    × (burst_at (1 ∷ 2 ∷ 7 ∷ 8 ∷ []) 5 4 3 0 ≡ is 7 8 0 0)
    × (burst_at (1 ∷ 2 ∷ 8 ∷ 9 ∷ []) 5 4 3 0 ≡ is 1 2 0 0)
    × (burst_at (2 ∷ 3 ∷ 8 ∷ 9 ∷ []) 5 4 3 0 ≡ is 2 3 0 0)
    × (burst_at (1 ∷ 6 ∷ 11 ∷ 12 ∷ []) 8 4 3 0 ≡ is 11 12 0 0)
    × (burst_at (1 ∷ 2 ∷ 7 ∷ 12 ∷ []) 5 4 3 0 ≡ is 1 2 0 0)
unfolding toggles_of count_of node_of seek jump burst_by jump_steps steps_by best walk chunks
pairs = (refl, refl, refl, refl, refl, refl, refl, refl, refl, refl, refl, refl, refl, refl, refl, refl, refl, refl, refl, refl, refl, refl)

-- where both changes exist and are no pair: the side's gap and its distance, left and right; "with neither side the answer is none"
pub sides :
    (burst_at (2 ∷ 5 ∷ 9 ∷ []) 6 4 3 0 ≡ is 2 5 0 0)
    × (burst_at (1 ∷ 5 ∷ 9 ∷ []) 6 4 3 0 ≡ None)
    × (burst_at (1 ∷ 2 ∷ 9 ∷ []) 5 4 3 0 ≡ is 1 2 0 0)
    × (burst_at (1 ∷ 2 ∷ 9 ∷ []) 5 4 2 0 ≡ None)
    × (burst_at (2 ∷ 6 ∷ 9 ∷ []) 5 4 3 0 ≡ is 6 9 0 0)
    × (burst_at (2 ∷ 6 ∷ 10 ∷ []) 5 4 3 0 ≡ None)
    × (burst_at (2 ∷ 7 ∷ 8 ∷ []) 5 4 2 0 ≡ is 7 8 0 0)
    × (burst_at (2 ∷ 7 ∷ 8 ∷ []) 5 4 1 0 ≡ None)
    × (burst_at [] 5 4 3 0 ≡ None)
    × (burst_at (5 ∷ []) 5 4 3 0 ≡ None)
    × (burst_at (5 ∷ []) 3 4 3 0 ≡ None)
unfolding toggles_of count_of node_of seek jump burst_by jump_steps steps_by best walk chunks
sides = (refl, refl, refl, refl, refl, refl, refl, refl, refl, refl, refl)

abbrev eight : List ℕ
eight = 1 ∷ 2 ∷ 3 ∷ 4 ∷ 5 ∷ 6 ∷ 7 ∷ 8 ∷ []

pub ends :
    -- "last jumps to the furthest change at most last + max_gap − 1": there, one more, one between
    (burst_at (4 ∷ 5 ∷ 8 ∷ []) 4 4 0 9 ≡ is 4 8 1 0)
    × (burst_at (4 ∷ 5 ∷ 9 ∷ []) 4 4 0 9 ≡ is 4 5 0 0)
    × (burst_at (4 ∷ 5 ∷ 6 ∷ 8 ∷ []) 4 4 0 9 ≡ is 4 8 1 0)
    -- "first to the earliest above max(first − max_gap, 0)": first − max_gap is 0 and is 1, for a change at 1; one at 2; below 0; one between
    × (burst_at (1 ∷ 4 ∷ 5 ∷ []) 4 4 0 9 ≡ is 1 5 0 1)
    × (burst_at (1 ∷ 5 ∷ 6 ∷ []) 5 4 0 9 ≡ is 5 6 0 0)
    × (burst_at (2 ∷ 5 ∷ 6 ∷ []) 5 4 0 9 ≡ is 2 6 0 1)
    × (burst_at (1 ∷ 3 ∷ 4 ∷ []) 3 4 0 9 ≡ is 1 4 0 1)
    × (burst_at (1 ∷ 3 ∷ 5 ∷ 6 ∷ []) 5 5 0 9 ≡ is 1 6 0 1)
    -- "up to budget times", at each end: 0, 1, one that runs out, one that is just enough, more; ends of unlike length
    × (burst_at eight 4 2 0 0 ≡ is 4 5 0 0)
    × (burst_at eight 4 2 0 1 ≡ is 3 6 1 1)
    × (burst_at eight 4 2 0 2 ≡ is 2 7 2 2)
    × (burst_at eight 4 2 0 3 ≡ is 1 8 3 3)
    × (burst_at eight 4 2 0 9 ≡ is 1 8 3 3)
    × (burst_at (3 ∷ 4 ∷ 5 ∷ 6 ∷ 7 ∷ 8 ∷ []) 4 2 0 2 ≡ is 3 7 2 1)
    × (burst_at (1 ∷ 2 ∷ 3 ∷ 4 ∷ 5 ∷ 6 ∷ []) 4 2 0 2 ≡ is 2 6 1 2)
unfolding toggles_of count_of node_of seek jump burst_by jump_steps steps_by best walk chunks
ends = (refl, refl, refl, refl, refl, refl, refl, refl, refl, refl, refl, refl, refl, refl, refl)

-- a burst of 0 1 0, and one over searches that always find place 1, by 5 nodes and by 7
abbrev short : ℕ → ℕ → ℕ → ℕ → Option Burst
short sample gap tolerance budget = (burst_search (turning (1 ∷ 2 ∷ [])) 3 1 sample gap tolerance budget).found

abbrev always : ℕ → ℕ → Counted Burst
always len gap = bursted_by (λ p. record { found = Some 1; steps = 5 }) (λ p. record { found = Some 1; steps = 7 }) len 1 gap 3 0

pub limits :
    -- "none if len = 0 or max_gap < 2"
    (always 0 2 ≡ record { found = None; steps = 0 })
    × (always 1 2 ≡ record { found = is 1 1 0 0; steps = 12 })
    × (always 1 1 ≡ record { found = None; steps = 0 })
    × (burst_at (3 ∷ 4 ∷ []) 3 1 0 0 ≡ None)
    × (burst_at (3 ∷ 4 ∷ []) 3 2 0 0 ≡ is 3 4 0 0)
    -- a place past the last sample: only the left side can win
    × (short 5 4 3 1 ≡ is 1 2 0 0)
    × (short 6 4 99 1 ≡ None)
    × (short 18446744073709551615 18446744073709551615 18446744073709551615 0 ≡ is 1 2 0 0)
    -- "sums of places above 2^64 − 1 count as that"
    × (sum 3 4 ≡ 7)
    × (sum 18446744073709551614 1 ≡ 18446744073709551615)
    × (sum 18446744073709551614 2 ≡ 18446744073709551615)
    × (short 1 18446744073709551614 0 1 ≡ is 1 2 0 0)
    × (last_end Some Some 3 9 18446744073709551612 ≡ record { place = 18446744073709551615; jumps = 2 })
    -- a search that finds nothing ends the jumps
    × (last_end (λ p. cond (ltb p 8) (Some 6) None) Some 3 9 5 ≡ record { place = 6; jumps = 1 })
    × (first_end Some (λ p. cond (ltb 2 p) (Some 4) None) 3 9 6 ≡ record { place = 4; jumps = 1 })
unfolding toggles_of count_of node_of seek jump burst_by jump_steps steps_by best walk chunks
limits = (refl, refl, refl, refl, refl, refl, refl, refl, refl, refl, refl, refl, refl, refl, refl)

-- ---- "Burst, also when it finds none, returns the sum over the searches that `burst_at` makes." (02, CR 3)
abbrev reads : List ℕ → ℕ → ℕ → ℕ → ℕ → ℕ
reads cs sample gap tolerance budget = (burst_search (turning cs) 20 1 sample gap tolerance budget).steps

pub nodes_read :
    -- no search at all; two that find nothing
    (reads (3 ∷ 4 ∷ []) 3 1 0 0 ≡ 0)
    × (reads [] 5 4 3 0 ≡ 19)
    -- a pair around the place takes two searches, also where a side is near
    × (reads (2 ∷ 6 ∷ []) 3 5 0 0 ≡ 5)
    × (reads (1 ∷ 2 ∷ 6 ∷ []) 3 5 9 0 ≡ 5)
    -- left: the second change is searched for within the tolerance, and not beyond; also where their gap is too large
    × (reads (2 ∷ 5 ∷ []) 8 4 3 0 ≡ 18)
    × (reads (2 ∷ 5 ∷ []) 8 4 2 0 ≡ 15)
    × (reads (2 ∷ 5 ∷ []) 6 3 9 0 ≡ 18)
    × (reads (4 ∷ 5 ∷ []) 8 4 99 0 ≡ 16)
    × (reads (4 ∷ 5 ∷ []) 9 4 99 0 ≡ 15)
    -- right, and both
    × (reads (9 ∷ 12 ∷ []) 6 4 3 0 ≡ 12)
    × (reads (9 ∷ 12 ∷ []) 6 4 2 0 ≡ 9)
    × (reads (9 ∷ 12 ∷ []) 8 3 9 0 ≡ 12)
    × (reads (9 ∷ 10 ∷ []) 6 4 99 0 ≡ 10)
    × (reads (9 ∷ 10 ∷ []) 5 4 99 0 ≡ 9)
    × (reads (1 ∷ 2 ∷ 8 ∷ 9 ∷ []) 5 4 3 0 ≡ 9)
    -- both exist and are no pair: neither is within the tolerance, left alone, both; n − p is max_gap; the place itself changes
    × (reads (2 ∷ 7 ∷ []) 4 4 1 0 ≡ 6)
    × (reads (2 ∷ 7 ∷ []) 4 4 2 0 ≡ 7)
    × (reads (2 ∷ 7 ∷ []) 4 4 3 0 ≡ 19)
    × (reads (2 ∷ 6 ∷ []) 4 4 1 0 ≡ 5)
    × (reads (2 ∷ 6 ∷ []) 4 4 2 0 ≡ 19)
    × (reads (2 ∷ 6 ∷ []) 6 4 0 0 ≡ 18)
unfolding toggles_of count_of node_of seek jump burst_by jump_steps steps_by best walk chunks
nodes_read = (refl, refl, refl, refl, refl, refl, refl, refl, refl, refl, refl, refl, refl, refl, refl, refl, refl, refl, refl, refl, refl)

-- the ends search from the pair that the burst has, with its gap and tolerance, and not at all where it has none
pub nodes_read_growing :
    (reads (2 ∷ 6 ∷ []) 3 5 0 9 ≡ 12)
    × (reads (2 ∷ 6 ∷ []) 3 4 0 9 ≡ 5)
    × (reads (2 ∷ 5 ∷ []) 8 4 3 9 ≡ 24)
    × (reads (2 ∷ 5 ∷ []) 8 4 2 9 ≡ 15)
    × (reads (2 ∷ 5 ∷ []) 6 3 9 9 ≡ 18)
    × (reads (4 ∷ 5 ∷ []) 8 4 99 9 ≡ 24)
    × (reads (4 ∷ 5 ∷ []) 9 4 99 9 ≡ 15)
    × (reads (9 ∷ 12 ∷ []) 6 4 3 9 ≡ 20)
    × (reads (9 ∷ 12 ∷ []) 6 4 2 9 ≡ 9)
    × (reads (9 ∷ 12 ∷ []) 8 3 9 9 ≡ 12)
    × (reads (9 ∷ 10 ∷ []) 6 4 99 9 ≡ 18)
    × (reads (9 ∷ 10 ∷ []) 5 4 99 9 ≡ 9)
    × (reads (1 ∷ 2 ∷ 8 ∷ 9 ∷ []) 5 4 3 9 ≡ 14)
    × (reads (1 ∷ 2 ∷ 7 ∷ 8 ∷ []) 5 4 3 9 ≡ 16)
    -- jumps: none, one at each end, the last just made, and a last try that fails, at either end
    × (reads eight 4 2 0 0 ≡ 2)
    × (reads eight 4 2 0 1 ≡ 4)
    × (reads eight 4 2 0 3 ≡ 8)
    × (reads eight 4 2 0 9 ≡ 11)
    × (reads (3 ∷ 4 ∷ 5 ∷ 6 ∷ 7 ∷ 8 ∷ []) 4 2 0 2 ≡ 7)
    × (reads (1 ∷ 4 ∷ 5 ∷ []) 4 4 0 9 ≡ 8)
    × (reads (1 ∷ 5 ∷ 6 ∷ []) 5 4 0 9 ≡ 10)
    × (reads (4 ∷ 5 ∷ 8 ∷ []) 4 4 0 9 ≡ 11)
    × (reads (4 ∷ 5 ∷ 9 ∷ []) 4 4 0 9 ≡ 10)
    × (jump_steps (λ p. record { found = None; steps = 4 }) ltb 9 5 ≡ 4)
unfolding toggles_of count_of node_of seek jump burst_by jump_steps steps_by best walk chunks
nodes_read_growing = (refl, refl, refl, refl, refl, refl, refl, refl, refl, refl, refl, refl, refl, refl, refl, refl, refl, refl, refl, refl, refl, refl, refl, refl)

-- the burst without its count is the one that is found
pub burst_found : (s : ℕ → ℕ) (len mask sample gap tolerance budget : ℕ) → burst s len mask sample gap tolerance budget ≡ (burst_search s len mask sample gap tolerance budget).found
burst_found s len mask sample gap tolerance budget = refl
