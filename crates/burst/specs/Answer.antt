-- What burst_at answers, over the nodes that memory holds, and how many of them its searches read. 01: Burst and render. 02: CR 3.
use Rattle.std.specs.Prelude.{Bool, true, false, cond, List, ◌≡◌, ℕ, ◌+◌, ◌*◌, ◌-◌, ltb}
use Rattle.std.specs.Prelude.{Option, None, Some, Result}
use Rattle.std.specs.Option.{option_map}
use Rattle.rules.specs.Answer.{Answer, unless}
use Rattle.rules.specs.Burst as rule
use Rattle.rules.specs.Burst.{places}
use Rattle.rules.specs.Refusal.{store_refusal, most_samples}
use Rattle.rules.specs.Walk as walk
use Rattle.rules.specs.Walk.{Walked, through, next_walk, previous_walk, all_levels}
use Rattle.answer.specs.Answered.{answer_of, counted_of}
use Rattle.answer.specs.declared.Counted.{Counted}
use Rattle.answer.specs.declared.Refusal.{Refusal}
use Rattle.node.specs.Memory.{reader_of}
use Rattle.node.specs.Lent.{levels_of}
use Rattle.capture.specs.declared.Capture.{Capture}
use Rattle.capture.specs.declared.stored.Stored.{Stored}
use Rattle.capture.specs.Record.{store_of, lent_of}
use Rattle.burst.specs.declared.Burst.{Burst}
use Rattle.burst.specs.declared.changes.Changes.{Changes}
use Rattle.burst.specs.declared.changes.End.{End}
use Rattle.burst.specs.declared.pair.Pair.{Pair}

-- what is found, and the nodes read for it
abbrev pub counted : {A : Type 0} → Option A → ℕ → walk.Counted A
counted found steps = record { found = found; steps = steps }

-- the code's burst, pair and end as 01's
abbrev pub as_burst : Burst → rule.Burst
as_burst b = record { first = b.first; last = b.last; jumps_end = b.jumps_end; jumps_start = b.jumps_start }

abbrev pub as_side : Pair → rule.Side
as_side p = record { distance = p.distance; first = p.first; last = p.last }

abbrev pub end_as : End → rule.End
end_as e = record { place = e.place; jumps = e.jumps }

abbrev pub side_as : Option Pair → Option rule.Side
side_as = option_map as_side

abbrev pub sided_as : Counted Pair → walk.Counted rule.Side
sided_as c = through side_as (counted_of c)

abbrev pub bursts_as : Counted Burst → walk.Counted rule.Burst
bursts_as c = through (option_map as_burst) (counted_of c)

-- "Burst, also when it finds none, returns the sum over the searches that `burst_at` makes." (02, CR 3)
abbrev pub burst_as : Result (Counted Burst) Refusal → Answer (walk.Counted rule.Burst)
burst_as = answer_of bursts_as

-- the two searches of a burst, as memory answers them
abbrev pub back : ℕ → ℕ → List ℕ → (ℕ → List ℕ) → ℕ → ℕ → Walked
back unit len samples levels mask from = previous_walk all_levels (reader_of unit samples levels) len mask from

abbrev pub fore : ℕ → ℕ → List ℕ → (ℕ → List ℕ) → ℕ → ℕ → Walked
fore unit len samples levels mask from = next_walk all_levels (reader_of unit samples levels) len mask from

-- of what is stored
abbrev pub back_in : Stored → ℕ → ℕ → Walked
back_in s = back s.unitsize s.len s.memory.samples.now (levels_of s.memory.levels)

abbrev pub fore_in : Stored → ℕ → ℕ → Walked
fore_in s = fore s.unitsize s.len s.memory.samples.now (levels_of s.memory.levels)

-- of the lines that a burst asks for
abbrev pub back_of : Changes → ℕ → Walked
back_of k = back_in k.stored k.mask

abbrev pub fore_of : Changes → ℕ → Walked
fore_of k = fore_in k.stored k.mask

-- the nodes that a search reads at most: it enters 64 chunks, and in each takes a step for each place and five more
abbrev pub most_search : ℕ
most_search = 67109184

-- and an end of a burst, which makes no more jumps than there are places
abbrev pub most_end : ℕ
most_end = most_search * (most_samples + 1)

-- the search for what an end of a burst may jump to, and whether a change lies further out than it; true is the start
abbrev pub reach_of : (ℕ → Walked) → (ℕ → Walked) → ℕ → Bool → ℕ → Walked
reach_of back fore gap start p = cond start fore back (cond start (p - gap) (rule.sum p (gap - 1)))

abbrev pub further_of : Bool → ℕ → ℕ → Bool
further_of true p e = ltb e p
further_of false p e = ltb p e

-- an end is where the jumps lead, and counts the nodes of every try
pub record Jumped (reach : ℕ → Walked) (further : ℕ → ℕ → Bool) (budget from : ℕ) (e : End) : Type 0 where
  pub end_is : end_as e ≡ rule.jump (places reach) further budget from 0
  pub read_is : e.read ≡ rule.jump_steps reach further budget from

-- a change p at distance d, and the one beyond it, if their gap is below the bound; true is left of it
abbrev pub side_at : Bool → ℕ → ℕ → ℕ → Option ℕ → Option rule.Side
side_at start gap d p None = None
side_at start gap d p (Some q) = rule.side_if (ltb (cond start p q - cond start q p) gap) (record { distance = d; first = cond start q p; last = cond start p q })

-- "if both exist and n − p < max_gap, the pair is (p,n)"
abbrev pub between : ℕ → Option ℕ → Option ℕ → Option rule.Side
between gap None n = None
between gap (Some p) None = None
between gap (Some p) (Some n) = rule.side_if (ltb (n - p) gap) (record { distance = 0; first = p; last = n })

-- a side by its nearer change; true is the left one
abbrev pub sided_by : (ℕ → Walked) → (ℕ → Walked) → Bool → ℕ → ℕ → ℕ → Option ℕ → walk.Counted rule.Side
sided_by back fore true gap tolerance sample near = counted (rule.left_of (places back) (places fore) gap tolerance sample near) (rule.left_steps back fore tolerance sample near)
sided_by back fore false gap tolerance sample near = counted (rule.right_of (places back) (places fore) gap tolerance sample near) (rule.right_steps back fore tolerance sample near)

-- the pair to grow from: two searches around the place, then those for the sides
abbrev pub paired_by : (ℕ → Walked) → (ℕ → Walked) → ℕ → ℕ → ℕ → walk.Counted rule.Side
paired_by back fore gap tolerance sample =
    counted (rule.pair_for back fore gap tolerance sample)
    ((back sample).steps + (fore sample).steps + rule.pair_steps back fore gap tolerance sample (back sample).found (fore sample).found)

unfoldable pub burst_of : Capture → List ℕ → (ℕ → List ℕ) → ℕ → ℕ → ℕ → ℕ → ℕ → Answer (walk.Counted rule.Burst)
burst_of c samples levels mask sample gap tolerance budget =
    unless (store_refusal (store_of c) (lent_of samples levels)) (rule.bursted_by (back c.unitsize c.len samples levels mask) (fore c.unitsize c.len samples levels mask) c.len sample gap tolerance budget)
