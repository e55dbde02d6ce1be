-- Bursts, over any two searches: `back` gives the previous change of a place and `fore` the next. 01: Burst and render.
use Rattle.std.specs.Prelude.{Bool, cond, ◌||◌, ℕ, zero, suc, ◌+◌, ◌-◌, min, ltb, leb, eqb}
use Rattle.std.specs.Prelude.{Option, None, Some}
use Rattle.rules.specs.Search.{next, previous}
use Rattle.rules.specs.Walk.{Counted, Walked, next_search, previous_search}

-- "sums of places above 2^64 − 1 count as that"
abbrev pub most_place : ℕ
most_place = 18446744073709551615

abbrev pub sum : ℕ → ℕ → ℕ
sum a b = min (a + b) most_place

-- "each burst carries the jumps made at its two ends"
pub record Burst : Type 0 where
  pub first : ℕ
  pub last : ℕ
  pub jumps_end : ℕ
  pub jumps_start : ℕ

-- two neighbouring changes, and how far the nearer one is from the place asked
pub record Side : Type 0 where
  pub distance : ℕ
  pub first : ℕ
  pub last : ℕ

abbrev pub side_if : Bool → Side → Option Side
side_if near side = cond near (Some side) None

-- "left is p and the change before it, if sample − p ≤ tolerance and their gap is below max_gap"
abbrev pub left_with : ℕ → ℕ → ℕ → ℕ → Option ℕ → Option Side
left_with gap tolerance sample p None = None
left_with gap tolerance sample p (Some q) =
    cond (leb (sample - p) tolerance) (side_if (ltb (p - q) gap) (record { distance = sample - p; first = q; last = p })) None

-- "right likewise from n"
abbrev pub right_with : ℕ → ℕ → ℕ → ℕ → Option ℕ → Option Side
right_with gap tolerance sample n None = None
right_with gap tolerance sample n (Some r) =
    cond (leb (n - sample) tolerance) (side_if (ltb (r - n) gap) (record { distance = n - sample; first = n; last = r })) None

-- "The nearer side wins, left at equal distance; with neither side the answer is none."
abbrev pub nearer : Option Side → Option Side → Option Side
nearer None r = r
nearer (Some l) None = Some l
nearer (Some l) (Some r) = cond (leb l.distance r.distance) (Some l) (Some r)

-- an end of a burst, and the jumps that led there
pub record End : Type 0 where
  pub place : ℕ
  pub jumps : ℕ

-- "up to budget times": to what `reach` finds, as long as that lies further; a failed try is no jump
abbrev pub jumped : (ℕ → ℕ → Bool) → ℕ → ℕ → Option ℕ → (ℕ → End) → End
jumped further p n None rest = record { place = p; jumps = n }
jumped further p n (Some e) rest = cond (further p e) (rest e) (record { place = p; jumps = n })

unfoldable pub jump : (ℕ → Option ℕ) → (ℕ → ℕ → Bool) → ℕ → ℕ → ℕ → End
jump reach further zero p n = record { place = p; jumps = n }
jump reach further (suc budget) p n = jumped further p n (reach p) (λ e. jump reach further budget e (suc n))

module _ (back fore : ℕ → Option ℕ) where
  abbrev pub left_of : ℕ → ℕ → ℕ → Option ℕ → Option Side
  left_of gap tolerance sample None = None
  left_of gap tolerance sample (Some p) = left_with gap tolerance sample p (back (p - 1))

  abbrev pub right_of : ℕ → ℕ → ℕ → Option ℕ → Option Side
  right_of gap tolerance sample None = None
  right_of gap tolerance sample (Some n) = right_with gap tolerance sample n (fore n)

  abbrev pub sides : ℕ → ℕ → ℕ → Option ℕ → Option ℕ → Option Side
  sides gap tolerance sample p n = nearer (left_of gap tolerance sample p) (right_of gap tolerance sample n)

  -- "if both exist and n − p < max_gap, the pair is (p,n). Otherwise .."
  abbrev pub pair_of : ℕ → ℕ → ℕ → Option ℕ → Option ℕ → Option Side
  pair_of gap tolerance sample None n = sides gap tolerance sample None n
  pair_of gap tolerance sample (Some p) None = sides gap tolerance sample (Some p) None
  pair_of gap tolerance sample (Some p) (Some n) =
      cond (ltb (n - p) gap) (Some (record { distance = 0; first = p; last = n })) (sides gap tolerance sample (Some p) (Some n))

  -- "last jumps to the furthest change at most last + max_gap − 1"
  abbrev pub last_end : ℕ → ℕ → ℕ → End
  last_end gap budget last = jump (λ p. back (sum p (gap - 1))) ltb budget last 0

  -- "first to the earliest above max(first − max_gap, 0)"
  abbrev pub first_end : ℕ → ℕ → ℕ → End
  first_end gap budget first = jump (λ p. fore (p - gap)) (λ p e. ltb e p) budget first 0

  abbrev pub ends : End → End → Burst
  ends l f = record { first = f.place; last = l.place; jumps_end = l.jumps; jumps_start = f.jumps }

  abbrev pub grown : ℕ → ℕ → Option Side → Option Burst
  grown gap budget None = None
  grown gap budget (Some side) = Some (ends (last_end gap budget side.last) (first_end gap budget side.first))

  -- "none if len = 0 or max_gap < 2; tolerance becomes min(tolerance, max_gap − 1)"
  unfoldable pub burst_by : ℕ → ℕ → ℕ → ℕ → ℕ → Option Burst
  burst_by len sample gap tolerance budget =
      cond (eqb len 0 || ltb gap 2) None (grown gap budget (pair_of gap (min tolerance (gap - 1)) sample (back sample) (fore sample)))

-- ---- the nodes that its searches read
-- "Burst, also when it finds none, returns the sum over the searches that `burst_at` makes." (02, CR 3)

-- of the searches that an end makes, the failed last try among them
abbrev pub onward : (ℕ → ℕ → Bool) → ℕ → Option ℕ → (ℕ → ℕ) → ℕ
onward further p None rest = 0
onward further p (Some e) rest = cond (further p e) (rest e) 0

unfoldable pub jump_steps : (ℕ → Walked) → (ℕ → ℕ → Bool) → ℕ → ℕ → ℕ
jump_steps reach further zero p = 0
jump_steps reach further (suc budget) p = (reach p).steps + onward further p (reach p).found (jump_steps reach further budget)

-- what a search finds
abbrev pub places : (ℕ → Walked) → ℕ → Option ℕ
places search from = (search from).found

module _ (back fore : ℕ → Walked) where
  -- a side's second change is searched for only within the tolerance
  abbrev pub left_steps : ℕ → ℕ → Option ℕ → ℕ
  left_steps tolerance sample None = 0
  left_steps tolerance sample (Some p) = cond (leb (sample - p) tolerance) (back (p - 1)).steps 0

  abbrev pub right_steps : ℕ → ℕ → Option ℕ → ℕ
  right_steps tolerance sample None = 0
  right_steps tolerance sample (Some n) = cond (leb (n - sample) tolerance) (fore n).steps 0

  abbrev pub sides_steps : ℕ → ℕ → Option ℕ → Option ℕ → ℕ
  sides_steps tolerance sample p n = left_steps tolerance sample p + right_steps tolerance sample n

  -- none for a pair around the place
  abbrev pub pair_steps : ℕ → ℕ → ℕ → Option ℕ → Option ℕ → ℕ
  pair_steps gap tolerance sample None n = sides_steps tolerance sample None n
  pair_steps gap tolerance sample (Some p) None = sides_steps tolerance sample (Some p) None
  pair_steps gap tolerance sample (Some p) (Some n) = cond (ltb (n - p) gap) 0 (sides_steps tolerance sample (Some p) (Some n))

  abbrev pub grown_steps : ℕ → ℕ → Option Side → ℕ
  grown_steps gap budget None = 0
  grown_steps gap budget (Some side) =
      jump_steps (λ p. back (sum p (gap - 1))) ltb budget side.last + jump_steps (λ p. fore (p - gap)) (λ p e. ltb e p) budget side.first

  abbrev pub pair_for : ℕ → ℕ → ℕ → Option Side
  pair_for gap tolerance sample = pair_of (places back) (places fore) gap tolerance sample (back sample).found (fore sample).found

  unfoldable pub steps_by : ℕ → ℕ → ℕ → ℕ → ℕ → ℕ
  steps_by len sample gap tolerance budget =
      cond (eqb len 0 || ltb gap 2) 0
      ((back sample).steps + (fore sample).steps
      + pair_steps gap (min tolerance (gap - 1)) sample (back sample).found (fore sample).found
      + grown_steps gap budget (pair_for gap (min tolerance (gap - 1)) sample))

  abbrev pub bursted_by : ℕ → ℕ → ℕ → ℕ → ℕ → Counted Burst
  bursted_by len sample gap tolerance budget =
      record { found = burst_by (places back) (places fore) len sample gap tolerance budget; steps = steps_by len sample gap tolerance budget }

-- the burst of a capture
abbrev pub burst : (ℕ → ℕ) → ℕ → ℕ → ℕ → ℕ → ℕ → ℕ → Option Burst
burst s len mask sample gap tolerance budget = burst_by (previous s len mask) (next s len mask) len sample gap tolerance budget

-- and the nodes read for it
abbrev pub burst_search : (ℕ → ℕ) → ℕ → ℕ → ℕ → ℕ → ℕ → ℕ → Counted Burst
burst_search s len mask sample gap tolerance budget = record {
  found = burst s len mask sample gap tolerance budget;
  steps = steps_by (previous_search s len mask) (next_search s len mask) len sample gap tolerance budget;
}
