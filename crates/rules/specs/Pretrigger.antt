-- The samples kept before the trigger. 01: Selection and recorder.
use Rattle.std.specs.Prelude.{Bool, true, false, cond, ℕ, ◌/◌, ltb, pos, Float}
use Rattle.std.specs.Float.{fin, binary64}
use Rattle.std.specs.Float.Ieee.{lt, mul, round, of_int}
use Rattle.rules.specs.Floor.{floor_of, nearest_of, natural}

-- "the pre-trigger wish is either Fraction(p) or Seconds(t)"
pub data Pretrigger : Type 0 where
  fraction seconds : Float → Pretrigger

abbrev pub nought : Float
nought = fin false 0 (pos 0)

abbrev pub one : Float
one = fin false 1 (pos 0)

-- 0.99, the binary64 nearest to 99 / 100
unfoldable pub most_fraction : Float
unfolding round
most_fraction = round binary64 false 99 100

-- "p clamped to 0..0.99", "t clamped to 0..1"
abbrev pub clamp : Float → Float → Float
clamp top p = cond (lt nought p) (cond (lt p top) p top) nought

-- "Both are one binary64 product."
unfoldable pub times : ℕ → Float → Float
times n p = mul binary64 (of_int binary64 (pos n)) p

-- "floor(limit × p), p clamped to 0..0.99"
abbrev pub fraction_of : ℕ → Float → ℕ
fraction_of limit p = natural (floor_of (times limit (clamp most_fraction p)))

-- "t clamped to 0..1, times rate .., rounded with halves away from zero"
abbrev pub seconds_of : ℕ → Float → ℕ
seconds_of rate t = natural (nearest_of (times rate (clamp one t)))

-- the samples kept, and the flag
pub record Pre : Type 0 where
  pub samples : ℕ
  pub was_cut : Bool

-- "at most 67,108,864 / unit"
abbrev pub ring_cap : ℕ → ℕ
ring_cap unit = 67108864 / unit

-- ", and a flag says whether that cut it"
abbrev pub capped : ℕ → ℕ → Pre
capped wanted cap = cond (ltb cap wanted) (record { samples = cap; was_cut = true }) (record { samples = wanted; was_cut = false })

-- "(no under Fraction)"
abbrev pub pre_for : Pretrigger → ℕ → ℕ → ℕ → Pre
pre_for (fraction p) limit rate unit = record { samples = fraction_of limit p; was_cut = false }
pre_for (seconds t) limit rate unit = capped (seconds_of rate t) (ring_cap unit)
