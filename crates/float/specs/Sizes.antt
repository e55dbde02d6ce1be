-- How large a number is.
use Rattle.std.specs.Prelude.{ℕ, ◌+◌, ◌-◌, ◌*◌, ◌/◌, ◌^◌, ◌≤◌, ◌<◌, T, Float}
use Rattle.std.specs.Float.Ieee.Positive.{num, den, positive}
use Rattle.std.specs.Float.Ieee.Scale.{finite}

-- |x| < h
pub record Under (h : ℕ) (x : Float) : Type 0 where
  pub number : T (finite x)
  pub small : num x < h * den x

-- 1 ≤ x < 2^53: the bits of x hold its floor
pub record Shiftable (x : Float) : Type 0 where
  pub number : T (positive x)
  pub low : den x ≤ num x
  pub high : num x < 2 ^ 53 * den x

-- the size of x rounded up
abbrev pub ceil_of : Float → ℕ
ceil_of x = (num x + (den x - 1)) / den x
