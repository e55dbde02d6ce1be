-- The cast gives the floor; where that is less than y, something is left.
use Rattle.std.proofs.Common.{◌≡◌, false, ℕ, ◌/◌, ◌^◌, ◌<◌, subst, sym, ◌∙◌, pos, lit≤, arith}
use Rattle.std.proofs.Math.Nat.{le_of_lt}
use lib.Ieee.{binary64, of_int}
use lib.Ieee.Exact.{HasValue}
use lib.Ieee.Positive.{num, den}
use Rattle.float.proofs.Floors.{yes, no, castable, whole_value, cast_is, cast_under, above_minus, below_top}
use Rattle.float.proofs.Ceilings.{nought_le, ceil_whole, ceil_part}
use Rattle.float.proofs.ceiling.Goals as goal
use Rattle.float.proofs.ceiling.Goals.{After-truncating_f64_to_u64-n}

pub truncating_f64_to_u64-n-requires-clause-lower_bound : goal.truncating_f64_to_u64-n-requires-clause-lower_bound
truncating_f64_to_u64-n-requires-clause-lower_bound c = above_minus c.args.y (nought_le c.args.y c.requires.above)

pub truncating_f64_to_u64-n-requires-clause-upper_bound : goal.truncating_f64_to_u64-n-requires-clause-upper_bound
truncating_f64_to_u64-n-requires-clause-upper_bound c = below_top c.args.y (2 ^ 53) (lit≤ tt) c.requires.small

-- the floor, below 2^53, and its value as a float
module _ (c : After-truncating_f64_to_u64-n) where
  abbrev n : ℕ
  n = c.truncating_f64_to_u64-n.result

  low : n < 2 ^ 53
  low = subst (λ (k : ℕ). k < 2 ^ 53) (sym c.truncating_f64_to_u64-n.ensures) (cast_under c.args.y (2 ^ 53) (lit≤ tt) c.requires.small)

  is : n ≡ num c.args.y / den c.args.y
  is = c.truncating_f64_to_u64-n.ensures ∙ cast_is c.args.y (2 ^ 53) (lit≤ tt) c.requires.above c.requires.small

  value : HasValue (of_int binary64 (pos n)) false n 1
  value = whole_value n (le_of_lt low)

pub int_to_float-n : goal.int_to_float-n
int_to_float-n c = let s = (goal.at.int_to_float-n c).After-truncating_f64_to_u64-n in castable (n s) (le_of_lt (low s))

pub overflow_add-result : goal.overflow_add-result
overflow_add-result c = record { fits = omega (arith, low (goal.at.overflow_add-result c).After-truncating_f64_to_u64-n) }

pub returns-then-y-n : goal.returns-then-y-n
returns-then-y-n c = let s = (goal.at.returns-then-y-n c).After-truncating_f64_to_u64-n in sym (ceil_whole c.args.y c.requires.above (n s) (is s) _ (value s) (yes c.if-y-n.true))

pub returns-else-y-n : goal.returns-else-y-n
returns-else-y-n c = let s = (goal.at.returns-else-y-n c).After-truncating_f64_to_u64-n in sym (ceil_part c.args.y c.requires.above (n s) (is s) _ (value s) (no c.if-y-n.false))
