-- The burst over any two searches makes no more jumps than the budget.
use Prim.Native.Nat.{ℕ, ◌-◌, ◌≤◌, min}
use mathlib.Core.Path.{◌≡◌, subst}
use mathlib.Core.Bool.{Bool, true, false, cond, ◌||◌}
use Rattle.std.specs.Prelude.{Option, None, Some}
use Rattle.rules.proofs.Options.{none-ne-some}
use lib.Dec.{ltb, eqb}
use Rattle.rules.specs.Burst.{Side, Burst, places, last_end, first_end, ends, grown, pair_for, burst_by}
use Rattle.rules.specs.Walk.{Walked}
use Rattle.burst.specs.Answer.{reach_of, further_of}
use Rattle.burst.proofs.Jumps.{jumps_most}

-- "each equal to the definition's jumps and at most budget"
pub record Within (budget : ℕ) (b : Burst) : Type 0 where
  pub at_end : b.jumps_end ≤ budget
  pub at_start : b.jumps_start ≤ budget

module _ (back fore : ℕ → Walked) (gap budget : ℕ) where
  grown_within : (side : Option Side) (b : Burst) → grown (places back) (places fore) gap budget side ≡ Some b → Within budget b
  grown_within None b e = absurd (none-ne-some b e)
  grown_within (Some side) b e =
      subst (Within budget) same (record { at_end = jumps_most (places (reach_of back fore gap false)) (further_of false) budget side.last; at_start = jumps_most (places (reach_of back fore gap true)) (further_of true) budget side.first })
    where
      same : ends (places back) (places fore) (last_end (places back) (places fore) gap budget side.last) (first_end (places back) (places fore) gap budget side.first) ≡ b
      same = cc

pub burst_within : (back fore : ℕ → Walked) (len sample gap tolerance budget : ℕ) (b : Burst) → burst_by (places back) (places fore) len sample gap tolerance budget ≡ Some b → Within budget b
unfolding burst_by
burst_within back fore len sample gap tolerance budget b e = go (eqb len 0 || ltb gap 2) e
  where
    go : (t : Bool) → cond t None (grown (places back) (places fore) gap budget (pair_for back fore gap (min tolerance (gap - 1)) sample)) ≡ Some b → Within budget b
    go true x = absurd (none-ne-some b x)
    go false x = grown_within back fore gap budget (pair_for back fore gap (min tolerance (gap - 1)) sample) b x
