-- The theorems about burst_at. All that is known of the call is what its contract promises: `Post` of its generated `Reads`.
-- Where levels are right the answer is 01's burst, and its count that of 01's walks over the run; whatever memory holds, neither end jumps more often
-- than the budget.
use Prim.Native.Nat.{ℕ}
use mathlib.Core.Path.{◌≡◌, sym, ap, ap₂, ◌∙◌}
use mathlib.Core.List.{List}
use Rattle.std.specs.Prelude.{Some, Result}
use contract.Lifetimes.{Lfts}
use Rattle.rules.specs.Sample.{sample_of}
use Rattle.rules.specs.Answer.{given, unless}
use Rattle.rules.specs.Burst as rule
use Rattle.rules.specs.Burst.{bursted_by, burst_search}
use Rattle.rules.specs.Refusal.{store_refusal}
use Rattle.rules.specs.Walk as walk
use Rattle.rules.specs.Walk.{Walked, all_levels, next_search, previous_search}
use Rattle.rules.proofs.Found.{TrueNodes}
use Rattle.rules.proofs.Steps.{next_searched, previous_searched}
use Rattle.answer.specs.declared.Counted.{Counted}
use Rattle.answer.specs.declared.Refusal.{Refusal}
use Rattle.node.specs.Memory.{reader_of, Right}
use Rattle.node.specs.Lent.{levels_of}
use Rattle.node.specs.declared.Memory.{Memory}
use Rattle.node.proofs.NodeMemory.{right_true}
use Rattle.capture.specs.declared.Capture.{Capture}
use Rattle.capture.specs.Record.{store_of, lent_in}
use Rattle.capture.proofs.Answer.{unless_given}
use Rattle.burst.specs.declared.Burst.{Burst}
use Rattle.burst.specs.Answer.{burst_as, burst_of, back, fore}
use Rattle.burst.proofs.Grown.{Within, burst_within}
use Rattle.burst.proofs.burst_at.Reads as burst-at

-- where levels are right, the two searches are 01's, with their counts
module _ (unit len : ℕ) (samples : List ℕ) (levels : ℕ → List ℕ) (mask : ℕ) (right : Right (sample_of unit samples) len levels) where
  nodes : TrueNodes all_levels (reader_of unit samples levels) (sample_of unit samples) len
  nodes = right_true unit samples levels len right

  pub back_right : back unit len samples levels mask ≡ previous_search (sample_of unit samples) len mask
  back_right = λ i from. previous_searched (reader_of unit samples levels) (sample_of unit samples) len mask nodes from i

  pub fore_right : fore unit len samples levels mask ≡ next_search (sample_of unit samples) len mask
  fore_right = λ i from. next_searched (reader_of unit samples levels) (sample_of unit samples) len mask nodes from i

-- a call with these arguments, and its answer r. The references are whatever the caller lent
module _ (κs : Lfts 1) (c : Capture) (memory : Memory) (mask sample gap tolerance budget : ℕ) (r : Result (Counted Burst) Refusal) where
  abbrev pub levels : ℕ → List ℕ
  levels = levels_of memory.levels

  abbrev pub s : ℕ → ℕ
  s = sample_of c.unitsize memory.samples.now

  abbrev pub BurstAnswered : Type 0
  BurstAnswered = burst-at.Post κs (c, (memory, (mask, (sample, (gap, (tolerance, (budget, tt))))))) r (c, (memory, (mask, (sample, (gap, (tolerance, (budget, tt)))))))

  -- rows 1 and 2, as the call checks them
  abbrev pub rows : ℕ
  rows = store_refusal (store_of c) (lent_in memory)

  -- where levels are right, the answer is 01's
  pub burst_right : BurstAnswered → Right s c.len levels → burst_as r ≡ unless rows (burst_search s c.len mask sample gap tolerance budget)
  unfolding burst_of
  burst_right p h =
      p ∙ ap (unless {A = walk.Counted rule.Burst} rows) (ap₂ (λ (b f : ℕ → Walked). bursted_by b f c.len sample gap tolerance budget) (back_right c.unitsize c.len memory.samples.now levels mask h) (fore_right c.unitsize c.len memory.samples.now levels mask h))

  -- whatever memory holds
  pub jumps_within : BurstAnswered → (b : rule.Burst) (n : ℕ) → burst_as r ≡ given (record { found = Some b; steps = n }) → Within budget b
  unfolding burst_of
  jumps_within p b n e = burst_within (back c.unitsize c.len memory.samples.now levels mask) (fore c.unitsize c.len memory.samples.now levels mask) c.len sample gap tolerance budget b (ap (λ (x : walk.Counted rule.Burst). x.found) (unless_given _ rows _ (sym p ∙ e)).1)
