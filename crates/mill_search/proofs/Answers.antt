-- The theorems about a mill's next_change, prev_change and burst_at. All that is known of the calls is what their contracts promise: `Post` of each one's generated `Reads`.
-- Where levels are right the answer is 01's, its places counted from the mark.
use Prim.Native.Nat.{ℕ}
use mathlib.Core.Path.{◌≡◌, ap, ap₂, ◌∙◌}
use mathlib.Core.List.{List}
use lib.IntN.{ℤ}
use contract.Lifetimes.{Lfts}
use Rattle.std.specs.Prelude.{Result}
use Rattle.rules.specs.Sample.{sample_of}
use Rattle.rules.specs.Walk.{Walked, through, next_search, previous_search}
use Rattle.rules.specs.Burst.{bursted_by, burst_search}
use Rattle.rules.specs.Mill.{place_at, shown_place, shown_burst}
use Rattle.answer.specs.declared.Counted.{Counted}
use Rattle.answer.specs.declared.Refusal.{Refusal}
use Rattle.node.specs.Memory.{Right}
use Rattle.node.specs.Lent.{levels_of}
use Rattle.node.specs.declared.Memory.{Memory}
use Rattle.capture.specs.declared.Capture.{Capture}
use Rattle.burst.proofs.Answers.{back_right, fore_right}
use Rattle.mill.specs.Reader.{origin_in}
use Rattle.mill_search.specs.declared.Burst.{Burst}
use Rattle.mill_search.specs.Answer.{found_of, burst_as, asked, change_of, burst_of}
use Rattle.mill_search.proofs.next_change.Reads as next-change
use Rattle.mill_search.proofs.prev_change.Reads as prev-change
use Rattle.mill_search.proofs.burst_at.Reads as burst-at

-- a call with these arguments. The references are whatever the caller lent
module _ (κs : Lfts 1) (c : Capture) (memory : Memory) (grant mask : ℕ) (from : ℤ) where
  abbrev levels : ℕ → List ℕ
  levels = levels_of memory.levels

  abbrev s : ℕ → ℕ
  s = sample_of c.unitsize memory.samples.now

  -- the place of the run
  abbrev i : ℕ
  i = place_at (origin_in c) from

  -- its answer r
  module _ (r : Result (Counted ℤ) Refusal) where
    pub next_right : next-change.Post κs (c, (memory, (grant, (mask, (from, tt))))) r (c, (memory, (grant, (mask, (from, tt)))))
        → Right s c.len levels
        → found_of r ≡ asked c memory.samples.now levels grant mask from (through (shown_place (origin_in c)) (next_search s c.len mask i))
    unfolding change_of
    next_right p h = p ∙ ap (λ (f : ℕ → Walked). asked c memory.samples.now levels grant mask from (through (shown_place (origin_in c)) (f i))) (fore_right c.unitsize c.len memory.samples.now levels mask h)

    pub previous_right : prev-change.Post κs (c, (memory, (grant, (mask, (from, tt))))) r (c, (memory, (grant, (mask, (from, tt)))))
        → Right s c.len levels
        → found_of r ≡ asked c memory.samples.now levels grant mask from (through (shown_place (origin_in c)) (previous_search s c.len mask i))
    unfolding change_of
    previous_right p h = p ∙ ap (λ (f : ℕ → Walked). asked c memory.samples.now levels grant mask from (through (shown_place (origin_in c)) (f i))) (back_right c.unitsize c.len memory.samples.now levels mask h)

  module _ (gap tolerance budget : ℕ) (r : Result (Counted Burst) Refusal) where
    pub burst_right : burst-at.Post κs (c, (memory, (grant, (mask, (from, (gap, (tolerance, (budget, tt)))))))) r (c, (memory, (grant, (mask, (from, (gap, (tolerance, (budget, tt))))))))
        → Right s c.len levels
        → burst_as r ≡ asked c memory.samples.now levels grant mask from (through (shown_burst (origin_in c)) (burst_search s c.len mask i gap tolerance budget))
    unfolding burst_of
    burst_right p h =
        p ∙ ap₂ (λ (b f : ℕ → Walked). asked c memory.samples.now levels grant mask from (through (shown_burst (origin_in c)) (bursted_by b f c.len i gap tolerance budget))) (back_right c.unitsize c.len memory.samples.now levels mask h) (fore_right c.unitsize c.len memory.samples.now levels mask h)
