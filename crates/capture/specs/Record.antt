-- The code's record as 01's store, and the lengths of lent memory.
use Rattle.std.specs.Prelude.{◌≡◌, cond, List, ℕ, ◌≤◌, eqb, length}
use Rattle.std.specs.Prelude.{Option, None, Some}
use Rattle.rules.specs.Sample.{UnitSize}
use Rattle.rules.specs.Refusal.{Store, Lent, most_samples, samples_need, level_need}
use Rattle.node.specs.Memory.{level_of}
use Rattle.node.specs.Lent.{levels_of}
use Rattle.node.specs.declared.Memory.{Memory}
use Rattle.capture.specs.declared.Capture.{Capture}
use Rattle.capture.specs.declared.Sizes.{Sizes}

-- a mark by its two numbers (`rules.specs.Refusal`: `mark_flag`, `mark_place`)
abbrev pub mark_in : ℕ → ℕ → Option ℕ
mark_in flag place = cond (eqb flag 0) None (Some place)

abbrev pub store_of : Capture → Store
store_of c = record { unit = c.unitsize; capacity = c.capacity; len = c.len; mark = c.trigger }

-- lengths of slices, as the code gives them
abbrev pub sizes_as : Sizes → Lent
sizes_as n = record { samples = n.samples; level = level_of n.l1 n.l2 n.l3 n.l4 }

-- the lent slices, levels as a function of the level
abbrev pub lent_of : List ℕ → (ℕ → List ℕ) → Lent
lent_of samples levels = record { samples = length samples; level = λ l. length (levels l) }

abbrev pub lent_in : Memory → Lent
lent_in m = lent_of m.samples.now (levels_of m.levels)

-- the needs of memory can be worked out
pub record Small (c : Capture) : Type 0 where
  pub unit_size : UnitSize c.unitsize
  pub capacity : c.capacity ≤ most_samples

-- the memory that a store needs
pub record Sized (st : Store) (r : Sizes) : Type 0 where
  pub samples : r.samples ≡ samples_need st
  pub l1 : r.l1 ≡ level_need st 1
  pub l2 : r.l2 ≡ level_need st 2
  pub l3 : r.l3 ≡ level_need st 3
  pub l4 : r.l4 ≡ level_need st 4
