-- A level taken at a place, and a run of its nodes: up to the next border of the level above the walk stays at the level.
use Rattle.std.specs.Prelude.{◌≡◌, Bool, List, ℕ, ◌/◌, min}
use Rattle.rules.specs.Node.{span}
use Rattle.rules.specs.Walk.{Way}
use Rattle.level.specs.Best.{Best}
use Rattle.node.specs.Lent.{levels_of}
use Rattle.find.specs.Part.{reader_from}
use Rattle.find.specs.Run.{node_at, nth_node, Run}
use Rattle.find.specs.Way.{way_in, left_in, to_border, number_in}
use Rattle.find.specs.declared.Taken.{Taken}
use Rattle.find.specs.declared.part.Part.{Part}

-- level l, whose nodes have s samples; n of them are asked and k passed, and the value u stands after these
pub record Takes (back : Bool) (unit base hi : ℕ) (part : List ℕ) (levels : ℕ → List ℕ) (mask pos cap v l s n k u : ℕ) : Type 0 where
  pub best : Best pos (left_in back base hi pos) cap l
  pub span_is : s ≡ span l
  pub asked : n ≡ min (to_border back (pos / s)) (left_in back base hi pos / s)
  pub passed : Run (nth_node back (node_at unit part (levels l) l) (number_in base l s pos)) mask v n k u

-- as the code has it
abbrev pub Took : Part → Bool → ℕ → ℕ → ℕ → ℕ → Taken → Type 0
Took p back mask pos cap v t = Takes back p.unitsize p.base p.hi p.samples.now (levels_of p.levels) mask pos cap v t.l t.s t.n t.count t.value

-- 01's walk over a part
abbrev pub walk_in : Part → Bool → Way
walk_in p back = way_in back (reader_from p.base p.unitsize p.samples.now (levels_of p.levels)) p.base p.hi
