-- A look at the next few samples of a capture.
use Rattle.std.specs.Prelude.{◌≡◌, Bool, cond, List, ℕ, ◌+◌, ◌%◌, min, ltb, eqb}
use Rattle.std.specs.Prelude.{Some}
use Rattle.rules.specs.Node.{Node, leaf}
use Rattle.rules.specs.Walk.{Walked, nothing}
use Rattle.rules.specs.Sample.{sample_of}
use Rattle.find.specs.Run.{nth_node, Run}
use Rattle.find.specs.Way.{moved, left_in, to_border}

-- samples from p to the next border of a level, 8 at most
abbrev pub few : Bool → ℕ → ℕ
few back p = cond (eqb (p % 32) 0) 0 (min (to_border back p) 8)

-- those that are stored
abbrev pub few_stored : Bool → ℕ → ℕ → ℕ
few_stored back len p = min (few back p) (left_in back 0 len p)

-- samples as nodes
abbrev pub leaf_in : ℕ → List ℕ → ℕ → Node
leaf_in unit samples i = leaf (sample_of unit samples i)

-- the walk to the one after k of them, which is read too
abbrev pub found_after : Bool → ℕ → ℕ → Walked
found_after back p k = record { found = Some (moved back p k); steps = k + 1 }

-- the first of them that is not quiet, found, or nothing
pub record Near (unit len : ℕ) (samples : List ℕ) (back : Bool) (mask p v : ℕ) (answer : Walked) : Type 0 where
  pub count : ℕ
  pub value : ℕ
  pub passed : Run (nth_node back (leaf_in unit samples) p) mask v (few_stored back len p) count value
  pub answer_is : answer ≡ cond (ltb count (few_stored back len p)) (found_after back p count) nothing
