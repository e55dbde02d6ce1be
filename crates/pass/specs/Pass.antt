-- How far quiet nodes reach from a place on, over whatever memory holds: run by run, each of the highest level that fits, as a search takes them.
use Rattle.std.specs.Prelude.{false, cond, List, ℕ, zero, suc, ◌+◌, ◌-◌, ◌*◌, ◌/◌, min, ltb, leb}
use Rattle.rules.specs.Node.{Node, quiet, span, top_level}
use Rattle.rules.specs.Walk.{best}
use Rattle.level.specs.Best.{fits_at}
use Rattle.find.specs.Run.{node_at, nth_node, carried}
use Rattle.find.specs.Way.{to_border, number_in}

-- the first of m nodes from number j on that is not quiet against the value before it, v standing before node 0; the number past them where all are
unfoldable pub quiet_up_to : (ℕ → Node) → ℕ → ℕ → ℕ → ℕ → ℕ
quiet_up_to nodes mask v j zero = j
quiet_up_to nodes mask v j (suc m) = cond (quiet (nodes j) (carried v nodes j) mask) (quiet_up_to nodes mask v (suc j) m) j

module _ (unit base hi : ℕ) (part : List ℕ) (levels : ℕ → List ℕ) (mask : ℕ) where
  -- at place p: the level, the nodes of it, how many there are up to the next border of the level above, and how many of these are quiet
  abbrev pub level_for : ℕ → ℕ → ℕ
  level_for p cap = best (fits_at p (hi - p)) cap

  abbrev pub nodes_from : ℕ → ℕ → ℕ → Node
  nodes_from l p = nth_node false (node_at unit part (levels l) l) (number_in base l (span l) p)

  abbrev pub nodes_asked : ℕ → ℕ → ℕ
  nodes_asked l p = min (to_border false (p / span l)) ((hi - p) / span l)

  abbrev pub nodes_passed : ℕ → ℕ → ℕ → ℕ
  nodes_passed l p v = quiet_up_to (nodes_from l p) mask v 0 (nodes_asked l p)

  -- a run at level l of which k are passed, and what comes behind it: a node that is not quiet ends it at level 1 or 0, else the next lower level is tried
  abbrev pub behind_run : (ℕ → ℕ → ℕ → ℕ) → ℕ → ℕ → ℕ → ℕ → ℕ → ℕ → ℕ → ℕ
  behind_run rest l s n k u p cap =
      cond (ltb k n)
      (cond (leb l 1) (p + k * s) (rest (p + k * s) (l - 1) u))
      (rest (p + k * s) cap u)

  -- at most `fuel` runs: the places left and the cap together fall with each
  unfoldable pub pass_to : ℕ → ℕ → ℕ → ℕ → ℕ
  pass_to zero p cap v = p
  pass_to (suc fuel) p cap v =
      cond (ltb p hi)
      (behind_run (pass_to fuel) (level_for p cap) (span (level_for p cap)) (nodes_asked (level_for p cap) p) (nodes_passed (level_for p cap) p v) (carried v (nodes_from (level_for p cap) p) (nodes_passed (level_for p cap) p v)) p cap)
      p

  abbrev pub pass_from : ℕ → ℕ → ℕ
  pass_from p v = pass_to (suc (hi - p + top_level)) p top_level v
