-- The two ways of a search within a chunk that is stored from base to hi, by whether it goes back.
use Rattle.std.specs.Prelude.{Bool, true, false, cond, ℕ, ◌+◌, ◌-◌, ◌/◌, ◌%◌, eqb}
use Rattle.rules.specs.Node.{Node}
use Rattle.rules.specs.Walk.{Way, forward, backward, all_levels}

-- 01's walk
abbrev pub way_in : Bool → (ℕ → ℕ → Node) → ℕ → ℕ → Way
way_in true reader base hi = backward all_levels reader base
way_in false reader base hi = forward all_levels reader hi

-- the place d samples on
abbrev pub moved : Bool → ℕ → ℕ → ℕ
moved true p d = p - d
moved false p d = p + d

-- how many samples are left at p
abbrev pub left_in : Bool → ℕ → ℕ → ℕ → ℕ
left_in true base hi p = p - base
left_in false base hi p = hi - p

-- how many nodes there are from number q to the next border of the level above
abbrev pub to_border : Bool → ℕ → ℕ
to_border true q = (q % 32 + 31) % 32 + 1
to_border false q = 32 - q % 32

-- the number of place p at level l, whose nodes have s samples: of a sample in the part, or of a node
abbrev pub number_in : ℕ → ℕ → ℕ → ℕ → ℕ
number_in base l s p = cond (eqb l 0) (p - base) (p / s)
