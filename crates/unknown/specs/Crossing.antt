-- A search for a certain change: 01's search, again behind each stretch that its find lies at.
use Rattle.std.specs.Prelude.{Bool, true, false, cond, ◌&&◌, List, ℕ, zero, suc, ◌+◌, ◌-◌, ◌/◌, leb, length}
use Rattle.std.specs.Prelude.{Option, None, Some}
use Rattle.rules.specs.Node.{Node}
use Rattle.rules.specs.Walk.{next_walk, previous_walk, all_levels}
use Rattle.rules.specs.Stretches.{Stretch, stretch_at}

-- 01's search over memory's own nodes, without its count
abbrev pub walked : Bool → (ℕ → ℕ → Node) → ℕ → ℕ → ℕ → Option ℕ
walked true reader mask len from = (previous_walk all_levels reader len mask from).found
walked false reader mask len from = (next_walk all_levels reader len mask from).found

-- of n stretches in rising order, the number of the one after k others on a search's way
abbrev pub nth_number : Bool → ℕ → ℕ → ℕ
nth_number true n k = n - (k + 1)
nth_number false n k = k

-- how many stretches a list has, and the one after k others
abbrev pub stretch_count : List ℕ → ℕ
stretch_count list = length list / 2

abbrev pub nth_stretch : Bool → List ℕ → ℕ → Stretch
nth_stretch back list k = stretch_at list (nth_number back (stretch_count list) k)

-- a change at place i has an unknown sample beside it, of a stretch from first up to end
abbrev pub touches : ℕ → ℕ → ℕ → Bool
touches first end i = leb first i && leb i end

-- from where a search goes on behind it
abbrev pub resume : Bool → ℕ → ℕ → ℕ
resume true first end = first - 1
resume false first end = end

-- what becomes of a find
abbrev pub crossing : (ℕ → Option ℕ) → Bool → ℕ → ℕ → Option ℕ → Option ℕ
crossing search back first end None = None
crossing search back first end (Some i) = cond (touches first end i) (search (resume back first end)) (Some i)

-- k stretches, one after the other
unfoldable pub crossed : (ℕ → Option ℕ) → Bool → (ℕ → Stretch) → ℕ → Option ℕ → Option ℕ
crossed search back stretch zero found = found
crossed search back stretch (suc k) found = crossing search back (stretch k).first ((stretch k).first + (stretch k).count) (crossed search back stretch k found)

abbrev pub certain_in : Bool → (ℕ → ℕ → Node) → ℕ → List ℕ → ℕ → ℕ → Option ℕ
certain_in back reader len list mask from = crossed (walked back reader mask len) back (nth_stretch back list) (stretch_count list) (walked back reader mask len from)
