-- A search for a possible change: the first stretch on its way, and 01's search up to there.
use Rattle.std.specs.Prelude.{Bool, true, false, cond, List, ℕ, zero, suc, ◌+◌, min, max, ltb, leb, eqb, length}
use Rattle.std.specs.Prelude.{Option, None, Some}
use Rattle.rules.specs.Node.{Node}
use Rattle.rules.specs.Search.{start_back}
use Rattle.rules.specs.Walk.{or_found}
use Rattle.rules.specs.Stretches.{Stretch}
use Rattle.rules.specs.Unknown.{has_line}
use Rattle.unknown.specs.Crossing.{walked, stretch_count, nth_stretch}

-- the first place that a search looks at
abbrev pub entry : Bool → ℕ → ℕ → Option ℕ
entry true len from = cond (eqb (start_back len from) 0) None (Some (start_back len from))
entry false len from = cond (ltb (from + 1) len) (Some (from + 1)) None

-- from place p on, the first one that a stretch from first up to end touches
abbrev pub meets : Bool → ℕ → ℕ → ℕ → Option ℕ
meets true p first end = cond (leb first (min end p)) (Some (min end p)) None
meets false p first end = cond (leb (max first p) end) (Some (max first p)) None

-- that one of k stretches touches
unfoldable pub met : Bool → ℕ → (ℕ → Stretch) → ℕ → Option ℕ
met back p stretch zero = None
met back p stretch (suc k) = or_found (met back p stretch k) (meets back p (stretch k).first ((stretch k).first + (stretch k).count))

-- a find and place c, at which a stretch is met: the one that comes first. Forward the search ends before c
abbrev pub earlier : Bool → Option ℕ → ℕ → Option ℕ
earlier back None c = Some c
earlier true (Some j) c = Some (max j c)
earlier false (Some j) c = Some j

-- how many samples it is given
abbrev pub cut_at : Bool → ℕ → ℕ → ℕ
cut_at true len c = len
cut_at false len c = c

-- with a stretch met or none; `search len from` is 01's. At the first place itself there is nothing to search
abbrev pub besides : Bool → (ℕ → ℕ → Option ℕ) → ℕ → ℕ → ℕ → Option ℕ → Option ℕ
besides back search len from p None = search len from
besides back search len from p (Some c) = cond (eqb c p) (Some c) (earlier back (search (cut_at back len c) from) c)

abbrev pub from_entry : Bool → (ℕ → ℕ → Option ℕ) → ℕ → List ℕ → ℕ → Option ℕ → Option ℕ
from_entry back search len list from None = None
from_entry back search len list from (Some p) = besides back search len from p (met back p (nth_stretch back list) (stretch_count list))

-- nothing changes under a mask that has no line of the unit
abbrev pub possible_across : Bool → ℕ → (ℕ → ℕ → Node) → ℕ → List ℕ → ℕ → ℕ → Option ℕ
possible_across back unit reader len list mask from = cond (has_line unit mask) (from_entry back (walked back reader mask) len list from (entry back len from)) None

-- without stretches it is 01's search
abbrev pub possible_in : Bool → ℕ → (ℕ → ℕ → Node) → ℕ → List ℕ → ℕ → ℕ → Option ℕ
possible_in back unit reader len list mask from = cond (eqb (length list) 0) (walked back reader mask len from) (possible_across back unit reader len list mask from)
