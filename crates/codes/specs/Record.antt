-- A capture's record from its numbers (capture.specs.Numbers) and to them, and how other answers are written as numbers.
use Rattle.std.specs.Prelude.{Bool, cond, List, [], ◌∷◌, ℕ, Option}
use Rattle.std.proofs.lemmas.List.Edits.{sets}
use Rattle.rules.specs.Node.{Node, Lines, lines_of}
use Rattle.rules.specs.Burst.{Burst}
use Rattle.rules.specs.Refusal.{Store, Lent, mark_flag, mark_place}
use Rattle.rules.specs.Answer.{Answer, seen}
use Rattle.capture.specs.Record.{mark_in}
use Rattle.capture.specs.declared.Capture.{Capture}
use Rattle.capture.specs.Numbers.{unit_at, len_at, unit_in, capacity_in, len_in, marked_in, mark_place_in}
use Rattle.rules.specs.Wrong.{NodeAt}

abbrev pub capture_in : List ℕ → Capture
capture_in r = record { unitsize = unit_in r; capacity = capacity_in r; len = len_in r; trigger = mark_in (marked_in r) (mark_place_in r) }

abbrev pub mark_numbers : Option ℕ → List ℕ
mark_numbers m = mark_flag m ∷ mark_place m ∷ []

abbrev pub store_numbers : Store → List ℕ → List ℕ
store_numbers st old = sets old unit_at (st.unit ∷ st.capacity ∷ st.len ∷ mark_numbers st.mark)

-- the count of stored samples
abbrev pub len_number : ℕ → List ℕ → List ℕ
len_number len old = sets old len_at (len ∷ [])

-- what append writes of the record, unless it refuses
abbrev pub grown_len : Answer Capture → Answer ℕ
grown_len a = seen (λ c. c.len) a

-- bytes of samples, and numbers of the levels 1 to 4
abbrev pub lent_numbers : Lent → List ℕ → List ℕ
lent_numbers lent old = sets old 0 (lent.samples ∷ lent.level 1 ∷ lent.level 2 ∷ lent.level 3 ∷ lent.level 4 ∷ [])

-- first, last and toggles
abbrev pub lines_numbers : Lines → List ℕ → List ℕ
lines_numbers n old = sets old 0 (n.first ∷ n.last ∷ n.toggles ∷ [])

-- a node's, and its count behind a pointer of its own
abbrev pub node_numbers : Node → List ℕ → List ℕ
node_numbers n old = lines_numbers (lines_of n) old

abbrev pub count_number : Node → ℕ → ℕ
count_number n old = n.count

abbrev pub burst_numbers : Burst → List ℕ → List ℕ
burst_numbers b old = sets old 0 (b.first ∷ b.last ∷ b.jumps_end ∷ b.jumps_start ∷ [])

-- one value, behind a pointer of its own
abbrev pub number : {A : Type 0} → A → A → A
number v old = v

-- yes or no as a number
abbrev pub flag_number : Bool → ℕ
flag_number b = cond b 1 0

abbrev pub place_level : NodeAt → ℕ → ℕ
place_level p old = p.level

abbrev pub place_number : NodeAt → ℕ → ℕ
place_number p old = p.number
