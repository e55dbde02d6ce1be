-- What was salvaged, as numbers behind two pointers. 02: CR 8.
use Rattle.std.specs.Prelude.{List, [], ◌∷◌, ℕ, get_or}
use Rattle.std.proofs.lemmas.List.Edits.{sets}
use Rattle.rules.specs.Answer.{Answer, seen}
use Rattle.rules.specs.Refusal.{Store}
use Rattle.rules.specs.Salvage.{Salvaged}
use Rattle.capture.specs.Record.{store_of}
use Rattle.codes.specs.Record.{store_numbers, capture_in}
use Rattle.codes.specs.Code.{plain, Out}

-- how many stretches, and how many samples replaced
abbrev pub count_numbers : Salvaged → List ℕ → List ℕ
count_numbers s old = sets old 0 (s.stretches ∷ s.replaced ∷ [])

abbrev pub store_part : Salvaged → Store
store_part s = s.store

-- the code, the record's numbers, and these two
pub record SalvagedOut (answer : Answer Salvaged) (code : ℕ) (numbers numbers' counts counts' : List ℕ) : Type 0 where
  pub record_is : Out store_numbers (plain (seen store_part answer)) code numbers numbers'
  pub counts_are : Out count_numbers (plain answer) code counts counts'

-- what stands behind the pointers, read
abbrev pub salvaged_in : List ℕ → List ℕ → Salvaged
salvaged_in numbers counts = record { store = store_of (capture_in numbers); stretches = get_or counts 0 0; replaced = get_or counts 1 0 }
