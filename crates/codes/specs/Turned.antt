-- What a call of the boundary says of an encoder: its position behind a pointer of its own, and its three counts. 02: CR 6.
use Rattle.std.specs.Prelude.{List, [], ◌∷◌, ℕ, ℤ, get_or}
use Rattle.std.proofs.lemmas.List.Edits.{sets}
use Rattle.rules.specs.Answer.{Answer}
use Rattle.rules.specs.Encoder.{Turns}
use Rattle.codes.specs.Code.{plain, Out}

abbrev pub position_number : Turns → ℤ → ℤ
position_number t old = t.position

-- forward, backward and skipped
abbrev pub step_numbers : Turns → List ℕ → List ℕ
step_numbers t old = sets old 0 (t.forward ∷ t.backward ∷ t.skipped ∷ [])

pub record TurnsOut (answer : Answer Turns) (code : ℕ) (position position' : ℤ) (counts counts' : List ℕ) : Type 0 where
  pub position_is : Out position_number (plain answer) code position position'
  pub counts_are : Out step_numbers (plain answer) code counts counts'

-- what stands behind the two pointers, read
abbrev pub turns_in : ℤ → List ℕ → Turns
turns_in position counts = record { position = position; forward = get_or counts 0 0; backward = get_or counts 1 0; skipped = get_or counts 2 0 }
