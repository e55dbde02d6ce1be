-- What an append answers and what it leaves, whatever it is given. 01: Store; Where each number is checked, 1, 2 and 8.
use Rattle.std.specs.Prelude.{◌≡◌, cond, List, ℕ, ◌+◌, eqb, Result, Ok, Err}
use Rattle.rules.specs.Sample.{sample_count}
use Rattle.rules.specs.Refusal.{append_refusal}
use Rattle.rules.specs.Answer.{unless}
use Rattle.answer.specs.Answered.{told_of}
use Rattle.answer.specs.Answered as answered
use Rattle.answer.specs.declared.Refusal.{Refusal}
use Rattle.store.specs.Stored.{Stored}
use Rattle.capture.specs.declared.Capture.{Capture}
use Rattle.capture.specs.Record.{store_of, lent_of}

-- the record after the call: as it was where a row refuses
abbrev pub record_of : Capture → Result Capture Refusal → Capture
record_of c (Ok d) = d
record_of c (Err r) = c

-- the record with n more samples
abbrev pub grown : Capture → ℕ → Capture
grown c n = record { unitsize = c.unitsize; capacity = c.capacity; len = c.len + n; trigger = c.trigger }

-- the number of the first row that holds, 0 where none does
unfoldable pub refusal_of : Capture → List ℕ → (ℕ → List ℕ) → List ℕ → ℕ
refusal_of c samples levels bytes = append_refusal (store_of c) (lent_of samples levels) (sample_count c.unitsize bytes)

-- how many samples are taken: every whole one of the bytes, and none where a row refuses
unfoldable pub taken_of : Capture → List ℕ → (ℕ → List ℕ) → List ℕ → ℕ
taken_of c samples levels bytes = cond (eqb (refusal_of c samples levels bytes) 0) (sample_count c.unitsize bytes) 0

-- an append of bytes to a capture, over any memory: its answer, and what it leaves
pub record Appends (c : Capture) (bytes samples : List ℕ) (levels : ℕ → List ℕ) (answer : Result Capture Refusal) (samples' : List ℕ) (levels' : ℕ → List ℕ) : Type 0 where
  pub answer_is : told_of answer ≡ unless (refusal_of c samples levels bytes) (grown c (taken_of c samples levels bytes))
  pub number_is : answered.refusal_of answer ≡ refusal_of c samples levels bytes
  pub record_is : record_of c answer ≡ grown c (taken_of c samples levels bytes)
  pub memory : Stored c.unitsize c.len (taken_of c samples levels bytes) bytes samples levels samples' levels'
