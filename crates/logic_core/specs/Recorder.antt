-- What the recorder's calls under the boundary answer, over its numbers and the lent lists.
use Rattle.std.specs.Prelude.{◌≡◌, Bool, List, ℕ, ◌-◌, Float, length}
use Rattle.rules.specs.Answer.{Answer}
use Rattle.rules.specs.Push.{Left, left_of}
use Rattle.rules.specs.Start.{Begun, start_rule}
use Rattle.store.specs.Stored.{LevelsAfter}
use Rattle.capture.specs.Record.{lent_of}
use Rattle.feeder.specs.declared.Feeder.{Feeder}
use Rattle.feeder.specs.Record.{recorder_of}
use Rattle.feeder.specs.Start.{settings_of}
use Rattle.term_bytes.specs.Bytes.{terms_in}
use Rattle.feeder_codes.specs.Recorder.{wish_in, reply_code, numbers_after}

abbrev pub begun_for : ℕ → ℕ → ℕ → List ℕ → Bool → Float → ℕ → List ℕ → (ℕ → List ℕ) → List ℕ → Answer Begun
begun_for channels capacity limit terms seconds wish rate samples levels ring =
    start_rule (settings_of channels capacity limit (terms_in terms) (wish_in seconds wish) rate) (lent_of samples levels) (length ring)

-- ---- push
-- what push leaves
abbrev pub left_for : Feeder → List ℕ → List ℕ → (ℕ → List ℕ) → List ℕ → Left
left_for f bytes samples levels ring = left_of (recorder_of f) (lent_of samples levels) samples ring bytes

-- push: the code, the record's numbers and the memory
pub record PushesOut (f : Feeder) (bytes samples : List ℕ) (levels : ℕ → List ℕ) (ring : List ℕ) (code : ℕ) (numbers numbers' samples' : List ℕ) (levels' : ℕ → List ℕ) (ring' : List ℕ) : Type 0 where
  pub code_is : code ≡ reply_code (left_for f bytes samples levels ring).reply
  pub numbers_are : numbers' ≡ numbers_after (left_for f bytes samples levels ring).reply (left_for f bytes samples levels ring).recorder numbers
  pub samples_are : samples' ≡ (left_for f bytes samples levels ring).samples
  pub ring_is : ring' ≡ (left_for f bytes samples levels ring).ring
  pub levels_are : LevelsAfter f.capture.unitsize f.capture.len ((left_for f bytes samples levels ring).recorder.store.len - f.capture.len) samples' levels levels'
