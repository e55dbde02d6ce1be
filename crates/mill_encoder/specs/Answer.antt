-- What a mill is told of an encoder: 02's refusals, else the service's answer. 02: CR 6.
use Rattle.std.specs.Prelude.{List, ℕ}
use Rattle.rules.specs.Answer.{Answer, unless}
use Rattle.rules.specs.Encoder.{Turns}
use Rattle.rules.specs.Mill.{mill_encoder_refusal}
use Rattle.capture.specs.declared.Capture.{Capture}
use Rattle.capture.specs.Record.{store_of, lent_of}
use Rattle.encoder.specs.Answer.{turns_for}

-- unless row 1, 2, 14 or 12 refuses
unfoldable pub encoder_of : Capture → List ℕ → (ℕ → List ℕ) → ℕ → ℕ → ℕ → Answer Turns
encoder_of c samples levels grant a b = unless (mill_encoder_refusal (store_of c) (lent_of samples levels) grant a b) (turns_for c samples levels a b)
