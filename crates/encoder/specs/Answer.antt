-- The call's answer as 02's: the number of its refusal, or what the encoder did. 02: CR 6.
use Rattle.std.specs.Prelude.{List, ℕ, Result}
use Rattle.rules.specs.Answer.{Answer, unless}
use Rattle.rules.specs.Encoder as rule
use Rattle.rules.specs.Encoder.{encoder_refusal}
use Rattle.answer.specs.Answered.{answer_of}
use Rattle.answer.specs.declared.Refusal.{Refusal}
use Rattle.capture.specs.declared.Capture.{Capture}
use Rattle.capture.specs.Record.{store_of, lent_of}
use Rattle.encoder.specs.Hops.{hops_of}
use Rattle.encoder.specs.declared.Turns.{Turns}

abbrev pub as_turns : Turns → rule.Turns
as_turns t = record { position = t.position; forward = t.forward; backward = t.backward; skipped = t.skipped }

abbrev pub encoded_of : Result Turns Refusal → Answer rule.Turns
encoded_of = answer_of as_turns

-- what lines a and b do, over memory's own nodes
abbrev pub turns_for : Capture → List ℕ → (ℕ → List ℕ) → ℕ → ℕ → rule.Turns
turns_for c samples levels a b = hops_of c.unitsize c.len samples levels a b

-- unless row 1, 2 or 14 refuses
unfoldable pub encoder_of : Capture → List ℕ → (ℕ → List ℕ) → ℕ → ℕ → Answer rule.Turns
encoder_of c samples levels a b = unless (encoder_refusal (store_of c) (lent_of samples levels) a b) (turns_for c samples levels a b)
