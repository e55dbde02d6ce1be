-- What the four calls answer: 02's refusals, else the search over memory's own nodes.
use Rattle.std.specs.Prelude.{Bool, List, ℕ, Option, Result}
use Rattle.rules.specs.Answer.{Answer, unless}
use Rattle.rules.specs.Unknown.{unknown_refusal}
use Rattle.answer.specs.Answered.{told_of}
use Rattle.answer.specs.declared.Refusal.{Refusal}
use Rattle.node.specs.Memory.{reader_of}
use Rattle.capture.specs.declared.Capture.{Capture}
use Rattle.capture.specs.Record.{store_of, lent_of}
use Rattle.unknown.specs.Crossing.{certain_in}
use Rattle.unknown.specs.Meeting.{possible_in}

-- 02's number, or the place if there is one
abbrev pub located_of : Result (Option ℕ) Refusal → Answer (Option ℕ)
located_of = told_of

unfoldable pub certain_of : Bool → Capture → List ℕ → (ℕ → List ℕ) → List ℕ → ℕ → ℕ → Answer (Option ℕ)
certain_of back c samples levels list mask from =
    unless (unknown_refusal (store_of c) (lent_of samples levels) list) (certain_in back (reader_of c.unitsize samples levels) c.len list mask from)

unfoldable pub possible_of : Bool → Capture → List ℕ → (ℕ → List ℕ) → List ℕ → ℕ → ℕ → Answer (Option ℕ)
possible_of back c samples levels list mask from =
    unless (unknown_refusal (store_of c) (lent_of samples levels) list) (possible_in back c.unitsize (reader_of c.unitsize samples levels) c.len list mask from)
