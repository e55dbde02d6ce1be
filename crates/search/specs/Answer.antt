-- What next_change and prev_change answer: 01's refusals, else the walk over memory's own nodes.
use Rattle.std.specs.Prelude.{List, ℕ, Result}
use Rattle.rules.specs.Answer.{Answer, unless}
use Rattle.rules.specs.Refusal.{store_refusal}
use Rattle.rules.specs.Walk.{Walked, next_walk, previous_walk, all_levels}
use Rattle.answer.specs.Answered.{answer_of, counted_of}
use Rattle.answer.specs.declared.Counted.{Counted}
use Rattle.answer.specs.declared.Refusal.{Refusal}
use Rattle.node.specs.Memory.{reader_of}
use Rattle.capture.specs.declared.Capture.{Capture}
use Rattle.capture.specs.Record.{store_of, lent_of}

-- 01's number, or the place with the nodes read
abbrev pub found_of : Result (Counted ℕ) Refusal → Answer Walked
found_of r = answer_of counted_of r

-- what is asked, unless row 1 or 2 refuses
abbrev pub asked : Capture → List ℕ → (ℕ → List ℕ) → Walked → Answer Walked
asked c samples levels walked = unless (store_refusal (store_of c) (lent_of samples levels)) walked

unfoldable pub next_of : Capture → List ℕ → (ℕ → List ℕ) → ℕ → ℕ → Answer Walked
next_of c samples levels mask from = asked c samples levels (next_walk all_levels (reader_of c.unitsize samples levels) c.len mask from)

unfoldable pub previous_of : Capture → List ℕ → (ℕ → List ℕ) → ℕ → ℕ → Answer Walked
previous_of c samples levels mask from = asked c samples levels (previous_walk all_levels (reader_of c.unitsize samples levels) c.len mask from)
