-- The call's answer as 02's: the number of its refusal, or a count. 02: CR 5.
use Rattle.std.specs.Prelude.{ℕ, Result}
use Rattle.rules.specs.Answer.{Answer}
use Rattle.answer.specs.Answered.{told_of}
use Rattle.answer.specs.declared.Refusal.{Refusal}

abbrev pub changes_of : Result ℕ Refusal → Answer ℕ
changes_of r = told_of r
