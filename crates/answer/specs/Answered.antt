-- What a call answers, as 01 says it: the number of its refusal, or what it was asked. 01: Where each number is checked.
use Rattle.std.specs.Prelude.{ℕ, Result, Ok, Err}
use Rattle.rules.specs.Answer.{Answer, refused, given}
use Rattle.rules.specs.Walk as rule
use Rattle.answer.specs.declared.Refusal.{Refusal}
use Rattle.answer.specs.declared.Refusal.TheVariants.{Record, Memory, Line, Limit, Wish, Number, Ring, Full, Place, View, Output, Grant, Before, Pair, Room, File, Head, Stretches}
use Rattle.answer.specs.declared.Counted.{Counted}

-- the row that refuses: "A refusal returns its number"
abbrev pub number : Refusal → ℕ
number Record = 1
number Memory = 2
number Line = 3
number Limit = 4
number Wish = 5
number Number = 6
number Ring = 7
number Full = 8
number Place = 9
number View = 10
number Output = 11
number Grant = 12
number Before = 13
number Pair = 14
number Room = 15
number File = 16
number Head = 17
number Stretches = 18

-- of a check, or of any answer: 0 where no row refuses
abbrev pub refusal_of : {X : Type 0} → Result X Refusal → ℕ
refusal_of (Ok x) = 0
refusal_of (Err r) = number r

-- what is given, seen through f
abbrev pub answer_of : {X A : Type 0} → (X → A) → Result X Refusal → Answer A
answer_of f (Ok x) = given (f x)
answer_of f (Err r) = refused (number r)

-- a search's find, and "the count of nodes read, samples at level 0 included, equal to the steps of 01's walk" (02, CR 3)
abbrev pub counted_of : {A : Type 0} → Counted A → rule.Counted A
counted_of c = record { found = c.found; steps = c.steps }

-- what is given, as it is
abbrev pub told_of : {A : Type 0} → Result A Refusal → Answer A
told_of r = answer_of (λ x. x) r
