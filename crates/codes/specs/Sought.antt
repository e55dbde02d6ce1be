-- What a call of the boundary says of a search: what it found, and the nodes that it read (02, CR 3).
use Rattle.std.specs.Prelude.{ℕ}
use Rattle.rules.specs.Answer.{Answer, refused, given, seen}
use Rattle.rules.specs.Walk.{Counted}
use Rattle.codes.specs.Code.{Reply, only, wrote, perhaps, Out}
use Rattle.codes.specs.Record.{number}

-- what it found is written where there is something
abbrev pub found_reply : {A : Type 0} → Answer (Counted A) → Reply A
found_reply a = perhaps (seen (λ c. c.found) a)

-- the count is written unless a row refuses, also where nothing was found
abbrev pub read_reply : {A : Type 0} → Answer (Counted A) → Reply ℕ
read_reply (refused n) = only n
read_reply (given c) = wrote (found_reply (given c)).code c.steps

-- the code, what stands behind the pointer for the find, and behind that for the count
pub record Sought {A B : Type 0} (write : A → B → B) (answer : Answer (Counted A)) (code : ℕ) (old new : B) (old-read new-read : ℕ) : Type 0 where
  pub find : Out write (found_reply answer) code old new
  pub count : Out number (read_reply answer) code old-read new-read
