-- What stands in front of a service's call that a mill asks: where its places count from, its rows 12 and 13, and what it is shown of numbers.
use Rattle.std.specs.Prelude.{◌≡◌, Bool, List, [], ◌∷◌, ◌++◌, map, ℕ, ℤ, take, drop, Result, Ok, Err}
use Rattle.std.specs.Int.Bits.{bit_and}
use Rattle.rules.specs.Refusal.{Store, Row, first_of, store_rows}
use Rattle.rules.specs.Mill.{origin_of, beyond_row, before_row}
use Rattle.answer.specs.Answered.{number}
use Rattle.answer.specs.declared.Refusal.{Refusal}
use Rattle.node.specs.declared.Memory.{Memory}
use Rattle.capture.specs.Record.{store_of, lent_in}
use Rattle.capture.specs.Stored.{Opened}
use Rattle.capture.specs.declared.Capture.{Capture}
use Rattle.capture.specs.declared.stored.Stored.{Stored}

-- the place of a capture that counts as 0
abbrev pub origin_in : Capture → ℕ
origin_in c = origin_of (c.trigger)

-- 12 and then 13, of a call with a mask and two places. The place 0 is never before the first sample, so it stands for no place
abbrev pub mill_rows : Store → Bool → ℤ → ℤ → List Row
mill_rows st outside p q = beyond_row outside ∷ before_row st.mark p ∷ before_row st.mark q ∷ []

-- the number of the first row that holds, `rest` being those after 12 and 13
abbrev pub mill_refusal : Capture → Memory → Bool → ℤ → ℤ → List Row → ℕ
mill_refusal c m outside p q rest = first_of (store_rows (store_of c) (lent_in m) (mill_rows (store_of c) outside p q ++ rest))

-- rows 1, 2, 12 and 13 let a mill's call pass, and this is what its capture stores
pub record Passed (c : Capture) (m : Memory) (outside : Bool) (p q : ℤ) (s : Stored) : Type 0 where
  pub passes : mill_refusal c m outside p q [] ≡ 0
  pub opened : Opened c m s

-- or the first that does not
abbrev pub Passes : Capture → Memory → Bool → ℤ → ℤ → Result Stored Refusal → Type 0
Passes c m outside p q (Ok s) = Passed c m outside p q s
Passes c m outside p q (Err r) = number r ≡ mill_refusal c m outside p q []

-- the first n numbers show granted lines only, the others are as they were
unfoldable pub cut_first : ℕ → ℕ → List ℕ → List ℕ
cut_first grant n output = map (λ x. bit_and x grant) (take n output) ++ drop n output
