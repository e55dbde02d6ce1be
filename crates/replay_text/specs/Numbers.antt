-- The number that a line's bytes write at a place. crates/replay/data/README.md: numbers from 0 to 2^64 − 1 in decimal, with a space between two of them.
use Rattle.std.specs.Prelude.{◌≡◌, Bool, cond, ◌&&◌, List, [], ◌∷◌, ℕ, suc, ◌+◌, ◌-◌, ◌*◌, min, leb, ltb, eqb, ℤ, pos, negsuc, get_or, drop}
use Rattle.std.specs.Bool.{then_some}
use Rattle.replay_text.specs.declared.numbers.Parsed.{Parsed}

-- from "0" to "9"
unfoldable pub is_digit : ℕ → Bool
is_digit b = leb 48 b && leb b 57

-- how many digits the bytes begin with
unfoldable pub digits : List ℕ → ℕ
digits [] = 0
digits (b ∷ l) = cond (is_digit b) (suc (digits l)) 0

-- v with one more digit, at most 2^64 − 1
unfoldable pub with_digit : ℕ → ℕ → ℕ
with_digit v b = min (v * 10 + (b - 48)) 18446744073709551615

-- v with the digits that the bytes begin with
unfoldable pub decimal : ℕ → List ℕ → ℕ
decimal v [] = v
decimal v (b ∷ l) = cond (is_digit b) (decimal (with_digit v b) l) v

-- a space at the place is passed over
unfoldable pub past_space : List ℕ → ℕ → ℕ
past_space line at = cond (eqb (get_or line at 0) 32) (suc at) at

-- what is read at a place of a line
pub record NumberAt (line : List ℕ) (at : ℕ) (r : Parsed) : Type 0 where
  pub value_is : r.value ≡ then_some (ltb (past_space line at) r.next) (decimal 0 (drop (past_space line at) line))
  pub next_is : r.next ≡ past_space line at + digits (drop (past_space line at) line)

-- a position as the number that its 64 bits make: 2^64 more where it is below 0
unfoldable pub bits_of : ℤ → ℕ
bits_of (pos n) = n
bits_of (negsuc n) = 18446744073709551615 - n
