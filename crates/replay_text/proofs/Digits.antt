-- The digits from a place of a line on: one more where a digit stands there, and none where another byte or the end does. Assumes nothing.
use mathlib.Core.Path.{◌≡◌, refl}
use mathlib.Core.Bool.{Bool, true, false, ◌&&◌}
use mathlib.Core.List.{List, [], ◌∷◌}
use Prim.Native.Nat.{ℕ, zero, suc, ◌≤◌}
use borrow.Author.Tests.{leb-true}
use lib.Dec.{leb}
use lib.ListN.{get_or, drop}
use Rattle.replay_text.specs.Numbers.{is_digit, digits, with_digit, decimal}

both : (a b : Bool) → (a && b) ≡ true → (a ≡ true) × (b ≡ true)
both true true h = (refl, refl)
both true false h = (refl, h)
both false b h = (h, cc)

pub digit_in : (b : ℕ) → is_digit b ≡ true → (48 ≤ b) × (b ≤ 57)
unfolding is_digit
digit_in b h =
    let h' = both (leb 48 b) (leb b 57) h in
    (leb-true 48 b h'.0, leb-true b 57 h'.1)

-- a digit stands at the place
pub digits_more : (l : List ℕ) (i : ℕ) → is_digit (get_or l i 0) ≡ true → digits (drop i l) ≡ suc (digits (drop (suc i) l))
unfolding digits is_digit
digits_more [] i h = cc
digits_more (b ∷ l) zero h = rw h
digits_more (b ∷ l) (suc i) h = digits_more l i h

pub decimal_more : (v : ℕ) (l : List ℕ) (i : ℕ) → is_digit (get_or l i 0) ≡ true → decimal v (drop i l) ≡ decimal (with_digit v (get_or l i 0)) (drop (suc i) l)
unfolding decimal is_digit
decimal_more v [] i h = cc
decimal_more v (b ∷ l) zero h = rw h
decimal_more v (b ∷ l) (suc i) h = decimal_more v l i h

-- another byte, or none
pub digits_end : (l : List ℕ) (i : ℕ) → is_digit (get_or l i 0) ≡ false → digits (drop i l) ≡ 0
unfolding digits
digits_end [] zero h = refl
digits_end [] (suc i) h = refl
digits_end (b ∷ l) zero h = rw h
digits_end (b ∷ l) (suc i) h = digits_end l i h

pub decimal_end : (v : ℕ) (l : List ℕ) (i : ℕ) → is_digit (get_or l i 0) ≡ false → decimal v (drop i l) ≡ v
unfolding decimal
decimal_end v [] zero h = refl
decimal_end v [] (suc i) h = refl
decimal_end v (b ∷ l) zero h = rw h
decimal_end v (b ∷ l) (suc i) h = decimal_end v l i h
