-- Every row has a refusal, so that whatever rows say there is something to answer.
use Prim.Native.Nat.{ℕ}
use mathlib.Core.Path.{◌≡◌, refl, sym}
use mathlib.Core.Bool.{Bool, true, false, cond}
use mathlib.Core.List.{List, [], ◌∷◌}
use mathlib.Core.Logic.{◌⊎◌, inl, inr}
use Rattle.std.specs.Prelude.{Result, Ok, Err}
use Rattle.rules.specs.Answer.{unless}
use Rattle.rules.specs.Refusal.{Row, first_of}
use Rattle.answer.specs.declared.Refusal.{Refusal}
use Rattle.answer.specs.Answered.{number, refusal_of, answer_of}
use Rattle.answer.proofs.Answered.{stops, goes}

-- a row's number
abbrev pub Known : ℕ → Type 0
Known n = (r : Refusal) × (number r ≡ n)

-- no row, or a row's number
abbrev pub Told : ℕ → Type 0
Told n = (n ≡ 0) ⊎ Known n

abbrev pub AllKnown : List Row → Type 0
AllKnown [] = Unit {0}
AllKnown (row ∷ rows) = Known row.number × AllKnown rows

pub first_told : (rows : List Row) → AllKnown rows → Told (first_of rows)
first_told [] k = inl refl
first_told (row ∷ rows) k = go row.holds (first_told rows k.1)
  where
    go : (b : Bool) → Told (first_of rows) → Told (cond b row.number (first_of rows))
    go true t = inr k.0
    go false t = t

-- a result for what was asked, unless a row refuses
pub result_for : {X A : Type 0} (f : X → A) (n : ℕ) (x : X) (a : A) → f x ≡ a → Told n → (v : Result X Refusal) × (answer_of f v ≡ unless n a)
result_for f n x a h (inl z) = (Ok x, goes n a (f x) z h)
result_for f n x a h (inr k) = (Err k.0, stops k.0 n a k.1)

-- and for a check
pub check_for : (n : ℕ) → Told n → (v : Result (Unit {0}) Refusal) × (refusal_of v ≡ n)
check_for n (inl z) = (Ok tt, sym z)
check_for n (inr k) = (Err k.0, k.1)
