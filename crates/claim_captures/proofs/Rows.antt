-- The rows of a question are those of refusals, and an answer that is seen in what a call wrote.
use Prim.Native.Nat.{ℕ, zero, suc}
use mathlib.Core.Path.{◌≡◌, refl, ap, ◌∙◌}
use mathlib.Core.List.{List}
use native.Mathlib.Omega.{arith}
use Rattle.std.specs.Prelude.{Result, Ok, Err}
use Rattle.rules.specs.Answer.{given, unless}
use Rattle.rules.specs.Refusal.{Store, Lent, Row, first_of, store_rows}
use Rattle.answer.specs.declared.Refusal.{Refusal}
use Rattle.answer.specs.declared.Refusal.TheVariants.{Record, Memory}
use Rattle.answer.specs.Answered.{answer_of, told_of}
use Rattle.claim_alike.proofs.Rows.{Told, AllKnown, first_told}

-- rows 1 and 2, and those of the call
pub store_told : (st : Store) (lent : Lent) (rest : List Row) → AllKnown rest → Told (first_of (store_rows st lent rest))
store_told st lent rest k = first_told (store_rows st lent rest) ((Record, refl), ((Memory, refl), k))

-- what is given is seen as x, where the number n refuses nothing
pub answer_seen : {X A : Type 0} (f : X → A) (n : ℕ) (y : X) (x : A) (r : Result X Refusal) → told_of r ≡ unless n y → (n ≡ 0 → f y ≡ x) → answer_of f r ≡ unless n x
answer_seen f zero y x (Err r) e h = let z : ◌≡◌ {A = ℕ} 0 1 = cc in absurd (omega arith)
answer_seen f zero y x (Ok v) e h = let q : v ≡ y = cc in ap (λ a. given (f a)) q ∙ ap given (h refl)
answer_seen f (suc n) y x (Err r) e h = cc
answer_seen f (suc n) y x (Ok v) e h = let z : ◌≡◌ {A = ℕ} 0 1 = cc in absurd (omega arith)
