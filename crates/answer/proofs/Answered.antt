-- The way out of a call, by what its check gave: the row that refuses is the answer, and where none does it is what was asked.
use Prim.Native.Nat.{ℕ, zero, suc, ◌≤◌}
use mathlib.Core.Path.{◌≡◌, refl, sym, ap, ◌∙◌}
use native.Mathlib.Omega.{arith}
use lib.Dec.{lit≤}
use Rattle.rules.specs.Answer.{refused, given, unless}
use Rattle.answer.specs.declared.Refusal.{Refusal}
use Rattle.answer.specs.declared.Refusal.TheVariants.{Record, Memory, Line, Limit, Wish, Number, Ring, Full, Place, View, Output, Grant, Before, Pair, Room, File, Head, Stretches}
use Rattle.answer.specs.Answered.{number}

-- every row has a number
pub number_least : (r : Refusal) → 1 ≤ number r
number_least Record = lit≤ tt
number_least Memory = lit≤ tt
number_least Line = lit≤ tt
number_least Limit = lit≤ tt
number_least Wish = lit≤ tt
number_least Number = lit≤ tt
number_least Ring = lit≤ tt
number_least Full = lit≤ tt
number_least Place = lit≤ tt
number_least View = lit≤ tt
number_least Output = lit≤ tt
number_least Grant = lit≤ tt
number_least Before = lit≤ tt
number_least Pair = lit≤ tt
number_least Room = lit≤ tt
number_least File = lit≤ tt
number_least Head = lit≤ tt
number_least Stretches = lit≤ tt

-- a row that refuses is the answer
pub stops : {A : Type 0} (r : Refusal) (n : ℕ) (a : A) → number r ≡ n → refused (number r) ≡ unless n a
stops r n a e = go (number r) n (number_least r) e
  where
    go : (k m : ℕ) → 1 ≤ k → k ≡ m → refused k ≡ unless m a
    go k zero h q = absurd (omega arith)
    go k (suc m) h q = ap refused q

-- where none refuses it is what was asked
pub goes : {A : Type 0} (n : ℕ) (a b : A) → n ≡ 0 → b ≡ a → given b ≡ unless n a
goes n a b e h = ap given h ∙ ap (λ (x : ℕ). unless x a) (sym e)
