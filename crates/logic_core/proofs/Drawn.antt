-- The code of an answer that has no value is the number of the row that refuses.
use Prim.Native.Nat.{ℕ, zero, suc}
use mathlib.Core.Path.{◌≡◌, refl, ap, ◌∙◌}
use Rattle.rules.specs.Answer.{Answer, unless}
use Rattle.codes.specs.Code.{plain}

unless_code : {A : Type 0} (n : ℕ) (a : A) → (plain (unless n a)).code ≡ n
unless_code zero a = refl
unless_code (suc n) a = refl

pub drawn_code : {A : Type 0} (n : ℕ) (a : A) (x : Answer A) → x ≡ unless n a → (plain x).code ≡ n
drawn_code {A} n a x e = ap (λ (y : Answer A). (plain y).code) e ∙ unless_code n a
