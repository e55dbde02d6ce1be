-- What a call answers: the number of its refusal, or what it was asked. 01: Where each number is checked.
use Rattle.std.specs.Prelude.{ℕ, zero, suc}

pub data Answer (A : Type 0) : Type 0 where
  refused : ℕ → Answer A
  given : A → Answer A

-- "A refusal returns its number": a where no row refuses, which is 0
abbrev pub unless : {A : Type 0} → ℕ → A → Answer A
unless zero a = given a
unless (suc n) a = refused (suc n)

-- "refusals count as answers": what is given is seen through f
abbrev pub seen : {A B : Type 0} → (A → B) → Answer A → Answer B
seen f (refused n) = refused n
seen f (given x) = given (f x)

-- what is written where no row refuses, counted: nothing is copied or drawn where one does
abbrev pub unrefused : ℕ → ℕ → ℕ
unrefused zero k = k
unrefused (suc n) k = 0
