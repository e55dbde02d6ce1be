-- A range cut into parts of at least one sample. 02: CR 5, CR 6.
-- A cutting a = c0 < c1 < … < cn = b, n ≥ 1, is a and the list of c1 to cn.
use Rattle.std.specs.Prelude.{List, [], ◌∷◌, ℕ, ◌+◌, ◌-◌, ◌<◌}
use Rattle.rules.specs.Node.{differs}

-- "parts of at least one sample": the places rise from a on
abbrev pub Rising : ℕ → List ℕ → Type 0
Rising a [] = Unit {0}
Rising a (c ∷ cs) = (a < c) × Rising c cs

-- where the last part ends
abbrev pub cut_end : ℕ → List ℕ → ℕ
cut_end a [] = a
cut_end a (c ∷ cs) = cut_end c cs

-- what the parts have, added up by `plus` from `none` on: `part a b` is that of [a, b)
abbrev pub parts_by : {A : Type 0} → A → (A → A → A) → (ℕ → ℕ → A) → ℕ → List ℕ → A
parts_by none plus part a [] = none
parts_by none plus part a (c ∷ cs) = plus (part a c) (parts_by none plus part c cs)

abbrev pub parts_sum : (ℕ → ℕ → ℕ) → ℕ → List ℕ → ℕ
parts_sum part a cs = parts_by 0 (λ x y. x + y) part a cs

-- "their borders": at how many of the places between two parts the sample differs from the one before it
abbrev pub borders_sum : (ℕ → ℕ) → List ℕ → ℕ
borders_sum s [] = 0
borders_sum s (c ∷ []) = 0
borders_sum s (c ∷ d ∷ cs) = differs (s c) (s (c - 1)) + borders_sum s (d ∷ cs)
