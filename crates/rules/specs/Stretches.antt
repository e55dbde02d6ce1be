-- Stretches of places, and lists of them. 02: CR 8.
use Rattle.std.specs.Prelude.{Bool, true, false, cond, ◌&&◌, ◌||◌, List, [], ◌∷◌, ℕ, zero, suc, ◌+◌, ◌*◌, ltb, leb, eqb, get_or}

-- "each its first place and its count"
pub record Stretch : Type 0 where
  pub first : ℕ
  pub count : ℕ

-- a stretch in front of others: one with the next where they touch
unfoldable pub joined : ℕ → ℕ → List Stretch → List Stretch
joined first count [] = record { first = first; count = count } ∷ []
joined first count (s ∷ ss) =
    cond (eqb (first + count) s.first) (record { first = first; count = count + s.count } ∷ ss) (record { first = first; count = count } ∷ s ∷ ss)

-- "unknown stretches": those of the n places from p on that are not known, "in rising order, none touching the next"
unfoldable pub stretches_in : (ℕ → Bool) → ℕ → ℕ → List Stretch
stretches_in known p zero = []
stretches_in known p (suc n) = cond (known p) (stretches_in known (p + 1) n) (joined p 1 (stretches_in known (p + 1) n))

-- how many places are not known
unfoldable pub unknown_in : (ℕ → Bool) → ℕ → ℕ → ℕ
unknown_in known p zero = 0
unknown_in known p (suc n) = cond (known p) 0 1 + unknown_in known (p + 1) n

-- ---- what a list says
-- place i lies in one of the stretches
unfoldable pub covers : List Stretch → ℕ → Bool
covers [] i = false
covers (s ∷ ss) i = (leb s.first i && ltb i (s.first + s.count)) || covers ss i

-- from place p on and up to len, in rising order, none touching the next, none of no places
unfoldable pub apart : ℕ → ℕ → List Stretch → Bool
apart p len [] = true
apart p len (s ∷ ss) = leb p s.first && (ltb 0 s.count && (leb (s.first + s.count) len && apart (s.first + s.count + 1) len ss))

-- all their places
unfoldable pub places_of : List Stretch → ℕ
places_of [] = 0
places_of (s ∷ ss) = s.count + places_of ss

-- ---- as numbers in a lent list
unfoldable pub pairs_of : List Stretch → List ℕ
pairs_of [] = []
pairs_of (s ∷ ss) = s.first ∷ s.count ∷ pairs_of ss

-- and read again; a number left over says nothing
unfoldable pub pairs_in : List ℕ → List Stretch
pairs_in [] = []
pairs_in (a ∷ []) = []
pairs_in (a ∷ b ∷ l) = record { first = a; count = b } ∷ pairs_in l

-- stretch j of a list of numbers
abbrev pub stretch_at : List ℕ → ℕ → Stretch
stretch_at list j = record { first = get_or list (2 * j) 0; count = get_or list (2 * j + 1) 0 }
