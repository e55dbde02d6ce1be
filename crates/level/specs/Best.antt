-- Which level a walk takes at a place: the rules' highest level up to a cap, with what is known of it.
use Rattle.std.specs.Prelude.{◌≡◌, Bool, ◌&&◌, ℕ, ◌%◌, ◌≤◌, leb, eqb}
use Rattle.rules.specs.Node.{span}
use Rattle.rules.specs.Walk.{best}

-- a node of level l has a border at pos and fits in room samples
abbrev pub fits_at : ℕ → ℕ → ℕ → Bool
fits_at pos room l = eqb (pos % span l) 0 && leb (span l) room

pub record Best (pos room cap r : ℕ) : Type 0 where
  pub is : r ≡ best (fits_at pos room) cap
  pub below : r ≤ cap
  pub aligned : pos % span r ≡ 0
  pub fits : span r ≤ room
