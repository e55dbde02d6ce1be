-- What a step of a walk can be, in either direction.
use Prim.Native.Nat.{ℕ, ◌≤◌, ◌<◌}
use mathlib.Core.Path.{◌≡◌, refl}
use mathlib.Core.Bool.{Bool, true, false}
use native.Mathlib.Decide.{dec_lt, ℕ_discrete}
use native.Mathlib.Omega.{arith}
use Rattle.rules.specs.Node.{quiet, top_level}
use Rattle.rules.specs.Walk.{Way, best}
use Rattle.rules.proofs.Walk.{Taken, taken_best}

-- the level that a walk takes at p under a cap
pub record Takes (w : Way) (p cap l : ℕ) : Type 0 where
  pub some_left : 0 < w.left p
  pub is_best : l ≡ best (λ (l : ℕ). w.takes l p) cap
  pub taken : Taken w l p

pub data Stepped (w : Way) (m p cap v : ℕ) : Type 0 where
  ends : w.left p ≡ 0 → Stepped w m p cap v
  passes : {l : ℕ} → Takes w p cap l → quiet (w.node l p) v m ≡ true → Stepped w m p cap v
  finds : {l : ℕ} → Takes w p cap l → quiet (w.node l p) v m ≡ false → l ≡ 0 → Stepped w m p cap v
  lowers : {l : ℕ} → Takes w p cap l → quiet (w.node l p) v m ≡ false → (l ≡ 0 → ⊥) → Stepped w m p cap v

pub stepped : (w : Way) (m p cap v : ℕ) → cap ≤ top_level → Stepped w m p cap v
stepped w m p cap v hc = left (dec_lt 0 (w.left p))
  where
    level : ℕ
    level = best (λ (l : ℕ). w.takes l p) cap

    at : Takes w p cap level → (b : Bool) → quiet (w.node level p) v m ≡ b → Dec (level ≡ 0) → Stepped w m p cap v
    at t true q d = passes t q
    at t false q (yes z) = finds t q z
    at t false q (no z) = lowers t q z

    left : Dec (0 < w.left p) → Stepped w m p cap v
    left (yes h) = at (record { some_left = h; is_best = refl; taken = taken_best w p cap hc h }) (quiet (w.node level p) v m) refl (ℕ_discrete level 0)
    left (no h) = ends (omega arith)
