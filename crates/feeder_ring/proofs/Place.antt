-- The place after n samples, by one remainder.
use Prim.Native.Nat.{ℕ, ◌+◌, ◌-◌, ◌%◌, ◌≤◌, ◌<◌, max}
use mathlib.Core.Path.{◌≡◌, sym, ap, ◌∙◌}
use native.Mathlib.Nat.{mod-lt, mod-eq_of_lt, add-mod_left}
use native.Mathlib.Omega.{arith}
use Rattle.rules.specs.Ring.{place_after}
use Rattle.feeder_lists.proofs.Slots.{place_mod}

pub place_lt : (pre place n : ℕ) → place < pre → place_after pre place n < pre
place_lt pre place n h = rw (place_mod pre n place h) (mod-lt (place + n) (omega arith))

module _ (pre place n : ℕ) (h : place < max pre 1) where
  pub place_ahead : n < pre - place → place + n ≡ place_after pre place n
  place_ahead l = sym (place_mod pre n place (omega arith) ∙ mod-eq_of_lt (omega arith))

  pub place_around : pre - place ≤ n → (pre ≡ 0 → ⊥) → (n - (pre - place)) % pre ≡ place_after pre place n
  place_around l f = sym (place_mod pre n place (omega arith) ∙ ap (λ (x : ℕ). x % pre) whole ∙ add-mod_left pre (n - (pre - place)))
    where
      whole : place + n ≡ pre + (n - (pre - place))
      whole = omega arith
