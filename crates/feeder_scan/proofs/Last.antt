-- The last of samples that stand from a place on.
use Prim.Native.Nat.{ℕ, zero, suc, ◌+◌, ◌-◌, ◌≤◌}
use mathlib.Core.Path.{◌≡◌, sym, ap, ◌∙◌}
use Rattle.std.specs.Prelude.{Option, Some}
use native.Mathlib.Omega.{arith}
use Rattle.rules.specs.Sample.{list_from}
use Rattle.rules.specs.Trigger.{last_of}

module _ (s : ℕ → ℕ) where
  -- of the samples from place a on, after the one before them
  pub last_after : (n a : ℕ) → last_of (Some (s (a - 1))) (list_from s a n) ≡ Some (s (a + n - 1))
  unfolding last_of list_from
  last_after zero a = ap (λ (x : ℕ). Some (s x)) None
    where
      None : a - 1 ≡ a + 0 - 1
      None = omega arith
  last_after (suc n) a = ap (λ (x : ℕ). last_of (Some (s x)) (list_from s (a + 1) n)) here ∙ last_after n (a + 1) ∙ ap (λ (x : ℕ). Some (s x)) more
    where
      here : a ≡ a + 1 - 1
      here = omega arith

      more : a + 1 + n - 1 ≡ a + suc n - 1
      more = omega arith

  pub last_none : (q : Option ℕ) (n : ℕ) → n ≡ 0 → q ≡ last_of q (list_from s 0 n)
  unfolding last_of list_from
  last_none q n e = rw e

  pub last_some : (q : Option ℕ) (n : ℕ) → 1 ≤ n → Some (s (n - 1)) ≡ last_of q (list_from s 0 n)
  unfolding last_of list_from
  last_some q zero h = absurd (omega arith)
  last_some q (suc n) h = ap (λ (x : ℕ). Some (s x)) more ∙ sym (last_after n 1)
    where
      more : suc n - 1 ≡ 1 + n - 1
      more = omega arith
