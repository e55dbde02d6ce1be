-- Laws of a scan that counts changes, each sample beside the one before it: where it starts, one sample more, and its end.
use Prim.Native.Nat.{ℕ, suc, ◌+◌, ◌-◌, ◌≤◌, ◌<◌}
use mathlib.Core.Path.{◌≡◌, sym, ap, ap₂, ◌∙◌}
use native.Mathlib.Omega.{arith}
use Rattle.rules.specs.Node.{differs, count_of, changes_in, cap_count, node_of}
use Rattle.rules.proofs.Node.{changes_few}

-- what a scan that has come to i knows of the samples a to i, i not among them
pub record Scanned (s : ℕ → ℕ) (a b last count i : ℕ) : Type 0 where
  pub low : a < i
  pub high : i ≤ b
  pub last_is : last ≡ s (i - 1)
  pub changed : count ≡ changes_in s a i

module _ (s : ℕ → ℕ) (a b : ℕ) where
  pub scan_starts : (v : ℕ) → a < b → v ≡ s a → Scanned s a b v 0 (a + 1)
  unfolding count_of
  scan_starts v h e = record { low = omega arith; high = omega arith; last_is = e ∙ ap s here; changed = sym (ap (count_of s a) none) }
    where
      here : a ≡ a + 1 - 1
      here = omega arith

      none : a + 1 - 1 - a ≡ 0
      none = omega arith

  pub scan_on : (last count i v d : ℕ) → Scanned s a b last count i → i < b → v ≡ s i → d ≡ differs v last → Scanned s a b v (count + d) (i + 1)
  unfolding count_of
  scan_on last count i v d p h ev ed = record {
    low = omega (arith, p.low);
    high = omega arith;
    last_is = ev ∙ ap s here;
    changed = ap₂ (λ (x y : ℕ). x + y) p.changed (ed ∙ ap₂ differs ev p.last_is ∙ ap (λ (j : ℕ). differs (s j) (s (j - 1))) at) ∙ sym (ap (count_of s a) more);
  }
    where
      here : i ≡ i + 1 - 1
      here = omega arith

      at : i ≡ a + suc (i - 1 - a)
      at = omega (arith, p.low)

      more : i + 1 - 1 - a ≡ suc (i - 1 - a)
      more = omega (arith, p.low)

  -- the sum stays below the number of samples
  pub scan_few : (last count i : ℕ) → Scanned s a b last count i → count < b
  scan_few last count i p = omega (arith, p.changed, p.high, p.low, changes_few s a i p.low)

  pub scan_ends : (last count i : ℕ) → Scanned s a b last count i → b ≤ i → cap_count count ≡ (node_of s a b).count
  unfolding node_of
  scan_ends last count i p h = ap cap_count (p.changed ∙ ap (changes_in s a) end)
    where
      end : i ≡ b
      end = omega (arith, p.high)
