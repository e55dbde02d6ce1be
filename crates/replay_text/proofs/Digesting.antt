-- A loop that takes the digest of a list, place by place. Assumes nothing.
use mathlib.Core.Path.{◌≡◌, refl, sym, ◌∙◌}
use mathlib.Core.List.{List, [], ◌∷◌}
use Prim.Native.Nat.{ℕ, zero, suc, ◌+◌, ◌≤◌, ◌<◌}
use native.Mathlib.Nat.{mod-lt}
use native.Mathlib.Numerals.{add-one}
use native.Mathlib.Omega.{arith}
use lib.ListN.{length, get_or, drop}
use Rattle.replay_text.specs.Digests.{prime, digest_with, digest_of}

-- what the rest of the list makes of d is what the whole list makes of d₀
pub record Digesting (d₀ : ℕ) (l : List ℕ) (d i : ℕ) : Type 0 where
  pub small : d < prime
  pub same : digest_of d (drop i l) ≡ digest_of d₀ l

pub starts : (d₀ : ℕ) (l : List ℕ) → d₀ < prime → Digesting d₀ l d₀ 0
starts d₀ l h = record { small = h; same = refl }

next : (d : ℕ) (l : List ℕ) (i : ℕ) → i < length l → digest_of d (drop i l) ≡ digest_of (digest_with d (get_or l i 0)) (drop (suc i) l)
unfolding digest_of
next d [] i h = omega arith
next d (n ∷ l) zero h = refl
next d (n ∷ l) (suc i) h = next d l i (omega arith)

pub goes_on : (d₀ : ℕ) (l : List ℕ) (d i n d' : ℕ) → Digesting d₀ l d i → i < length l → n ≡ get_or l i 0 → d' ≡ digest_with d n → Digesting d₀ l d' (i + 1)
goes_on d₀ l d i n d' g h e e' =
    record {
      small = rw e' (mod-lt _ (omega arith));
      same = rw (add-one i, e', e) (sym (next d l i h) ∙ g.same);
    }

end : (d : ℕ) (l : List ℕ) (i : ℕ) → length l ≤ i → digest_of d (drop i l) ≡ d
unfolding digest_of
end d [] zero h = refl
end d [] (suc i) h = refl
end d (n ∷ l) zero h = omega arith
end d (n ∷ l) (suc i) h = end d l i (omega arith)

pub ends : (d₀ : ℕ) (l : List ℕ) (d i : ℕ) → Digesting d₀ l d i → length l ≤ i → (d ≡ digest_of d₀ l) × (d < prime)
ends d₀ l d i g h = (sym (end d l i h) ∙ g.same, g.small)
