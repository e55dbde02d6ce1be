-- The change that a search finds from a place, in either direction. 01: Search; 02: CR 13.
use mathlib.Core.Path.{◌≡◌, refl, subst}
use mathlib.Core.Bool.{Bool}
use Rattle.std.specs.Prelude.{Option, None, Some}
use Prim.Native.Nat.{ℕ}
use Rattle.rules.specs.Search.{changed}
use Rattle.rules.specs.Bursts.{IsChange}
use Rattle.rules.specs.Unknown.{search_at, Asked, Sooner, Nearest}
use Rattle.rules.proofs.Nearest.{asked_least, asked_most, Holds, search_nearest}

module _ (s : ℕ → ℕ) (len mask : ℕ) (back : Bool) (from : ℕ) where
  abbrev Ch : ℕ → Type 0
  Ch = IsChange s len mask

  -- the first one on the way
  pub record Neighbour (n : ℕ) : Type 0 where
    pub is : Ch n
    pub asked : Asked back len from n
    pub first : (i : ℕ) → Ch i → Asked back len from i → Sooner back i n → ⊥

  pub neighbour : (n : ℕ) → search_at back (changed s mask) len from ≡ Some n → Neighbour n
  unfolding Nearest
  neighbour n e =
      let h = subst (Nearest back (Holds (changed s mask)) len from) e (search_nearest back (changed s mask) len from) in
      record { is = record { least = asked_least back len from n h.0; most = asked_most back len from n h.0; changes = h.1 }; asked = h.0; first = λ i c a b. h.2 i a b c.changes }

  -- where one is on the way, there is a first one
  pub there : (c : ℕ) → Ch c → Asked back len from c → (n : ℕ) × (search_at back (changed s mask) len from ≡ Some n) × (Sooner back c n → ⊥)
  unfolding Nearest
  there c is a = go (search_at back (changed s mask) len from) refl
    where
      go : (o : Option ℕ) → search_at back (changed s mask) len from ≡ o → (n : ℕ) × (search_at back (changed s mask) len from ≡ Some n) × (Sooner back c n → ⊥)
      go None e = absurd (subst (Nearest back (Holds (changed s mask)) len from) e (search_nearest back (changed s mask) len from) c a is.changes)
      go (Some n) e = (n, e, λ h. (neighbour n e).first c is a h)
