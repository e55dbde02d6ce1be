-- Over stretches in order, the first place on the way that one of them touches, or before it a change, is the first that is touched or a change.
use mathlib.Core.Path.{◌≡◌, refl, sym, ◌∙◌, subst}
use mathlib.Core.Bool.{Bool, true, false, cond, false≢true}
use mathlib.Core.Logic.{◌⊎◌, inl, inr}
use Rattle.std.specs.Prelude.{Option, None, Some}
use Prim.Native.Nat.{ℕ, zero, suc, ◌≤◌, ◌<◌, min, max}
use native.Mathlib.Nat.{le_refl}
use native.Mathlib.Decide.{dec_lt, ℕ_discrete}
use native.Mathlib.Omega.{arith}
use lib.Dec.{leb, eqb}
use borrow.Author.Tests.{leb-true, le-leb, eqb-true}
use Rattle.rules.specs.Walk.{or_found}
use Rattle.rules.specs.Stretches.{Stretch}
use Rattle.rules.specs.Unknown.{Asked, Sooner, Nearest}
use Rattle.rules.proofs.Nearest.{nearest_as}
use Rattle.unknown.specs.Meeting.{meets, met, earlier, cut_at, besides}
use Rattle.unknown.proofs.Certain.{end_of, Touch, Touched, Before}

-- p is the first place that a search from `from` looks at
pub record Entry (back : Bool) (len from p : ℕ) : Type 0 where
  pub asked : Asked back len from p
  pub first : (j : ℕ) → Asked back len from j → Sooner back j p → ⊥

-- ---- one stretch
module _ (len from p : ℕ) (s : Stretch) (some_places : 0 < s.count) (inside : end_of s ≤ len) where
  meets_behind : Entry true len from p → (b : Bool) → leb s.first (min (end_of s) p) ≡ b → Nearest true (Touch s) len from (cond b (Some (min (end_of s) p)) None)
  unfolding Nearest
  meets_behind e true t = (
    (omega (arith, some_places, e.asked.0), omega (arith, e.asked.1), omega (arith, e.asked.2)),
    record { least = leb-true s.first (min (end_of s) p) t; most = omega arith },
    λ j a x y. late j a x y (dec_lt p j),
  )
    where
      late : (j : ℕ) → Asked true len from j → min (end_of s) p < j → Touch s j → Dec (p < j) → ⊥
      late j a x y (yes z) = e.first j a z
      late j a x y (no z) = omega (arith, x, y.most, z)
  meets_behind e false t = λ j a y. late j a y (dec_lt p j) (dec_lt (min (end_of s) p) s.first)
    where
      late : (j : ℕ) → Asked true len from j → Touch s j → Dec (p < j) → Dec (min (end_of s) p < s.first) → ⊥
      late j a y (yes z) w = e.first j a z
      late j a y (no z) (yes w) = omega (arith, y.least, y.most, z, w)
      late j a y (no z) (no w) = false≢true (sym t ∙ le-leb s.first (min (end_of s) p) (omega (arith, w)))

  meets_ahead : Entry false len from p → (b : Bool) → leb (max s.first p) (end_of s) ≡ b → Nearest false (Touch s) len from (cond b (Some (max s.first p)) None)
  unfolding Nearest
  meets_ahead e true t = (
    (omega (arith, e.asked.0), omega (arith, some_places, inside, e.asked.1)),
    record { least = omega arith; most = leb-true (max s.first p) (end_of s) t },
    λ j a x y. late j a x y (dec_lt j p),
  )
    where
      late : (j : ℕ) → Asked false len from j → j < max s.first p → Touch s j → Dec (j < p) → ⊥
      late j a x y (yes z) = e.first j a z
      late j a x y (no z) = omega (arith, x, y.least, z)
  meets_ahead e false t = λ j a y. late j a y (dec_lt j p) (dec_lt (end_of s) (max s.first p))
    where
      late : (j : ℕ) → Asked false len from j → Touch s j → Dec (j < p) → Dec (end_of s < max s.first p) → ⊥
      late j a y (yes z) w = e.first j a z
      late j a y (no z) (yes w) = omega (arith, y.least, y.most, z, w)
      late j a y (no z) (no w) = false≢true (sym t ∙ le-leb (max s.first p) (end_of s) (omega (arith, w)))

  pub meets_nearest : (back : Bool) → Entry back len from p → Nearest back (Touch s) len from (meets back p s.first (end_of s))
  meets_nearest true e = meets_behind e (leb s.first (min (end_of s) p)) refl
  meets_nearest false e = meets_ahead e (leb (max s.first p) (end_of s)) refl

-- ---- all stretches
module _ (back : Bool) (len from p : ℕ) (e : Entry back len from p) (stretch : ℕ → Stretch) (n : ℕ)
    (some_places : (k : ℕ) → k < n → 0 < (stretch k).count) (inside : (k : ℕ) → k < n → end_of (stretch k) ≤ len)
    (rises : (j k : ℕ) → j < k → k < n → Before back (stretch j) (stretch k)) where
  widen : {k i : ℕ} → Touched stretch k i → Touched stretch (suc k) i
  widen t = record { number = t.number; below = omega (arith, t.below); touch = t.touch }

  last : {k i : ℕ} → Touch (stretch k) i → Touched stretch (suc k) i
  last {k} t = record { number = k; below = omega arith; touch = t }

  -- of the first k, or the next one
  split : {k i : ℕ} → Touched stretch (suc k) i → Touched stretch k i ⊎ Touch (stretch k) i
  split {k} {i} t = go (ℕ_discrete t.number k)
    where
      go : Dec (t.number ≡ k) → Touched stretch k i ⊎ Touch (stretch k) i
      go (yes q) = inr (subst (λ (x : ℕ). Touch (stretch x) i) q t.touch)
      go (no q) = inl (record { number = t.number; below = omega (arith, t.below, q); touch = t.touch })

  -- what a later stretch touches comes later
  later : (b : Bool) (r s : Stretch) (i j : ℕ) → Before b r s → Touch r i → Touch s j → Sooner b j i → ⊥
  later true r s i j o x y z = omega (arith, o, x.least, y.most, z)
  later false r s i j o x y z = omega (arith, o, x.most, y.least, z)

  step : (k : ℕ) → k < n → (a b : Option ℕ) → Nearest back (Touched stretch k) len from a → Nearest back (Touch (stretch k)) len from b → Nearest back (Touched stretch (suc k)) len from (or_found a b)
  unfolding Nearest
  step k l (Some i) b h m = (h.0, widen h.1, λ j a x t. go j a x (split t))
    where
      go : (j : ℕ) → Asked back len from j → Sooner back j i → Touched stretch k j ⊎ Touch (stretch k) j → ⊥
      go j a x (inl t) = h.2 j a x t
      go j a x (inr t) = later back (stretch h.1.number) (stretch k) i j (rises h.1.number k h.1.below l) h.1.touch t x
  step k l None None h m = λ j a t. go j a (split t)
    where
      go : (j : ℕ) → Asked back len from j → Touched stretch k j ⊎ Touch (stretch k) j → ⊥
      go j a (inl t) = h j a t
      go j a (inr t) = m j a t
  step k l None (Some c) h m = (m.0, last m.1, λ j a x t. go j a x (split t))
    where
      go : (j : ℕ) → Asked back len from j → Sooner back j c → Touched stretch k j ⊎ Touch (stretch k) j → ⊥
      go j a x (inl t) = h j a t
      go j a x (inr t) = m.2 j a x t

  pub met_nearest : (k : ℕ) → k ≤ n → Nearest back (Touched stretch k) len from (met back p stretch k)
  unfolding met Nearest
  met_nearest zero h = λ j a t. omega (arith, t.below)
  met_nearest (suc k) h =
      step k (omega (arith, h)) (met back p stretch k) (meets back p (stretch k).first (end_of (stretch k))) (met_nearest k (omega (arith, h)))
      (meets_nearest len from p (stretch k) (some_places k (omega (arith, h))) (inside k (omega (arith, h))) back e)

-- ---- and a change before it
module _ (back : Bool) (P T : ℕ → Type 0) (len from p : ℕ) (e : Entry back len from p) (search : ℕ → ℕ → Option ℕ) where
  abbrev pub Either : ℕ → Type 0
  Either i = P i ⊎ T i

  neither : {i : ℕ} → (P i → ⊥) → (T i → ⊥) → Either i → ⊥
  neither f g (inl x) = f x
  neither f g (inr x) = g x

  -- with a stretch met at c, of those that are touched the first
  with_met : (b : Bool) (c : ℕ) → Nearest b T len from (Some c) → (f : Option ℕ) → Nearest b P (cut_at b len c) from f → Nearest b (λ i. P i ⊎ T i) len from (earlier b f c)
  unfolding Nearest
  with_met true c m None s = (m.0, inr m.1, λ j a x. neither (s j a) (m.2 j a x))
  with_met true c m (Some j) s = go (dec_lt c j)
    where
      go : Dec (c < j) → Nearest true (λ i. P i ⊎ T i) len from (Some (max j c))
      go (yes l) = subst (λ (x : ℕ). Nearest true (λ i. P i ⊎ T i) len from (Some x)) (omega (arith, l)) (s.0, inl s.1, λ k a x. neither (s.2 k a x) (m.2 k a (omega (arith, l, x))))
      go (no l) = subst (λ (x : ℕ). Nearest true (λ i. P i ⊎ T i) len from (Some x)) (omega (arith, l)) (m.0, inr m.1, λ k a x. neither (s.2 k a (omega (arith, l, x))) (m.2 k a x))
  with_met false c m None s = (m.0, inr m.1, λ j a x. neither (s j (a.0, x)) (m.2 j a x))
  with_met false c m (Some j) s = (
    (s.0.0, omega (arith, s.0.1, m.0.1)),
    inl s.1,
    λ k a x. neither (s.2 k (a.0, omega (arith, x, s.0.1)) x) (m.2 k a (omega (arith, x, s.0.1))),
  )

  pub besides_nearest : (a : Option ℕ) → Nearest back T len from a → ((hi : ℕ) → hi ≤ len → Nearest back P hi from (search hi from)) → Nearest back Either len from (besides back search len from p a)
  unfolding Nearest
  besides_nearest None m s = nearest_as back P Either len from (λ i a x. inl x) (λ i a x. only i a x) (search len from) (s len (le_refl len))
    where
      only : (i : ℕ) → Asked back len from i → Either i → P i
      only i a (inl x) = x
      only i a (inr x) = absurd (m i a x)
  besides_nearest (Some c) m s = go (eqb c p) refl
    where
      cut : (b : Bool) → Asked b len from c → cut_at b len c ≤ len
      cut true a = le_refl len
      cut false a = omega (arith, a.1)

      go : (t : Bool) → eqb c p ≡ t → Nearest back Either len from (cond t (Some c) (earlier back (search (cut_at back len c) from) c))
      go true q = (m.0, inr m.1, λ j a x y. e.first j a (subst (Sooner back j) (eqb-true c p q) x))
      go false q = with_met back c m (search (cut_at back len c) from) (s (cut_at back len c) (cut back m.0))
