-- Over stretches in order, crossing them one by one leaves the first change on the way that none of them touches.
use mathlib.Core.Path.{◌≡◌, subst}
use mathlib.Core.Bool.{Bool, true, false}
use Rattle.std.specs.Prelude.{Option, None, Some}
use Prim.Native.Nat.{ℕ, zero, suc, ◌+◌, ◌≤◌, ◌<◌}
use native.Mathlib.Decide.{dec_lt, ℕ_discrete}
use native.Mathlib.Omega.{arith}
use Rattle.rules.specs.Stretches.{Stretch}
use Rattle.rules.specs.Unknown.{Asked, Sooner, Nearest}
use Rattle.rules.proofs.Nearest.{nearest_as}
use Rattle.unknown.specs.Crossing.{resume, crossing, crossed}
use Rattle.unknown.proofs.Crossing.{stays_before, stays_behind, goes_on}

-- ---- a stretch and a place
abbrev pub end_of : Stretch → ℕ
end_of s = s.first + s.count

-- a change there has a sample of the stretch beside it
pub record Touch (s : Stretch) (i : ℕ) : Type 0 where
  pub least : s.first ≤ i
  pub most : i ≤ end_of s

pub touch? : (s : Stretch) (i : ℕ) → Dec (Touch s i)
touch? s i = go (dec_lt i s.first) (dec_lt (end_of s) i)
  where
    go : Dec (i < s.first) → Dec (end_of s < i) → Dec (Touch s i)
    go (yes h) k = no (λ t. omega (arith, h, t.least))
    go (no h) (yes k) = no (λ t. omega (arith, k, t.most))
    go (no h) (no k) = yes (record { least = omega (arith, h); most = omega (arith, k) })

-- one of the first k stretches touches a place, or none does
pub record Touched (stretch : ℕ → Stretch) (k i : ℕ) : Type 0 where
  pub number : ℕ
  pub below : number < k
  pub touch : Touch (stretch number) i

abbrev pub Clear : (ℕ → Stretch) → ℕ → ℕ → Type 0
Clear stretch k i = (j : ℕ) → j < k → Touch (stretch j) i → ⊥

-- a change that none of them touches
abbrev pub Left : (ℕ → Type 0) → (ℕ → Stretch) → ℕ → ℕ → Type 0
Left P stretch k i = P i × Clear stretch k i

-- a lies wholly before b on the way
abbrev pub Before : Bool → Stretch → Stretch → Type 0
Before true a b = end_of b < a.first
Before false a b = end_of a < b.first

-- ---- behind a stretch
module _ (back : Bool) (len from : ℕ) (s : Stretch) where
  -- what does not come before a touched place, and is not touched, lies behind
  goes_behind : (i j : ℕ) → Touch s i → (Sooner back j i → ⊥) → (Touch s j → ⊥) → Asked back len from j → Asked back len (resume back s.first (end_of s)) j
  goes_behind i j t h k a = go back h a
    where
      outside : s.first ≤ j → j ≤ end_of s → ⊥
      outside x y = k (record { least = x; most = y })

      go : (b : Bool) → (Sooner b j i → ⊥) → Asked b len from j → Asked b len (resume b s.first (end_of s)) j
      go true h a = (a.0, side (dec_lt j s.first), a.2)
        where
          side : Dec (j < s.first) → j ≤ resume true s.first (end_of s)
          side (yes x) = omega (arith, x)
          side (no x) = absurd (outside (omega (arith, x)) (not_more (dec_lt i j)))
            where
              not_more : Dec (i < j) → j ≤ end_of s
              not_more (yes y) = absurd (h y)
              not_more (no y) = omega (arith, y, t.most)
      go false h a = (side (dec_lt (end_of s) j), a.1)
        where
          side : Dec (end_of s < j) → end_of s < j
          side (yes x) = x
          side (no x) = absurd (outside (not_less (dec_lt j i)) (omega (arith, x)))
            where
              not_less : Dec (j < i) → s.first ≤ j
              not_less (yes y) = absurd (h y)
              not_less (no y) = omega (arith, y, t.least)

  -- what lies behind is asked too, and no stretch up to this one touches it
  pub record Behind (j : ℕ) : Type 0 where
    pub asked : Asked back len from j
    pub free : Touch s j → ⊥
    pub others : (r : Stretch) → Before back r s → Touch r j → ⊥

  lies_behind : (i j : ℕ) → Touch s i → Asked back len from i → Asked back len (resume back s.first (end_of s)) j → Behind j
  lies_behind i j t a h = record { asked = go back a h; free = λ x. alone back h x; others = λ r o x. apart back r h o x }
    where
      go : (b : Bool) → Asked b len from i → Asked b len (resume b s.first (end_of s)) j → Asked b len from j
      go true a h = (h.0, omega (arith, h.0, h.1, a.1, t.least), h.2)
      go false a h = (omega (arith, h.0, a.0, t.most), h.1)

      alone : (b : Bool) → Asked b len (resume b s.first (end_of s)) j → Touch s j → ⊥
      alone true h x = omega (arith, h.0, h.1, x.least)
      alone false h x = omega (arith, h.0, x.most)

      apart : (b : Bool) (r : Stretch) → Asked b len (resume b s.first (end_of s)) j → Before b r s → Touch r j → ⊥
      apart true r h o x = omega (arith, h.0, h.1, o, x.least)
      apart false r h o x = omega (arith, h.0, o, x.most)

-- ---- all stretches
module _ (back : Bool) (P : ℕ → Type 0) (len : ℕ) (search : ℕ → Option ℕ) (is : (from : ℕ) → Nearest back P len from (search from)) (stretch : ℕ → Stretch) (n : ℕ)
    (rises : (j k : ℕ) → j < k → k < n → Before back (stretch j) (stretch k)) (from : ℕ) where
  fewer : (k i : ℕ) → Clear stretch (suc k) i → Clear stretch k i
  fewer k i h j l = h j (omega (arith, l))

  more : (k i : ℕ) → Clear stretch k i → (Touch (stretch k) i → ⊥) → Clear stretch (suc k) i
  more k i h f j l = go (ℕ_discrete j k)
    where
      go : Dec (j ≡ k) → Touch (stretch j) i → ⊥
      go (yes e) t = f (subst (λ (x : ℕ). Touch (stretch x) i) e t)
      go (no e) t = h j (omega (arith, l, e)) t

  step : (k : ℕ) → k < n → (f : Option ℕ) → Nearest back (Left P stretch k) len from f → Nearest back (Left P stretch (suc k)) len from (crossing search back (stretch k).first (end_of (stretch k)) f)
  unfolding Nearest
  step k l None h = λ i a p. h i a (p.0, fewer k i p.1)
  step k l (Some i) h = go (touch? (stretch k) i)
    where
      s : Stretch
      s = stretch k

      b : ℕ
      b = resume back s.first (end_of s)

      -- none of those left lies before the place behind which the search goes on
      left_behind : Touch s i → (j : ℕ) → Asked back len from j → Left P stretch (suc k) j → Asked back len b j
      left_behind t j a p = goes_behind back len from s i j t (λ x. h.2 j a x (p.0, fewer k j p.1)) (p.1 k (omega arith)) a

      found : Touch s i → (g : Option ℕ) → Nearest back P len b g → Nearest back (Left P stretch (suc k)) len from g
      found t None m = λ j a p. m j (left_behind t j a p) p.0
      found t (Some j) m =
          let w = lies_behind back len from s i j t h.0 m.0 in
          (w.asked, (m.1, more k j (λ r y. w.others (stretch r) (rises r k y l)) w.free), λ x a y p. m.2 x (left_behind t x a p) y p.0)

      go : Dec (Touch s i) → Nearest back (Left P stretch (suc k)) len from (crossing search back s.first (end_of s) (Some i))
      go (yes t) = subst (Nearest back (Left P stretch (suc k)) len from) (goes_on search back s.first (end_of s) i t.least t.most) (found t (search b) (is b))
      go (no t) = subst (Nearest back (Left P stretch (suc k)) len from) (stays (dec_lt i s.first)) (h.0, (h.1.0, more k i h.1.1 t), λ j a x p. h.2 j a x (p.0, fewer k j p.1))
        where
          stays : Dec (i < s.first) → Some i ≡ crossing search back s.first (end_of s) (Some i)
          stays (yes x) = stays_before search back s.first (end_of s) i x
          stays (no x) = stays_behind search back s.first (end_of s) i (omega (arith, x)) (past (dec_lt (end_of s) i))
            where
              past : Dec (end_of s < i) → end_of s < i
              past (yes y) = y
              past (no y) = absurd (t (record { least = omega (arith, x); most = omega (arith, y) }))

  pub crossed_nearest : (k : ℕ) → k ≤ n → Nearest back (Left P stretch k) len from (crossed search back stretch k (search from))
  unfolding crossed
  crossed_nearest zero h = nearest_as back P (Left P stretch 0) len from (λ i a p. (p, λ j l. absurd (omega (arith, l)))) (λ i a p. p.0) (search from) (is from)
  crossed_nearest (suc k) h = step k (omega (arith, h)) (crossed search back stretch k (search from)) (crossed_nearest k (omega (arith, h)))
