-- The whole nodes of a stretch of places [a, e), level by level. A walk that passes all of it spares 31 steps with each whole node above level 0,
-- as that stands for 32 of the level below; so what it takes is the stretch's length less 31 times their number.
use Prim.Native.Nat.{ℕ, zero, suc, ◌+◌, ◌-◌, ◌*◌, ◌/◌, ◌%◌, ◌≤◌, ◌<◌, ◌∣◌, zero-le, suc-le-suc}
use mathlib.Core.Path.{◌≡◌, refl, sym, ap, ◌∙◌, subst⁻¹}
use native.Mathlib.Nat.{le_refl, le_of_suc-le-suc, not-suc-le-zero, lt_of_not-le, zero-lt-suc, pow-suc, mod-mod_of_dvd, dvd-mul_left, dvd_of_mod-eq-zero, mod-eq-zero_of_dvd, dvd_of_mul-dvd-mul_right, mul-dvd-mul_right}
use native.Mathlib.Decide.{ℕ_discrete}
use native.Mathlib.Omega.{arith}
use Rattle.rules.specs.Node.{span}

-- of levels 1 to n, for a and e counted in nodes of level 0
unfoldable pub wholes : ℕ → ℕ → ℕ → ℕ
wholes zero a e = 0
wholes (suc n) a e = e / 32 - (a + 31) / 32 + wholes n ((a + 31) / 32) (e / 32)

wholes_none : (n a e : ℕ) → e ≤ a → wholes n a e ≡ 0
unfolding wholes
wholes_none zero a e h = refl
wholes_none (suc n) a e h = omega (arith, wholes_none n ((a + 31) / 32) (e / 32) (omega arith))

pub wholes_le : (n a e : ℕ) → 31 * wholes n a e ≤ e - a
unfolding wholes
wholes_le zero a e = zero-le
wholes_le (suc n) a e = omega (arith, wholes_le n ((a + 31) / 32) (e / 32))

-- at most 31 nodes of each level stand before the whole ones of the level above, and 31 behind
pub wholes_most : (n a e : ℕ) → e - a ≤ span n → e - a ≤ 31 * wholes n a e + 62 * n + 1
unfolding wholes
wholes_most zero a e h = omega arith
wholes_most (suc n) a e h = omega (arith, wholes_most n ((a + 31) / 32) (e / 32) (omega (arith, pow-suc 32 n)))

-- ---- one step
-- the same place in nodes of level 0 and of level 1
finer : (l x : ℕ) → x % span l ≡ 0 → x * 32 % span (suc l) ≡ 0
finer l x h = ap (λ (d : ℕ). x * 32 % d) (pow-suc 32 l) ∙ mod-eq-zero_of_dvd (span l * 32) (mul-dvd-mul_right (span l) (dvd_of_mod-eq-zero (span l) h) 32)

coarser : (l x : ℕ) → x * 32 % span (suc l) ≡ 0 → x % span l ≡ 0
coarser l x h =
    mod-eq-zero_of_dvd (span l) (dvd_of_mul-dvd-mul_right (span l) (zero-lt-suc 31) (dvd_of_mod-eq-zero (span l * 32) (ap (λ (d : ℕ). x * 32 % d) (sym (pow-suc 32 l)) ∙ h)))

by_units : (l a : ℕ) → a % span (suc l) ≡ 0 → a ≡ a / 32 * 32
by_units l a h = omega (arith, sym (mod-mod_of_dvd 32 a (subst⁻¹ (λ (d : ℕ). 32 ∣ d) (pow-suc 32 l) (dvd-mul_left 32 (span l)))) ∙ ap (λ (x : ℕ). x % 32) h)

-- level l fits at a
pub record Whole (l a e : ℕ) : Type 0 where
  pub aligned : a % span l ≡ 0
  pub room : a + span l ≤ e

-- k is the highest level up to n that fits at a
pub record Highest (n k a e : ℕ) : Type 0 where
  pub level : k ≤ n
  pub fits : Whole k a e
  pub none_above : (l : ℕ) → k < l → l ≤ n → Whole l a e → ⊥

wholes_at : (n x e : ℕ) → wholes (suc n) (x * 32) e ≡ e / 32 - x + wholes n x (e / 32)
unfolding wholes
wholes_at n x e = ap (λ (y : ℕ). e / 32 - y + wholes n y (e / 32)) (omega arith)

-- a step at level 0 leaves the whole nodes as they are
wholes_same : (n a e : ℕ) → a + 1 ≤ e → (0 < n → Whole 1 a e → ⊥) → wholes n (a + 1) e ≡ wholes n a e
unfolding wholes
wholes_same zero a e h no_whole = refl
wholes_same (suc n) a e h no_whole = go (ℕ_discrete (a % 32) 0)
  where
    go : Dec (a % 32 ≡ 0) → wholes (suc n) (a + 1) e ≡ wholes (suc n) a e
    go (yes z) =
        let short : e < a + 32 = lt_of_not-le (λ room. no_whole (zero-lt-suc n) (record { aligned = z; room = room })) in
        omega (arith, wholes_none n ((a + 1 + 31) / 32) (e / 32) (omega arith), wholes_none n ((a + 31) / 32) (e / 32) (omega arith))
    go (no z) = ap (λ (y : ℕ). e / 32 - y + wholes n y (e / 32)) (omega arith)

-- a step at the highest level that fits spares what its node stands for
pub wholes_step : (n k a e : ℕ) → Highest n k a e → 31 * wholes n (a + span k) e + span k ≡ 31 * wholes n a e + 1
wholes_step n zero a e h = ap (λ (x : ℕ). 31 * x + 1) (wholes_same n a e h.fits.room (λ l. h.none_above 1 (le_refl 1) l))
wholes_step zero (suc k) a e h = absurd (not-suc-le-zero h.level)
wholes_step (suc n) (suc k) a e h = subst⁻¹ (λ (y : ℕ). 31 * wholes (suc n) (y + span (suc k)) e + span (suc k) ≡ 31 * wholes (suc n) y e + 1) a_is (scaled (wholes_step n k x (e / 32) below))
  where
    x : ℕ
    x = a / 32

    a_is : a ≡ x * 32
    a_is = by_units k a h.fits.aligned

    at_level : (l : ℕ) → Whole l x (e / 32) → Whole (suc l) a e
    at_level l f = record { aligned = ap (λ (y : ℕ). y % span (suc l)) a_is ∙ finer l x f.aligned; room = omega (arith, a_is, pow-suc 32 l, f.room) }

    below : Highest n k x (e / 32)
    below = record {
      level = le_of_suc-le-suc h.level;
      fits = record { aligned = coarser k x (ap (λ (y : ℕ). y % span (suc k)) (sym a_is) ∙ h.fits.aligned); room = omega (arith, pow-suc 32 k, h.fits.room) };
      none_above = λ l a b f. h.none_above (suc l) (suc-le-suc a) (suc-le-suc b) (at_level l f);
    }

    scaled : 31 * wholes n (x + span k) (e / 32) + span k ≡ 31 * wholes n x (e / 32) + 1 → 31 * wholes (suc n) (x * 32 + span (suc k)) e + span (suc k) ≡ 31 * wholes (suc n) (x * 32) e + 1
    scaled ih = omega (arith, wholes_at n x e, ap (λ (y : ℕ). wholes (suc n) y e) next ∙ wholes_at n (x + span k) e, pow-suc 32 k, below.fits.room)
      where
        next : x * 32 + span (suc k) ≡ (x + span k) * 32
        next = omega (arith, pow-suc 32 k)
