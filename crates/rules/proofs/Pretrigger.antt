-- The samples kept before the trigger: a clamped number lies in 0..top, the samples of a fraction are fewer than limit, and those of seconds at most the cap.
-- Assumes nothing.
use mathlib.Core.Path.{◌≡◌, refl, sym, ap, ◌∙◌}
use mathlib.Core.Bool.{Bool, true, false, cond, not, true≢false}
use Prim.Native.Nat.{ℕ, ◌*◌, ◌/◌, ◌^◌, ◌≤◌, ◌<◌}
use native.Mathlib.Nat.{le_refl, le_trans, le_of_eq, lt_of_lt_of_le, mul-one, mul_assoc, mul_comm, mul_right_comm, mul-mul-mul_comm, mul-pos, mul-le-mul, mul-le-mul_right, le_of_mul-le-mul_right, div-mul-le_self}
use native.Mathlib.Omega.{arith}
use lib.Dec.{T, ltb, nltb→le, lit≤, lit<}
use lib.Pow.{shl_lt}
use lib.Ieee.{Float, nan, inf, fin, binary64, up, down, le, lt, eq, round, mul, of_int, is_nan}
use lib.Ieee.Back.{round_whole}
use lib.Ieee.Exact.{HasValue, round_exact}
use lib.Ieee.Fits.{down_pos}
use lib.Ieee.Positive.{through}
use Rattle.rules.specs.Floor.{floor_of, natural}
use Rattle.rules.specs.Pretrigger.{seconds, nought, most_fraction, clamp, times, fraction_of, Pre, ring_cap, capped, seconds_of, pre_for}
use Rattle.rules.proofs.Floor.{or_l, reversed}
use Rattle.rules.proofs.Round.{Signed, Upto, le_upto, round_upto}

-- ---- "clamped to 0..": from 0 up to top, and no NaN, for which no comparison holds
less : (x y : Float) → T (lt x y) → T (le x y)
unfolding le
less x y h = or_l (lt x y) (eq x y) h

self : (x : Float) → T (le nought x) → T (le x x)
unfolding le lt eq
self nan h = h
self (inf true) h = absurd h
self (inf false) h = tt
self (fin true m e) h = reversed (m * up e * down e) (m * up e * down e) (le_refl (m * up e * down e))
self (fin false m e) h = reversed (m * up e * down e) (m * up e * down e) (le_refl (m * up e * down e))

number : (x : Float) → T (le nought x) → T (not (is_nan x))
unfolding le is_nan
number nan h = h
number (inf s) h = tt
number (fin s m e) h = tt

pub clamp_between : (top p : Float) → T (le nought top) → T (le nought (clamp top p)) × T (le (clamp top p) top) × T (not (is_nan (clamp top p)))
clamp_between top p h = go (lt nought p) (lt p top) (less nought p) (less p top)
  where
    go : (a b : Bool) → (T a → T (le nought p)) → (T b → T (le p top))
        → T (le nought (cond a (cond b p top) nought)) × T (le (cond a (cond b p top) nought) top) × T (not (is_nan (cond a (cond b p top) nought)))
    go true true f g = (f tt, g tt, number p (f tt))
    go true false f g = (h, self top h, number top h)
    go false b f g = (unfold le in tt, h, unfold is_nan in tt)

-- ---- the product
above0 : (p : Float) → T (lt nought p) → Signed false p
unfolding lt
above0 nan h = h
above0 (inf true) h = absurd h
above0 (inf false) h = refl
above0 (fin true m e) h = absurd h
above0 (fin false m e) h = refl

pub clamp_upto : (top p : Float) (a b : ℕ) → Upto a b top → Upto a b (clamp top p)
clamp_upto top p a b u = go (lt nought p) (lt p top) (above0 p) (less p top)
  where
    go : (c d : Bool) → (T c → Signed false p) → (T d → T (le p top)) → Upto a b (cond c (cond d p top) nought)
    go true true f g = le_upto p top a b (f tt) (g tt) u
    go true false f g = u
    go false d f g = omega arith

-- p ≤ k / l, and n × k / l ≤ a / b, which binary64 holds
pub times_upto : (n : ℕ) (p : Float) (k l a b : ℕ) → n ≤ 2 ^ 53 → 0 < l → 0 < b → Upto k l p → n * k * b ≤ a * l → HasValue (round binary64 false a b) false a b → Upto a b (times n p)
unfolding times of_int mul
times_upto n p k l a b h L B u c v = go (round binary64 false n 1) p (round_whole binary64 false n h) u
  where
    scaled : (x d m e : ℕ) → x * 1 ≡ n * d → m * l ≤ k * e → x * m * l ≤ n * k * (d * e)
    scaled x d m e p q = le_trans (le_of_eq (mul_assoc x m l)) (le_trans (mul-le-mul (le_of_eq (sym (mul-one x) ∙ p)) q) (le_of_eq (mul-mul-mul_comm n d k e)))

    go : (x p : Float) → HasValue x false n 1 → Upto k l p → Upto a b (mul binary64 x p)
    go nan p w u = absurd w
    go (inf s) p w u = absurd w
    go (fin true i d) p w u = absurd (true≢false w.0)
    go (fin false i d) nan w u = absurd u
    go (fin false i d) (inf s) w u = absurd u
    go (fin false i d) (fin true m e) w u = absurd u
    go (fin false i d) (fin false m e) w u = round_upto binary64 (i * up d * (m * up e)) (down d * down e) a b (mul-pos (down_pos d) (down_pos e)) B (through (i * up d * (m * up e)) (n * k) a (down d * down e) l b L (scaled (i * up d) (down d) (m * up e) (down e) w.1 u) c) v

-- ---- "floor(limit × p)"
count_upto : (x : Float) (a b : ℕ) → Upto a b x → natural (floor_of x) * b ≤ a
unfolding floor_of
count_upto nan a b u = absurd u
count_upto (inf s) a b u = absurd u
count_upto (fin true m e) a b u = absurd u
count_upto (fin false m e) a b u =
    le_of_mul-le-mul_right (le_trans (le_of_eq (mul_right_comm (m * up e / down e) b (down e))) (le_trans (mul-le-mul_right b (div-mul-le_self (m * up e) (down e))) u)) (down_pos e)

-- 0.99 < 127 / 128, and 127 × limit / 128 is a binary64
most_upto : Upto 127 128 most_fraction
unfolding most_fraction
most_upto = lit≤ tt

pub fraction_share : (limit : ℕ) (p : Float) → limit ≤ 2 ^ 46 → fraction_of limit p * 128 ≤ 127 * limit
fraction_share limit p h =
    count_upto (times limit (clamp most_fraction p)) (127 * limit) 128
    (times_upto limit (clamp most_fraction p) 127 128 (127 * limit) 128 (le_trans h (lit≤ tt)) (lit< tt) (lit< tt) (clamp_upto most_fraction p 127 128 most_upto) (le_of_eq (ap (λ (z : ℕ). z * 128) (mul_comm limit 127)))
    (round_exact binary64 false (127 * limit) 128 (127 * limit) 1067 (lit< tt) (small limit h) (lt_of_lt_of_le (shl_lt 53 1067 (small limit h)) (lit≤ tt)) (sym (mul_assoc (127 * limit) (2 ^ 1067) 128))))
  where
    small : (n : ℕ) → n ≤ 70368744177664 → 127 * n < 9007199254740992
    small n h = omega arith

-- fewer than limit
pub fraction_below : (limit : ℕ) (p : Float) → 0 < limit → limit ≤ 2 ^ 46 → fraction_of limit p < limit
fraction_below limit p l h = go (fraction_of limit p) limit l (fraction_share limit p h)
  where
    go : (n limit : ℕ) → 0 < limit → n * 128 ≤ 127 * limit → n < limit
    go n limit l h = omega arith

-- "at most 67,108,864 / unit"
pub seconds_kept : (t : Float) (limit rate unit : ℕ) → (pre_for (seconds t) limit rate unit).samples ≤ ring_cap unit
seconds_kept t limit rate unit = go (seconds_of rate t) (ring_cap unit)
  where
    go : (wanted cap : ℕ) → (capped wanted cap).samples ≤ cap
    go wanted cap = pick (ltb cap wanted) (nltb→le cap wanted)
      where
        pick : (b : Bool) → (T (not b) → wanted ≤ cap) → (cond {A = Pre} b (record { samples = cap; was_cut = true }) (record { samples = wanted; was_cut = false })).samples ≤ cap
        pick true h = le_refl cap
        pick false h = h tt
