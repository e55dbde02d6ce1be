-- What comparisons say of a negative number's floor, which is its size rounded up, and of that ceiling. Assumes nothing.
use mathlib.Core.Path.{◌≡◌, refl, sym, ap, ◌∙◌}
use mathlib.Core.Logic.{inl, inr}
use mathlib.Core.Bool.{Bool, true, false, cond, not, ◌&&◌}
use Prim.Native.Nat.{ℕ, zero, suc, ◌+◌, ◌-◌, ◌*◌, ◌/◌, ◌≤◌, ◌<◌}
use native.Mathlib.Nat.{le_antisymm, le_trans, le_of_eq, lt_irrefl, lt_of_not-le, lt_of_le_of_lt, not-suc-le-zero, eq-zero-or-pos, zero-lt-suc, mul-one, mul-lt-mul_of_pos_right, div-mul-le_self, lt-div-mul-add, div-lt_iff_lt-mul, le-div_iff_mul-le}
use native.Mathlib.Omega.{arith}
use lib.Dec.{T, eqb, T_not, lt→ltb}
use lib.IntN.{pos, negsuc, neg_ℤ}
use lib.Ieee.{Float, nan, inf, fin, up, down, le, lt, eq, neg}
use lib.Ieee.Exact.{HasValue}
use lib.Ieee.Fits.{down_pos, and_i, eq→eqb}
use lib.Ieee.Order.{le_of_values}
use lib.Ieee.Scale.{finite}
use lib.Ieee.Positive.{num, den, positive, den_pos, own_value, positive-finite, value_pos, first_pos, above_of_le, values_of_le}
use borrow.Author.Tests.{lt-ltb, le-ltb}
use Rattle.rules.specs.Floor.{Whole, at, floor_of}
use Rattle.rules.specs.Pixel.{moved}
use Rattle.rules.specs.Pretrigger.{nought}
use Rattle.float.specs.Places.{place_of}
use Rattle.float.specs.Sizes.{Under, ceil_of}
use Rattle.float.proofs.Floors.{above_finite}
use Rattle.float.specs.declared.Place.TheVariants.{Below, At, Beyond}

pub nought_le : (y : Float) → T (positive y) → T (le nought y)
nought_le y p = le_of_values nought y 0 1 (num y) (den y) (zero-lt-suc 0) (den_pos y) (refl, refl) (own_value y p) (least (num y) (den y))
  where
    least : (n d : ℕ) → 0 * d ≤ n * 1
    least n d = omega arith

-- ---- z is k: y, above 0, compared with it
of_value : (z : Float) (k : ℕ) → HasValue z false k 1 → T (finite z)
of_value nan k v = absurd v
of_value (inf s) k v = absurd v
of_value (fin s m e) k v = tt

pub upto : (y z : Float) (k : ℕ) → HasValue z false k 1 → T (positive y) → T (le y z) → num y ≤ k * den y
upto y z k v p l = le_trans (le_of_eq (sym (mul-one (num y)))) (values_of_le y z (num y) (den y) k 1 p (above_finite z (above_of_le y z p l) (of_value z k v)) (own_value y p) v l)

pub upto_under : (y z : Float) (k h : ℕ) → HasValue z false k 1 → T (positive y) → T (le y z) → k < h → Under h y
upto_under y z k h v p l m = record { number = positive-finite y p; small = lt_of_le_of_lt (upto y z k v p l) (mul-lt-mul_of_pos_right m (den_pos y)) }

pub past : (y z : Float) (k : ℕ) → HasValue z false k 1 → T (positive y) → T (not (le y z)) → k * den y < num y
past y z k v p l = lt_of_not-le (λ (h : num y ≤ k * den y). T_not (le y z) l (le_of_values y z (num y) (den y) k 1 (den_pos y) (zero-lt-suc 0) (own_value y p) v (le_trans (le_of_eq (mul-one (num y))) h)))

-- ---- n / d rounded up is k: k - 1 < n / d ≤ k
rounded_up : (n d k : ℕ) → 0 < d → n ≤ k * d → k * d < n + d → (n + (d - 1)) / d ≡ k
rounded_up n d k D low high =
    le_antisymm (le_of_suc ((div-lt_iff_lt-mul D).1 (top n d k D low))) ((le-div_iff_mul-le D).1 (omega arith))
  where
    le_of_suc : {a : ℕ} → a < suc k → a ≤ k
    le_of_suc h = omega arith

    top : (n d k : ℕ) → 0 < d → n ≤ k * d → n + (d - 1) < suc k * d
    top n d k D low = omega arith

num_pos : (y : Float) → T (positive y) → 0 < num y
num_pos y p = value_pos y (num y) (den y) p (den_pos y) (own_value y p)

module _ (y : Float) (p : T (positive y)) where
  -- q is the floor of y, and z is q: nothing is left above it, or something is
  module _ (q : ℕ) (e : q ≡ num y / den y) (z : Float) (v : HasValue z false q 1) where
    floor_low : q * den y ≤ num y
    floor_low = rw e (div-mul-le_self (num y) (den y))

    floor_high : num y < q * den y + den y
    floor_high = rw e (lt-div-mul-add {a = num y} (den_pos y))

    pub ceil_whole : T (le y z) → ceil_of y ≡ q
    ceil_whole l = rounded_up (num y) (den y) q (den_pos y) (upto y z q v p l) (within (q * den y) (num y) (den y) floor_low (den_pos y))
      where
        within : (a n d : ℕ) → a ≤ n → 0 < d → a < n + d
        within a n d l D = omega arith

    pub ceil_part : T (not (le y z)) → ceil_of y ≡ q + 1
    ceil_part l = rounded_up (num y) (den y) (q + 1) (den_pos y) (low q (den y) (num y) floor_high) (high q (den y) (num y) (past y z q v p l))
      where
        low : (k d n : ℕ) → n < k * d + d → n ≤ (k + 1) * d
        low k d n l = omega arith

        high : (k d n : ℕ) → k * d < n → (k + 1) * d < n + d
        high k d n l = omega arith

  pub ceil_pos : 1 ≤ ceil_of y
  ceil_pos = (le-div_iff_mul-le (den_pos y)).1 (go (num y) (den y) (num_pos y p) (den_pos y))
    where
      go : (n d : ℕ) → 0 < n → 0 < d → 1 * d ≤ n + (d - 1)
      go n d N D = omega arith

  pub ceil_le : (k : ℕ) → num y ≤ k * den y → ceil_of y ≤ k
  ceil_le k h = le_of_suc ((div-lt_iff_lt-mul (den_pos y)).1 (go (num y) (den y) (den_pos y) h))
    where
      go : (n d : ℕ) → 0 < d → n ≤ k * d → n + (d - 1) < suc k * d
      go n d D l = omega arith

      le_of_suc : {a : ℕ} → a < suc k → a ≤ k
      le_of_suc h = omega arith

  ceil_past : (k : ℕ) → k * den y < num y → k < ceil_of y
  ceil_past k h = (le-div_iff_mul-le (den_pos y)).1 (go (num y) (den y) h)
    where
      go : (n d : ℕ) → k * d < n → suc k * d ≤ n + (d - 1)
      go n d l = omega arith

-- ---- not 0 ≤ x: the floor is −⌈−x⌉
negated : (x : Float) → T (not (le nought x)) → T (finite x) → T (positive (neg x))
unfolding le lt eq neg
negated nan t f = absurd f
negated (inf s) t f = absurd f
negated (fin false m e) t f = absurd (T_not (le nought (fin false m e)) t (le_of_values nought (fin false m e) 0 1 (m * up e) (down e) (zero-lt-suc 0) (down_pos e) (refl, refl) (refl, refl) (least (m * up e) (down e))))
  where
    least : (n d : ℕ) → 0 * d ≤ n * 1
    least n d = omega arith
negated (fin true m e) t f = elim (eq-zero-or-pos (m * up e)) [
  | inl z ↦ absurd (T_not (eqb (0 * down e) (m * up e * 1) && eqb (0 * down e) 0) t (and_i (eqb (0 * down e) (m * up e * 1)) (eqb (0 * down e) 0) (eq→eqb (nil (m * up e) (down e) z)) (eq→eqb (none (down e)))))
  | inr p ↦ lt→ltb 0 m (first_pos m (up e) p)
]
  where
    nil : (n d : ℕ) → n ≡ 0 → 0 * d ≡ n * 1
    nil n d z = omega arith

    none : (d : ℕ) → 0 * d ≡ 0
    none d = omega arith

floor_neg : (x : Float) → T (positive (neg x)) → floor_of x ≡ at (neg_ℤ (pos (ceil_of (neg x))))
unfolding neg floor_of
floor_neg nan p = absurd p
floor_neg (inf s) p = absurd p
floor_neg (fin true m e) p = refl
floor_neg (fin false m e) p = absurd p

-- −k, counted from o
module _ (o h : ℕ) where
  before : (k : ℕ) → 1 ≤ k → k ≤ o → o ≤ h → place_of (moved (pos o) (at (neg_ℤ (pos k)))) h ≡ At (o - k)
  before zero l m n = absurd (lt_irrefl 0 l)
  before (suc k) l m n =
      ap (λ (t : Bool). place_of (at (cond t (negsuc (suc k - suc o)) (pos (o - suc k)))) h) (le-ltb o (suc k) m)
      ∙ ap (λ (t : Bool). cond t (At (o - suc k)) Beyond) (lt-ltb (o - suc k) h (omega arith))

  short : (k : ℕ) → o < k → place_of (moved (pos o) (at (neg_ℤ (pos k)))) h ≡ Below
  short zero l = absurd (not-suc-le-zero l)
  short (suc k) l = ap (λ (t : Bool). place_of (at (cond t (negsuc (suc k - suc o)) (pos (o - suc k)))) h) (lt-ltb o (suc k) l)

-- ---- z is o
-- −x ≤ o: that many places before o
number : (x z : Float) (o : ℕ) → HasValue z false o 1 → T (not (le nought x)) → T (le (neg x) z) → T (finite x)
unfolding le lt eq neg
number nan z o v t l = l
number (inf true) nan o v t l = absurd v
number (inf true) (inf s) o v t l = absurd v
number (inf true) (fin s m e) o v t l = l
number (inf false) z o v t l = absurd t
number (fin s m e) z o v t l = tt

pub size : (x z : Float) (o : ℕ) → HasValue z false o 1 → T (not (le nought x)) → T (le (neg x) z) → T (positive (neg x))
size x z o v t l = negated x t (number x z o v t l)

pub back : (x z : Float) (o h : ℕ) → HasValue z false o 1 → o ≤ h → T (not (le nought x)) → T (le (neg x) z) → place_of (moved (pos o) (floor_of x)) h ≡ At (o - ceil_of (neg x))
back x z o h v m t l =
    let p = size x z o v t l in
    ap (λ (w : Whole). place_of (moved (pos o) w) h) (floor_neg x p)
    ∙ before o h (ceil_of (neg x)) (ceil_pos (neg x) p) (ceil_le (neg x) p o (upto (neg x) z o v p l)) m

-- o < −x: below 0, as a NaN counts
pub below : (x z : Float) (o h : ℕ) → HasValue z false o 1 → T (not (le nought x)) → T (not (le (neg x) z)) → place_of (moved (pos o) (floor_of x)) h ≡ Below
below nan z o h v t l = unfold floor_of in refl
below (inf true) z o h v t l = unfold floor_of in refl
below (inf false) z o h v t l = absurd (unfold le lt eq in t)
below (fin s m e) z o h v t l =
    let x = fin s m e in
    let p = negated x t tt in
    ap (λ (w : Whole). place_of (moved (pos o) w) h) (floor_neg x p) ∙ short o h (ceil_of (neg x)) (ceil_past (neg x) p o (past (neg x) z o v p l))
