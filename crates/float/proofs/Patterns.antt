-- The bits of a number hold its floor: for 1 ≤ x < 2^53 the digits under the leading one, shifted down as far as the exponent's field says, are floor(x).
-- Assumes nothing.
use mathlib.Core.Path.{◌≡◌, sym, ap, ◌∙◌, subst}
use mathlib.Core.Bool.{true, false, not}
use Prim.Native.Nat.{ℕ, ◌+◌, ◌-◌, ◌*◌, ◌/◌, ◌%◌, ◌^◌, ◌≤◌, ◌<◌}
use native.Mathlib.Nat.{le_trans, le_of_eq, lt_of_lt_of_le, lt_of_not-le, lt_irrefl, one-mul, mod-lt, div-div-eq-div-mul, mul-div-mul_right, div-lt_iff_lt-mul, le-div_iff_mul-le}
use native.Mathlib.Omega.{arith}
use lib.Bits.{bit_and, bit_or, and_mask, or_shifted_r}
use lib.Dec.{T, lit≤}
use lib.Pow.{pow-add, pow_pos, pow_mono, shr-shr}
use lib.Ieee.{Float, nan, inf, fin, binary64, up, down, size, to_bits, is_nan}
use lib.Ieee.Digits.{size-lt, size-le, size_reaches}
use lib.Ieee.Fits.{down_pos, kept-lt}
use lib.Ieee.Positive.{num, den}
use Rattle.float.specs.Sizes.{Shiftable}

-- ---- a pattern's two fields, for w units of 2^-1074: how many digits w has past 53, and its 53 leading digits. t is 1075
module _ (w t : ℕ) (A : 53 ≤ t) (lo : 1 ≤ w / 2 ^ (t - 1)) (hi : w / 2 ^ (t - 1) < 2 ^ 53) where
  at_least : 2 ^ (t - 1) ≤ w
  at_least = subst (λ (z : ℕ). z ≤ w) (one-mul (2 ^ (t - 1))) ((le-div_iff_mul-le (pow_pos (t - 1))).0 lo)

  at_most : w < 2 ^ (53 + (t - 1))
  at_most = lt_of_lt_of_le ((div-lt_iff_lt-mul (pow_pos (t - 1))).0 hi) (le_of_eq (sym (pow-add 2 53 (t - 1))))

  size_lo : t - 1 < size w
  size_lo = lt_of_not-le (λ (h : size w ≤ t - 1). lt_irrefl w (lt_of_lt_of_le (size-lt w) (le_trans (pow_mono h) at_least)))

  size_hi : size w ≤ 53 + (t - 1)
  size_hi = size-le w (53 + (t - 1)) at_most

  abbrev k : ℕ
  k = size w - 53

  abbrev pub pattern : ℕ
  pattern = 0 + k * 2 ^ 52 + w / 2 ^ k

  full : 2 ^ 52 ≤ w / 2 ^ k
  full = (le-div_iff_mul-le (pow_pos k)).1 (le_trans (le_of_eq (sym (pow-add 2 52 k))) (size_reaches w (52 + k) (go (size w) t A size_lo)))
    where
      go : (z t : ℕ) → 53 ≤ t → t - 1 < z → 52 + (z - 53) < z
      go z t h l = omega arith

  exponent : pattern / 2 ^ 52 ≡ k + 1
  exponent = go k (w / 2 ^ k) full (kept-lt 53 w)
    where
      go : (k q : ℕ) → 4503599627370496 ≤ q → q < 9007199254740992 → (0 + k * 4503599627370496 + q) / 4503599627370496 ≡ k + 1
      go k q a b = omega arith

  digits : 2 ^ 52 + pattern % 2 ^ 52 ≡ w / 2 ^ k
  digits = go k (w / 2 ^ k) full (kept-lt 53 w)
    where
      go : (k q : ℕ) → 4503599627370496 ≤ q → q < 9007199254740992 → 4503599627370496 + (0 + k * 4503599627370496 + q) % 4503599627370496 ≡ q
      go k q a b = omega arith

  pub exponent_hi : pattern / 2 ^ 52 ≤ t
  exponent_hi = go (pattern / 2 ^ 52) (size w) t exponent A size_hi
    where
      go : (e z t : ℕ) → e ≡ z - 53 + 1 → 53 ≤ t → z ≤ 53 + (t - 1) → e ≤ t
      go e z t p A q = omega arith

  pub shift_lt : t - pattern / 2 ^ 52 < 64
  shift_lt = go (pattern / 2 ^ 52) (size w) t exponent size_lo
    where
      go : (e z t : ℕ) → e ≡ z - 53 + 1 → t - 1 < z → t - e < 64
      go e z t p q = omega arith

  pub shift_is : (2 ^ 52 + pattern % 2 ^ 52) / 2 ^ (t - pattern / 2 ^ 52) ≡ w / 2 ^ (t - 1)
  shift_is =
      ap (λ (z : ℕ). z / 2 ^ (t - pattern / 2 ^ 52)) digits
      ∙ shr-shr w k (t - pattern / 2 ^ 52)
      ∙ ap (λ (z : ℕ). w / 2 ^ z) (go (pattern / 2 ^ 52) (size w) t exponent A size_hi)
    where
      go : (e z t : ℕ) → e ≡ z - 53 + 1 → 53 ≤ t → z ≤ 53 + (t - 1) → z - 53 + (t - e) ≡ t - 1
      go e z t p A q = omega arith

-- ---- N / D in units of 2^-1074, shifted down by 1074
scaled : (N D : ℕ) → N * 2 ^ 1074 / D / 2 ^ 1074 ≡ N / D
scaled N D = div-div-eq-div-mul (N * 2 ^ 1074) D (2 ^ 1074) ∙ mul-div-mul_right N D (pow_pos 1074)

-- ---- what the bits b of x give
pub record Read (x : Float) (b : ℕ) : Type 0 where
  pub number : T (not (is_nan x))
  pub exponent_le : b / 2 ^ 52 ≤ 1075
  pub shift_small : 1075 - b / 2 ^ 52 < 64
  pub floor_is : bit_or (bit_and b (2 ^ 52 - 1)) (2 ^ 52) / 2 ^ (1075 - b / 2 ^ 52) ≡ num x / den x

leading : (b : ℕ) → bit_or (bit_and b (2 ^ 52 - 1)) (2 ^ 52) ≡ 2 ^ 52 + b % 2 ^ 52
leading b = ap (λ (z : ℕ). bit_or z (2 ^ 52)) (and_mask b 52) ∙ or_shifted_r 1 52 (b % 2 ^ 52) (mod-lt b (pow_pos 52))

pub read : (x : Float) → Shiftable x → Read x (to_bits binary64 x)
unfolding to_bits is_nan
read nan h = absurd h.number
read (inf s) h = absurd h.number
read (fin true m e) h = absurd h.number
read (fin false m e) h =
    let N = m * up e in
    let D = down e in
    let w = N * 2 ^ 1074 / D in
    let A : 53 ≤ 1075 = lit≤ tt in
    let lo : 1 ≤ w / 2 ^ (1075 - 1) = subst (λ (z : ℕ). 1 ≤ z) (sym (scaled N D)) ((le-div_iff_mul-le (down_pos e)).1 (le_trans (le_of_eq (one-mul D)) h.low)) in
    let hi : w / 2 ^ (1075 - 1) < 2 ^ 53 = subst (λ (z : ℕ). z < 2 ^ 53) (sym (scaled N D)) ((div-lt_iff_lt-mul (down_pos e)).1 h.high) in
    let b = pattern w 1075 A lo hi in
    record {
      number = tt;
      exponent_le = exponent_hi w 1075 A lo hi;
      shift_small = shift_lt w 1075 A lo hi;
      floor_is = ap (λ (z : ℕ). z / 2 ^ (1075 - b / 2 ^ 52)) (leading b) ∙ shift_is w 1075 A lo hi ∙ scaled N D;
    }
