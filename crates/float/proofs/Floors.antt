-- What comparisons with 0 and a whole number say of a number's floor, and that the library's casts and rounding give the rules' whole numbers. Assumes nothing.
use mathlib.Core.Path.{◌≡◌, refl, sym, ap, ◌∙◌, subst}
use mathlib.Core.Bool.{Bool, true, false, cond, not, true≢false}
use Prim.Native.Nat.{ℕ, zero, suc, ◌+◌, ◌-◌, ◌*◌, ◌/◌, ◌^◌, ◌≤◌, ◌<◌, min}
use native.Mathlib.Nat.{le_trans, le_of_eq, lt_of_le_of_lt, mul-one, mul-pos, mul_right_comm, mul-le-mul_right, lt_of_not-le, zero-add, mul-lt-mul_of_pos_right, le_of_mul-le-mul_right, lt_of_mul-lt-mul_right, lt_of_lt_of_le, div-eq_of_lt, div-lt_iff_lt-mul, le-div_iff_mul-le}
use native.Mathlib.Omega.{arith}
use lib.Dec.{T, T_not, ltb, eqb, ltb→lt, lt→ltb, nltb→le, eqb→eq, le→leb}
use lib.IntN.{ℤ, pos, neg_ℤ}
use lib.Ieee.{Float, nan, inf, fin, binary64, up, down, le, lt, eq, round, of_int, in_float, to_unsigned}
use lib.Ieee.Back.{round_whole, unsigned_back}
use lib.Ieee.Exact.{HasValue}
use lib.Ieee.Fits.{down_pos, and_l}
use lib.Ieee.Positive.{num, den, positive, above, own_value, above_of_le, values_of_le}
use lib.Ieee.Order.{le_of_values}
use lib.Ieee.Scale.{finite}
use borrow.Author.Tests.{lt-ltb, le-ltb}
use Rattle.std.specs.Float.{float_is_finite, float_round, round_with, minus_one, two_to}
use Rattle.rules.specs.Floor.{Whole, at, floor_of, nearest_of, natural}
use Rattle.rules.specs.Pixel.{moved}
use Rattle.rules.specs.Pretrigger.{nought, one, clamp, times}
use Rattle.rules.proofs.Round.{Upto, Signed, round_signed}
use Rattle.rules.proofs.Pretrigger.{clamp_upto, times_upto}
use Rattle.float.specs.Places.{place_of}
use Rattle.float.specs.Sizes.{Under, Shiftable}
use Rattle.float.specs.declared.Place.TheVariants.{At, Beyond}

-- ---- a test's answer as a fact
pub yes : {b : Bool} → b ≡ true → T b
yes h = subst T (sym h) tt

pub no : {b : Bool} → b ≡ false → T (not b)
no h = subst (λ (a : Bool). T (not a)) (sym h) tt

pub finite_is : (x : Float) → float_is_finite x ≡ finite x
unfolding float_is_finite
finite_is nan = refl
finite_is (inf s) = refl
finite_is (fin s m e) = refl

-- ---- a whole number as a float
pub castable : (n : ℕ) → n ≤ 2 ^ 53 → T (in_float binary64 (pos n))
unfolding in_float
castable n h = le→leb n (2 ^ 53) h

pub whole_value : (n : ℕ) → n ≤ 2 ^ 53 → HasValue (of_int binary64 (pos n)) false n 1
unfolding of_int
whole_value n h = round_whole binary64 false n h

pub above_finite : (x : Float) → T (above x) → T (finite x) → T (positive x)
above_finite nan a f = a
above_finite (inf s) a f = absurd f
above_finite (fin true m e) a f = a
above_finite (fin false m e) a f = a

-- ---- y is h: x = N / D and y = M / E compared
same_cross : (M E D h : ℕ) → M * 1 ≡ h * E → M * D ≡ h * D * E
same_cross M E D h v = ap (λ (z : ℕ). z * D) (sym (mul-one M) ∙ v) ∙ mul_right_comm h E D

-- 0 ≤ −m·2^e: it is −0
no_size : (m : ℕ) (e : ℤ) → T (le nought (fin true m e)) → m * up e ≡ 0
unfolding le lt eq
no_size m e a = go (m * up e) (down e) (eqb→eq (0 * down e) (m * up e * 1) (and_l (eqb (0 * down e) (m * up e * 1)) (eqb (0 * down e) 0) a))
  where
    go : (n d : ℕ) → 0 * d ≡ n * 1 → n ≡ 0
    go n d h = omega arith

pub under : (x y : Float) (h : ℕ) → HasValue y false h 1 → T (le nought x) → T (lt x y) → Under h x
unfolding lt
under nan y h v a l = absurd (unfold le lt eq in a)
under (inf s) nan h v a l = absurd v
under (inf s) (inf t) h v a l = absurd v
under (inf true) (fin t n d) h v a l = absurd (unfold le lt eq in a)
under (inf false) (fin t n d) h v a l = absurd l
under (fin true m e) nan h v a l = absurd v
under (fin true m e) (inf t) h v a l = absurd v
under (fin true m e) (fin true n d) h v a l = absurd (true≢false v.0)
under (fin true m e) (fin false n d) h v a l = record { number = tt; small = go (m * up e) (down e) (n * up d) (down d) h (no_size m e a) (down_pos e) v.1 (ltb→lt 0 (m * up e * down d + n * up d * down e) l) }
  where
    go : (M E N D h : ℕ) → M ≡ 0 → 0 < E → N * 1 ≡ h * D → 0 < M * D + N * E → M < h * E
    go M E N D zero z p w q =
        let n : N ≡ 0 = omega (arith, w) in
        absurd (omega (arith, ap (λ (k : ℕ). k * D) z, ap (λ (k : ℕ). k * E) n))
    go M E N D (suc h) z p w q = omega arith
under (fin false m e) nan h v a l = absurd v
under (fin false m e) (inf t) h v a l = absurd v
under (fin false m e) (fin true n d) h v a l = absurd (true≢false v.0)
under (fin false m e) (fin false n d) h v a l = record {
  number = tt;
  small = lt_of_mul-lt-mul_right (down d) (lt_of_lt_of_le (ltb→lt (m * up e * down d) (n * up d * down e) l) (le_of_eq (same_cross (n * up d) (down d) (down e) h v.1)));
}

-- ---- −0 and the numbers from 0 on: the floor is what a cast gives
floor_nought : (m : ℕ) (e : ℤ) → T (le nought (fin true m e)) → floor_of (fin true m e) ≡ at (pos 0)
unfolding floor_of
floor_nought m e a =
    ap (λ (n : ℕ). at (neg_ℤ (pos ((n + (down e - 1)) / down e)))) (no_size m e a) ∙ ap (λ (k : ℕ). at (neg_ℤ (pos k))) (div-eq_of_lt (last (down e) (down_pos e)))
  where
    last : (d : ℕ) → 0 < d → 0 + (d - 1) < d
    last d h = omega arith

-- below 2^53 nothing is cut off
quotient_under : (n d h : ℕ) → 0 < d → n < h * d → n / d < h
quotient_under n d h p l = (div-lt_iff_lt-mul p).1 l

uncut : (q h : ℕ) → q < h → h ≤ 2 ^ 53 → min q (2 ^ 64 - 1) ≡ q
uncut q h l m = omega arith

pub cast_under : (x : Float) (h : ℕ) → h ≤ 2 ^ 53 → Under h x → to_unsigned 64 x < h
unfolding to_unsigned
cast_under nan h k u = absurd u.number
cast_under (inf s) h k u = absurd u.number
cast_under (fin true m e) h k u = go (m * up e) (down e) h u.small
  where
    go : (n d h : ℕ) → n < h * d → 0 < h
    go n d zero l = absurd (omega arith)
    go n d (suc h) l = omega arith
cast_under (fin false m e) h k u = let l = quotient_under (m * up e) (down e) h (down_pos e) u.small in subst (λ (n : ℕ). n < h) (sym (uncut (m * up e / down e) h l k)) l

pub floor_cast : (x : Float) (h : ℕ) → h ≤ 2 ^ 53 → T (le nought x) → Under h x → floor_of x ≡ at (pos (to_unsigned 64 x))
unfolding to_unsigned
floor_cast nan h k a u = absurd u.number
floor_cast (inf s) h k a u = absurd u.number
floor_cast (fin true m e) h k a u = floor_nought m e a
floor_cast (fin false m e) h k a u = unfold floor_of in ap (λ (n : ℕ). at (pos n)) (sym (uncut (m * up e / down e) h (quotient_under (m * up e) (down e) h (down_pos e) u.small) k))

-- of any number, 0 where the floor is negative
no_count : (k : ℕ) → natural (at (neg_ℤ (pos k))) ≡ 0
no_count zero = refl
no_count (suc k) = refl

pub floor_is : (x : Float) → Under (2 ^ 53) x → to_unsigned 64 x ≡ natural (floor_of x)
unfolding to_unsigned floor_of
floor_is nan u = absurd u.number
floor_is (inf s) u = absurd u.number
floor_is (fin true m e) u = sym (no_count ((m * up e + (down e - 1)) / down e))
floor_is (fin false m e) u = uncut (m * up e / down e) (2 ^ 53) (quotient_under (m * up e) (down e) (2 ^ 53) (down_pos e) u.small) (le→ (2 ^ 53))
  where
    le→ : (n : ℕ) → n ≤ n
    le→ n = omega arith

-- above 0 it is n / d cut
pub cast_is : (x : Float) (h : ℕ) → h ≤ 2 ^ 53 → T (positive x) → Under h x → to_unsigned 64 x ≡ num x / den x
unfolding to_unsigned
cast_is nan h k p u = absurd p
cast_is (inf s) h k p u = absurd p
cast_is (fin true m e) h k p u = absurd p
cast_is (fin false m e) h k p u = uncut (m * up e / down e) h (quotient_under (m * up e) (down e) h (down_pos e) u.small) k

-- ---- 1 ≤ x, and 0 ≤ x < 1
pub nought_of_one : (x : Float) → T (le one x) → T (le nought x)
nought_of_one x l = go x (above_of_le one x tt l)
  where
    go : (x : Float) → T (above x) → T (le nought x)
    go nan a = absurd a
    go (inf true) a = absurd a
    go (inf false) a = unfold le lt eq in tt
    go (fin true m e) a = absurd a
    go (fin false m e) a = le_of_values nought (fin false m e) 0 1 (m * up e) (down e) (lt_one 0) (down_pos e) (refl, refl) (refl, refl) (least (m * up e) (down e))
      where
        least : (n d : ℕ) → 0 * d ≤ n * 1
        least n d = omega arith

        lt_one : (n : ℕ) → n < n + 1
        lt_one n = omega arith

pub shiftable : (x : Float) (h : ℕ) → h ≤ 2 ^ 53 → T (le one x) → Under h x → Shiftable x
shiftable x h k l u =
    let p = above_finite x (above_of_le one x tt l) u.number in
    record {
      number = p;
      low = go (num x) (den x) (values_of_le one x 1 1 (num x) (den x) tt p (refl, refl) (own_value x p) l);
      high = lt_of_lt_of_le u.small (mul-le-mul_right (den x) k);
    }
  where
    go : (n d : ℕ) → 1 * d ≤ n * 1 → d ≤ n
    go n d h = omega arith

-- −0 included, the floor is 0
floor_zero : (x : Float) → T (le nought x) → T (not (le one x)) → floor_of x ≡ at (pos 0)
unfolding floor_of
floor_zero nan a t = absurd (unfold le lt eq in a)
floor_zero (inf true) a t = absurd (unfold le lt eq in a)
floor_zero (inf false) a t = absurd (unfold le lt eq in t)
floor_zero (fin true m e) a t = floor_nought m e a
floor_zero (fin false m e) a t = ap (λ (n : ℕ). at (pos n)) (div-eq_of_lt (less (m * up e) (down e) (λ (h : down e ≤ m * up e). T_not (le one (fin false m e)) t (le_of_values one (fin false m e) 1 1 (m * up e) (down e) (lt_one 0) (down_pos e) (refl, refl) (refl, refl) (wide (m * up e) (down e) h)))))
  where
    less : (n d : ℕ) → (d ≤ n → ⊥) → n < d
    less n d f = lt_of_not-le f

    wide : (n d : ℕ) → d ≤ n → 1 * d ≤ n * 1
    wide n d h = omega arith

    lt_one : (n : ℕ) → n < n + 1
    lt_one n = omega arith

-- its place, counted from o, is o
pub first_place : (x : Float) (o h : ℕ) (b : Bool) → T (le nought x) → T (not (le one x)) → ltb o h ≡ b → cond b (At o) Beyond ≡ place_of (moved (pos o) (floor_of x)) h
first_place x o h b a l e =
    ap (λ (t : Bool). cond t (At o) Beyond) (sym e)
    ∙ ap (λ (n : ℕ). cond (ltb n h) (At n) Beyond) (sym (zero-add o))
    ∙ ap (λ (w : Whole). place_of (moved (pos o) w) h) (sym (floor_zero x a l))

-- ---- what the casts require
pub above_minus : (x : Float) → T (le nought x) → T (lt minus_one x)
unfolding lt
above_minus nan a = unfold le lt eq in absurd a
above_minus (inf true) a = unfold le lt eq in absurd a
above_minus (inf false) a = tt
above_minus (fin true m e) a = lt→ltb (m * up e * 1) (1 * 1 * down e) (go (m * up e) (down e) (no_size m e a) (down_pos e))
  where
    go : (n d : ℕ) → n ≡ 0 → 0 < d → n * 1 < 1 * 1 * d
    go n d z p = omega arith
above_minus (fin false m e) a = lt→ltb 0 (1 * 1 * down e + m * up e * 1) (go (m * up e) (down e) (down_pos e))
  where
    go : (n d : ℕ) → 0 < d → 0 < 1 * 1 * d + n * 1
    go n d p = omega arith

pub below_top : (x : Float) (h : ℕ) → h ≤ 2 ^ 53 → Under h x → T (lt x (two_to 64))
unfolding lt
below_top nan h k u = absurd u.number
below_top (inf s) h k u = absurd u.number
below_top (fin true m e) h k u = lt→ltb 0 (m * up e * 1 + 1 * 2 ^ 64 * down e) (go (m * up e) (down e) (down_pos e))
  where
    go : (n d : ℕ) → 0 < d → 0 < n * 1 + 1 * 2 ^ 64 * d
    go n d p = omega arith
below_top (fin false m e) h k u = lt→ltb (m * up e * 1) (1 * 2 ^ 64 * down e) (go (m * up e) (down e) u.small (down_pos e))
  where
    go : (n d : ℕ) → n < h * d → 0 < d → n * 1 < 1 * 2 ^ 64 * d
    go n d l p = omega (arith, lt_of_lt_of_le l (le_times h (2 ^ 53) d k))
      where
        le_times : (a b d : ℕ) → a ≤ b → a * d ≤ b * d
        le_times a b d l = mul-le-mul_right d l

-- ---- a place, counted from o
-- x < h - o: below h
pub placed : (x : Float) (o h : ℕ) → h ≤ 2 ^ 53 → T (le nought x) → Under (h - o) x → place_of (moved (pos o) (floor_of x)) h ≡ At (to_unsigned 64 x + o)
placed x o h k a u =
    let q = to_unsigned 64 x in
    let l : q < h - o = cast_under x (h - o) (omega arith) u in
    ap (λ (w : Whole). place_of (moved (pos o) w) h) (floor_cast x (h - o) (omega arith) a u) ∙ ap (λ (t : Bool). cond t (At (q + o)) Beyond) (lt-ltb (q + o) h (omega arith))

-- h - o ≤ x: beyond
pub beyond : (x y : Float) (o h : ℕ) → HasValue y false (h - o) 1 → T (le nought x) → T (not (lt x y)) → place_of (moved (pos o) (floor_of x)) h ≡ Beyond
unfolding lt floor_of
beyond nan y o h v a l = absurd (unfold le lt eq in a)
beyond (inf true) y o h v a l = absurd (unfold le lt eq in a)
beyond (inf false) y o h v a l = refl
beyond (fin true m e) nan o h v a l = absurd v
beyond (fin true m e) (inf t) o h v a l = absurd v
beyond (fin true m e) (fin true n d) o h v a l = absurd (true≢false v.0)
beyond (fin true m e) (fin false n d) o h v a l =
    let far : h - o ≡ 0 = go (m * up e) (down e) (n * up d) (down d) (h - o) (down_pos e) (down_pos d) v.1 (nltb→le 0 (m * up e * down d + n * up d * down e) l) in
    ap (λ (w : Whole). place_of (moved (pos o) w) h) (floor_nought m e a) ∙ ap (λ (t : Bool). cond t (At (0 + o)) Beyond) (le-ltb (0 + o) h (omega arith))
  where
    go : (M E N D k : ℕ) → 0 < E → 0 < D → N * 1 ≡ k * D → M * D + N * E ≤ 0 → k ≡ 0
    go M E N D zero p q w s = refl
    go M E N D (suc k) p q w s = let n : 0 < N = omega (arith, w) in absurd (omega (arith, mul-pos n p))
beyond (fin false m e) nan o h v a l = absurd v
beyond (fin false m e) (inf t) o h v a l = absurd v
beyond (fin false m e) (fin true n d) o h v a l = absurd (true≢false v.0)
beyond (fin false m e) (fin false n d) o h v a l =
    let q = m * up e / down e in
    let far : h - o ≤ q =
    (le-div_iff_mul-le (down_pos e)).1
    (le_of_mul-le-mul_right (le_trans (le_of_eq (sym (same_cross (n * up d) (down d) (down e) (h - o) v.1))) (nltb→le (m * up e * down d) (n * up d * down e) l)) (down_pos d))
    in
    ap (λ (t : Bool). cond t (At (q + o)) Beyond) (le-ltb (q + o) h (omega arith))

-- ---- the nearest whole number
uncounted : (z : Float) → Signed true z → to_unsigned 64 z ≡ 0
unfolding to_unsigned
uncounted nan s = absurd s
uncounted (inf t) s = ap (λ (b : Bool). cond b 0 (2 ^ 64 - 1)) s
uncounted (fin t m e) s = ap (λ (b : Bool). cond b 0 (min (m * up e / down e) (2 ^ 64 - 1))) s

pub nearest_is : (x : Float) → Under (2 ^ 52) x → to_unsigned 64 (float_round binary64 x) ≡ natural (nearest_of x)
unfolding round_with nearest_of of_int
nearest_is nan u = absurd u.number
nearest_is (inf s) u = absurd u.number
nearest_is (fin true m e) u =
    let n = (2 * (m * up e) + down e) / (2 * down e) in
    uncounted (round binary64 true n 1) (round_signed binary64 true n 1) ∙ sym (no_count n)
nearest_is (fin false m e) u =
    let n = (2 * (m * up e) + down e) / (2 * down e) in
    (unsigned_back binary64 64 n (castable n (few (m * up e) (down e) u.small (down_pos e))) (fits n (few (m * up e) (down e) u.small (down_pos e)))).1
  where
    few : (a d : ℕ) → a < 2 ^ 52 * d → 0 < d → (2 * a + d) / (2 * d) ≤ 2 ^ 53
    few a d l p = le_more ((2 * a + d) / (2 * d)) (quotient_under (2 * a + d) (2 * d) (2 ^ 52 + 1) (omega arith) (omega arith))
      where
        le_more : (q : ℕ) → q < 2 ^ 52 + 1 → q ≤ 2 ^ 53
        le_more q h = omega arith

    fits : (q : ℕ) → q ≤ 2 ^ 53 → q < 2 ^ 64
    fits q h = omega arith

-- ---- a whole number n below h, times a number clamped to 0..top, with top at most 1
upto_under : (x : Float) (n h : ℕ) → n < h → Upto n 1 x → Under h x
upto_under nan n h l u = absurd u
upto_under (inf s) n h l u = absurd u
upto_under (fin true m e) n h l u = absurd u
upto_under (fin false m e) n h l u = record { number = tt; small = lt_of_le_of_lt (le_trans (le_of_eq (sym (mul-one (m * up e)))) u) (mul-lt-mul_of_pos_right l (down_pos e)) }

pub product : (n h : ℕ) (top p : Float) → n < h → n ≤ 2 ^ 53 → Upto 1 1 top → Under h (times n (clamp top p))
product n h top p l H u =
    upto_under (times n (clamp top p)) n h l
    (times_upto n (clamp top p) 1 1 n 1 H (lt_one 0) (lt_one 0) (clamp_upto top p 1 1 u) (le_of_eq (mul-one (n * 1))) (round_whole binary64 false n H))
  where
    lt_one : (n : ℕ) → n < n + 1
    lt_one n = omega arith
