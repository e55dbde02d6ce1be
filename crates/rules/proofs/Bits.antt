-- Laws of the bit operations, for numbers of any width, each from the lines: two numbers with equal lines are equal.
use Prim.Native.Nat.{ℕ, zero, suc, ◌+◌, ◌-◌, ◌*◌, ◌/◌, ◌%◌, ◌^◌, ◌≤◌, ◌<◌, min, max}
use mathlib.Core.Path.{◌≡◌, refl, sym, ap, ap₂, ◌∙◌}
use native.Mathlib.Nat.{le_refl, le_of_suc-le-suc, not-suc-le-zero, div-add-mod', mod-lt, zero-lt-suc, zero-div, div_self, div-eq_of_lt, mul-mod_left, mul-div_cancel, pow-suc}
use native.Mathlib.Decide.{dec_lt}
use native.Mathlib.Omega.{arith}
use lib.Arith.{half_le, le-zero, digits_mod}
use lib.Pow.{shr-shr, pow_pos, pow-lt, pow-add}
use Rattle.rules.specs.Sample.{line}
use lib.Bits.{bit_and, bit_or, bit_xor, differ, and_step, or_step, xor_step, and_shr, or_shr, xor_shr, or_add_and, or_comm, and_le_l, and_le_r}

pub line_lt : (x k : ℕ) → line x k < 2
unfolding line
line_lt x k = mod-lt (x / 2 ^ k) (zero-lt-suc 1)

pub line_zero : (k : ℕ) → line 0 k ≡ 0
unfolding line
line_zero k = ap (λ (z : ℕ). z % 2) (zero-div (2 ^ k))

-- 2 ^ k has line k, and no other
pub power_has : (k : ℕ) → line (2 ^ k) k ≡ 1
unfolding line
power_has k = ap (λ (z : ℕ). z % 2) (div_self (pow_pos k))

pub power_only : (j k : ℕ) → line (2 ^ j) k ≡ 1 → k ≡ j
unfolding line
power_only j k e = go (dec_lt j k) (dec_lt k j)
  where
    below : j < k → 2 ^ j / 2 ^ k % 2 ≡ 0
    below h = ap (λ (z : ℕ). z % 2) (div-eq_of_lt (pow-lt h))

    above : k < j → 2 ^ j / 2 ^ k % 2 ≡ 0
    above h =
        ap (λ (n : ℕ). 2 ^ n / 2 ^ k % 2) split
        ∙ ap (λ (n : ℕ). n / 2 ^ k % 2) (pow-add 2 (suc d) k)
        ∙ ap (λ (n : ℕ). n % 2) (mul-div_cancel (2 ^ suc d) (pow_pos k) ∙ pow-suc 2 d)
        ∙ mul-mod_left (2 ^ d) 2
      where
        d : ℕ
        d = j - suc k

        split : j ≡ suc d + k
        split = omega arith

    go : Dec (j < k) → Dec (k < j) → k ≡ j
    go (yes h) d = absurd (omega (arith, below h))
    go (no h) (yes l) = absurd (omega (arith, above l))
    go (no h) (no l) = omega arith

-- a fact of 0 and 1 holds of each number below 2
pub two_cases : (P : ℕ → Type 0) → P 0 → P 1 → (x : ℕ) → x < 2 → P x
two_cases P p q zero h = p
two_cases P p q (suc zero) h = q
two_cases P p q (suc (suc x)) h = absurd (not-suc-le-zero (le_of_suc-le-suc (le_of_suc-le-suc h)))

-- and one of four such numbers, of the sixteen ways that there are
pub sixteen : (P : ℕ → ℕ → ℕ → ℕ → Type 0)
    → P 0 0 0 0 → P 0 0 0 1 → P 0 0 1 0 → P 0 0 1 1 → P 0 1 0 0 → P 0 1 0 1 → P 0 1 1 0 → P 0 1 1 1
    → P 1 0 0 0 → P 1 0 0 1 → P 1 0 1 0 → P 1 0 1 1 → P 1 1 0 0 → P 1 1 0 1 → P 1 1 1 0 → P 1 1 1 1
    → (a b c d : ℕ) → a < 2 → b < 2 → c < 2 → d < 2 → P a b c d
sixteen P p0 p1 p2 p3 p4 p5 p6 p7 q0 q1 q2 q3 q4 q5 q6 q7 a b c d ha hb hc hd =
    two_cases (λ (a : ℕ). P a b c d)
    (two_cases (λ (b : ℕ). P 0 b c d) (four 0 0 p0 p1 p2 p3) (four 0 1 p4 p5 p6 p7) b hb)
    (two_cases (λ (b : ℕ). P 1 b c d) (four 1 0 q0 q1 q2 q3) (four 1 1 q4 q5 q6 q7) b hb) a ha
  where
    four : (a b : ℕ) → P a b 0 0 → P a b 0 1 → P a b 1 0 → P a b 1 1 → P a b c d
    four a b x y z w =
        two_cases (λ (c : ℕ). P a b c d) (two_cases (λ (d : ℕ). P a b 0 d) x y d hd) (two_cases (λ (d : ℕ). P a b 1 d) z w d hd) c hc

module _ (x y : ℕ) (h : (k : ℕ) → line x k ≡ line y k) where
  low_line : x % 2 ≡ y % 2
  unfolding line
  low_line = omega (arith, h 0)

  half_lines : (k : ℕ) → line (x / 2) k ≡ line (y / 2) k
  unfolding line
  half_lines k = ap (λ (z : ℕ). z % 2) (shr-shr x 1 k) ∙ h (1 + k) ∙ ap (λ (z : ℕ). z % 2) (sym (shr-shr y 1 k))

ext_go : (f x y : ℕ) → x ≤ f → y ≤ f → ((k : ℕ) → line x k ≡ line y k) → x ≡ y
ext_go zero x y hx hy h = le-zero hx ∙ sym (le-zero hy)
ext_go (suc f) x y hx hy h =
    sym (div-add-mod' x 2)
    ∙ ap₂ (λ (p q : ℕ). p * 2 + q) (ext_go f (x / 2) (y / 2) (half_le hx) (half_le hy) (half_lines x y h)) (low_line x y h)
    ∙ div-add-mod' y 2

pub lines_ext : (x y : ℕ) → ((k : ℕ) → line x k ≡ line y k) → x ≡ y
lines_ext x y h = ext_go (max x y) x y (omega arith) (omega arith) h

differ_lt : (x y : ℕ) → x < 2 → y < 2 → differ x y < 2
differ_lt x y hx hy =
    two_cases (λ (x : ℕ). differ x y < 2) hy (two_cases (λ (y : ℕ). differ 1 y < 2) (le_refl 2) (zero-lt-suc 1) y hy) x hx

module _ (op f : ℕ → ℕ → ℕ) (step : (a b : ℕ) → op a b ≡ op (a / 2) (b / 2) * 2 + f (a % 2) (b % 2))
    (small : (x y : ℕ) → x < 2 → y < 2 → f x y < 2)
    (shr : (a b k : ℕ) → op a b / 2 ^ k ≡ op (a / 2 ^ k) (b / 2 ^ k)) where
  odd_op : (a b : ℕ) → op a b % 2 ≡ f (a % 2) (b % 2)
  odd_op a b =
      ap (λ (z : ℕ). z % 2) (step a b)
      ∙ digits_mod (op (a / 2) (b / 2)) (small (a % 2) (b % 2) (mod-lt a (zero-lt-suc 1)) (mod-lt b (zero-lt-suc 1)))

  line_op : (a b k : ℕ) → line (op a b) k ≡ f (line a k) (line b k)
  unfolding line
  line_op a b k = ap (λ (z : ℕ). z % 2) (shr a b k) ∙ odd_op (a / 2 ^ k) (b / 2 ^ k)

pub line_and : (a b k : ℕ) → line (bit_and a b) k ≡ min (line a k) (line b k)
line_and = line_op bit_and min and_step (λ x y hx hy. omega arith) and_shr

pub line_or : (a b k : ℕ) → line (bit_or a b) k ≡ max (line a k) (line b k)
line_or = line_op bit_or max or_step (λ x y hx hy. omega arith) or_shr

pub line_xor : (a b k : ℕ) → line (bit_xor a b) k ≡ differ (line a k) (line b k)
line_xor = line_op bit_xor differ xor_step differ_lt xor_shr

pub or_assoc : (a b c : ℕ) → bit_or (bit_or a b) c ≡ bit_or a (bit_or b c)
or_assoc a b c = lines_ext _ _ (λ k. simp line_or (omega arith))

pub and_or : (a b m : ℕ) → bit_and (bit_or a b) m ≡ bit_or (bit_and a m) (bit_and b m)
and_or a b m = lines_ext _ _ (λ k. simp (line_or, line_and) (omega arith))

pub and_assoc : (a b c : ℕ) → bit_and (bit_and a b) c ≡ bit_and a (bit_and b c)
and_assoc a b c = lines_ext _ _ (λ k. simp line_and (omega arith))

-- of three numbers below 2, where one operation is no max or min
line_and_xor : (x y z : ℕ) → x < 2 → y < 2 → z < 2 → min (differ x y) z ≡ differ (min x z) (min y z)
line_and_xor x y z hx hy hz =
    two_cases (λ (x : ℕ). min (differ x y) z ≡ differ (min x z) (min y z))
    (two_cases (λ (y : ℕ). min (differ 0 y) z ≡ differ (min 0 z) (min y z))
    (two_cases (λ (z : ℕ). min (differ 0 0) z ≡ differ (min 0 z) (min 0 z)) refl refl z hz)
    (two_cases (λ (z : ℕ). min (differ 0 1) z ≡ differ (min 0 z) (min 1 z)) refl refl z hz) y hy)
    (two_cases (λ (y : ℕ). min (differ 1 y) z ≡ differ (min 1 z) (min y z))
    (two_cases (λ (z : ℕ). min (differ 1 0) z ≡ differ (min 1 z) (min 0 z)) refl refl z hz)
    (two_cases (λ (z : ℕ). min (differ 1 1) z ≡ differ (min 1 z) (min 1 z)) refl refl z hz) y hy)
    x hx

pub and_xor : (a b m : ℕ) → bit_and (bit_xor a b) m ≡ bit_xor (bit_and a m) (bit_and b m)
and_xor a b m =
    lines_ext _ _ (λ k. simp (line_xor, line_and) (line_and_xor (line a k) (line b k) (line m k) (line_lt a k) (line_lt b k) (line_lt m k)))

-- an or is 0 exactly where both are
pub or_zero : {a b : ℕ} → a ≡ 0 → b ≡ 0 → bit_or a b ≡ 0
or_zero {a} {b} p q = ap₂ bit_or p q

pub or_zero_left : (a b : ℕ) → bit_or a b ≡ 0 → a ≡ 0
or_zero_left a b e = omega (arith, or_add_and a b, and_le_r a b)

pub or_zero_right : (a b : ℕ) → bit_or a b ≡ 0 → b ≡ 0
or_zero_right a b e = omega (arith, or_add_and a b, and_le_l a b)

pub or_left_comm : (a b c : ℕ) → bit_or a (bit_or b c) ≡ bit_or b (bit_or a c)
or_left_comm a b c = sym (or_assoc a b c) ∙ ap (λ (z : ℕ). bit_or z c) (or_comm a b) ∙ or_assoc b a c

-- both sides of an equation of ors, sorted alike
pub ruleset or-sort = (or_assoc, or_comm, or_left_comm)
