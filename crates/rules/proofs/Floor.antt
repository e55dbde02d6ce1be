-- The whole numbers of a value x = ±m·2^e are right: floor(x) ≤ x < floor(x) + 1, of either sign; and the nearest, of x's sign, has a size
-- within a half of x's, with a half away from zero. `le` and `lt` are lib.Ieee's: exact, on every m·2^e. Assumes nothing.
use mathlib.Core.Path.{◌≡◌, refl, sym, ap}
use mathlib.Core.Bool.{Bool, true, false, ◌&&◌, ◌||◌}
use mathlib.Core.Logic.{inl, inr}
use Prim.Native.Nat.{ℕ, zero, suc, ◌+◌, ◌-◌, ◌*◌, ◌/◌, ◌≤◌, ◌<◌}
use native.Mathlib.Nat.{eq-or-lt_of_le, mul-one, mul-pos, zero-lt-suc, div-mul-le_self, lt-div-mul-add}
use native.Mathlib.Omega.{arith}
use lib.IntN.{ℤ, pos, negsuc, neg_ℤ, suc_ℤ}
use lib.Dec.{T, ltb, eqb, lt→ltb}
use lib.Ieee.{Float, nan, inf, fin, up, down, le, lt}
use lib.Ieee.Fits.{down_pos, and_i, eq→eqb}
use lib.Ieee.Order.{le_of_values}
use lib.Ieee.Scale.{finite}
use Rattle.rules.specs.Floor.{at, floor_of, nearest_of}

-- the whole number n, and k halves, as values
abbrev pub whole : ℤ → Float
whole (pos n) = fin false n (pos 0)
whole (negsuc k) = fin true (suc k) (pos 0)

abbrev pub halves : ℕ → Float
halves k = fin false k (negsuc 0)

-- n ≤ x < n + 1
abbrev pub Floored : Float → ℤ → Type 0
Floored x n = T (le (whole n) x) × T (lt x (whole (suc_ℤ n)))

-- ---- x = m·2^e = N / D: q ≤ N / D < q + 1
above0 : (m : ℕ) (e : ℤ) (q : ℕ) → q * down e ≤ m * up e → m * up e < q * down e + down e → Floored (fin false m e) (pos q)
unfolding lt
above0 m e q a b = (
  le_of_values (whole (pos q)) (fin false m e) q 1 (m * up e) (down e) (zero-lt-suc 0) (down_pos e) (refl, mul-one (q * 1)) (refl, refl) (low q (m * up e) (down e) a),
  lt→ltb (m * up e * 1) (suc q * 1 * down e) (high q (m * up e) (down e) b),
)
  where
    low : (q n d : ℕ) → q * d ≤ n → q * d ≤ n * 1
    low q n d h = omega arith

    high : (q n d : ℕ) → n < q * d + d → n * 1 < suc q * 1 * d
    high q n d h = omega arith

-- ---- x = −N / D: −k ≤ −N / D < −k + 1
pub or_l : (a b : Bool) → T a → T (a || b)
or_l true b t = tt
or_l false b t = absurd t

or_r : (a b : Bool) → T b → T (a || b)
or_r true b t = tt
or_r false b t = t

-- −a ≤ −b, as `le` tests it
pub reversed : (a b : ℕ) → b ≤ a → T (ltb b a || (eqb a b && true))
reversed a b h = elim (eq-or-lt_of_le h) [ inl e ↦ or_r (ltb b a) (eqb a b && true) (and_i (eqb a b) true (eq→eqb (sym e)) tt) | inr l ↦ or_l (ltb b a) (eqb a b && true) (lt→ltb b a l) ]

below0 : (m : ℕ) (e : ℤ) (k : ℕ) → m * up e ≤ k * down e → k * down e < m * up e + down e → Floored (fin true m e) (neg_ℤ (pos k))
unfolding le lt
below0 m e zero a b = (
  and_i (eqb (0 * 1 * down e) (m * up e * 1)) (eqb (0 * 1 * down e) 0) (eq→eqb (low (m * up e) (down e) a)) (eq→eqb (none (down e))),
  lt→ltb 0 (m * up e * 1 + 1 * 1 * down e) (high (m * up e) (down e) (down_pos e)),
)
  where
    low : (n d : ℕ) → n ≤ 0 * d → 0 * 1 * d ≡ n * 1
    low n d h = omega arith

    none : (d : ℕ) → 0 * 1 * d ≡ 0
    none d = omega arith

    high : (n d : ℕ) → 0 < d → 0 < n * 1 + 1 * 1 * d
    high n d h = omega arith
below0 m e (suc zero) a b = (
  reversed (1 * 1 * down e) (m * up e * 1) (low (m * up e) (down e) a),
  lt→ltb 0 (m * up e * 1 + 0 * 1 * down e) (high (m * up e) (down e) b),
)
  where
    low : (n d : ℕ) → n ≤ 1 * d → n * 1 ≤ 1 * 1 * d
    low n d h = omega arith

    high : (n d : ℕ) → 1 * d < n + d → 0 < n * 1 + 0 * 1 * d
    high n d h = omega arith
below0 m e (suc (suc j)) a b = (
  reversed (suc (suc j) * 1 * down e) (m * up e * 1) (low (suc (suc j)) (m * up e) (down e) a),
  lt→ltb (suc j * 1 * down e) (m * up e * 1) (high (suc j) (m * up e) (down e) b),
)
  where
    low : (k n d : ℕ) → n ≤ k * d → n * 1 ≤ k * 1 * d
    low k n d h = omega arith

    high : (k n d : ℕ) → suc k * d < n + d → k * 1 * d < n * 1
    high k n d h = omega arith

-- ---- "and then the floor is taken": every finite x has one, and floor(x) ≤ x < floor(x) + 1
pub floor_right : (x : Float) → T (finite x) → (n : ℤ) × (floor_of x ≡ at n) × Floored x n
unfolding floor_of
floor_right nan t = absurd t
floor_right (inf s) t = absurd t
floor_right (fin false m e) t =
    let q = m * up e / down e in
    (pos q, refl, above0 m e q (div-mul-le_self (m * up e) (down e)) (lt-div-mul-add (down_pos e)))
floor_right (fin true m e) t =
    let n = m * up e + (down e - 1) in
    let k = n / down e in
    (neg_ℤ (pos k), refl, below0 m e k (low (m * up e) (down e) (k * down e) (down_pos e) (lt-div-mul-add (down_pos e))) (high (m * up e) (down e) (k * down e) (down_pos e) (div-mul-le_self n (down e))))
  where
    low : (n d k : ℕ) → 0 < d → n + (d - 1) < k + d → n ≤ k
    low n d k h l = omega arith

    high : (n d k : ℕ) → 0 < d → k ≤ n + (d - 1) → k < n + d
    high n d k h l = omega arith

-- ---- "rounded with halves away from zero": ±k with k − 1/2 ≤ |x| < k + 1/2 (of k = 0, 0 ≤ |x| < 1/2)
abbrev pub signed : Bool → ℕ → ℤ
signed false k = pos k
signed true k = neg_ℤ (pos k)

pub nearest_right : (s : Bool) (m : ℕ) (e : ℤ)
    → (k : ℕ) × (nearest_of (fin s m e) ≡ at (signed s k)) × T (le (halves (2 * k - 1)) (fin false m e)) × T (lt (fin false m e) (halves (2 * k + 1)))
unfolding nearest_of lt
nearest_right s m e =
    let n = 2 * (m * up e) + down e in
    let k = n / (2 * down e) in (
      k,
      same s,
      le_of_values (halves (2 * k - 1)) (fin false m e) (2 * k - 1) 2 (m * up e) (down e) (zero-lt-suc 1) (down_pos e) (refl, ap (λ (z : ℕ). z * 2) (mul-one (2 * k - 1))) (refl, refl) (low k (m * up e) (down e) (div-mul-le_self n (2 * down e))),
      lt→ltb (m * up e * 2) ((2 * k + 1) * 1 * down e) (high k (m * up e) (down e) (lt-div-mul-add (mul-pos (zero-lt-suc 1) (down_pos e)))),
    )
  where
    same : (s : Bool) → nearest_of (fin s m e) ≡ at (signed s ((2 * (m * up e) + down e) / (2 * down e)))
    same false = refl
    same true = refl

    low : (k n d : ℕ) → k * (2 * d) ≤ 2 * n + d → (2 * k - 1) * d ≤ n * 2
    low zero n d h = omega arith
    low (suc j) n d h = let e : 2 * suc j - 1 ≡ 2 * j + 1 = omega arith in rw e (omega arith)

    high : (k n d : ℕ) → 2 * n + d < k * (2 * d) + 2 * d → n * 2 < (2 * k + 1) * 1 * d
    high k n d h = omega arith
