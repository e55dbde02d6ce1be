-- What rounding gives is no NaN, has the sign asked for, and is at most what a larger fraction gives. Assumes nothing.
use mathlib.Core.Path.{◌≡◌, refl}
use mathlib.Core.Bool.{Bool, true, false, cond, ◌&&◌, ◌||◌, true≢false}
use Prim.Native.Nat.{ℕ, zero, suc, ◌+◌, ◌-◌, ◌*◌, ◌/◌, ◌%◌, ◌^◌, ◌≤◌, ◌<◌, compare}
use native.Mathlib.Nat.{le_of_eq, le_of_lt}
use lib.Dec.{T, ltb, eqb, eqb→eq, ltb→lt}
use lib.Ieee.{Float, nan, inf, fin, Format, up, down, prec, emax, low, size, nearest, odd, units, round, le, lt, eq}
use lib.Ieee.Exact.{HasValue}
use lib.Ieee.Fits.{down_pos}
use lib.Ieee.Order.{round_mono}
use lib.Ieee.Positive.{through}

-- a number with the sign s, or an infinity with it
abbrev pub Signed : Bool → Float → Type 0
Signed s nan = ⊥
Signed s (inf t) = t ≡ s
Signed s (fin t m e) = t ≡ s

-- 0 ≤ x ≤ a / b, without −0
abbrev pub Upto : ℕ → ℕ → Float → Type 0
Upto a b nan = ⊥
Upto a b (inf s) = ⊥
Upto a b (fin true m e) = ⊥
Upto a b (fin false m e) = m * up e * b ≤ a * down e

odd_signed : (d : ℕ) (s : Bool) (q k l : ℕ) → Signed s (odd d s q k l)
unfolding odd
odd_signed d s zero k l = refl
odd_signed d s (suc q) k l = refl

units_signed : (f : Format) (s : Bool) (q k : ℕ) → Signed s (units f s q k)
unfolding units
units_signed f s q k = go (ltb (q * 2 ^ k) (2 ^ (low f + suc (emax f))))
  where
    go : (b : Bool) → Signed s (cond b (odd (suc (prec f)) s q k (low f)) (inf s))
    go true = odd_signed (suc (prec f)) s q k (low f)
    go false = refl

pub round_signed : (f : Format) (s : Bool) (a b : ℕ) → Signed s (round f s a b)
unfolding round
round_signed f s a b =
    let n = a * 2 ^ low f in
    let k = size (n / b) - prec f in
    let u = b * 2 ^ k in
    units_signed f s (nearest (n / u) (compare (n % u * 2) u)) k

at_most : (m n : ℕ) → T (ltb m n || (eqb m n && true)) → m ≤ n
at_most m n t = go (ltb m n) (eqb m n) t (ltb→lt m n) (eqb→eq m n)
  where
    go : (p q : Bool) → T (p || (q && true)) → (T p → m < n) → (T q → m ≡ n) → m ≤ n
    go true q t l e = le_of_lt (l tt)
    go false true t l e = le_of_eq (e tt)
    go false false t l e = absurd t

-- x ≤ y ≤ a / b
pub le_upto : (x y : Float) (a b : ℕ) → Signed false x → T (le x y) → Upto a b y → Upto a b x
unfolding le lt eq
le_upto nan y a b s l u = s
le_upto (inf true) y a b s l u = true≢false s
le_upto (inf false) nan a b s l u = u
le_upto (inf false) (inf t) a b s l u = u
le_upto (inf false) (fin t n d) a b s l u = l
le_upto (fin true m e) y a b s l u = true≢false s
le_upto (fin false m e) nan a b s l u = absurd u
le_upto (fin false m e) (inf t) a b s l u = absurd u
le_upto (fin false m e) (fin true n d) a b s l u = absurd u
le_upto (fin false m e) (fin false n d) a b s l u = through (m * up e) (n * up d) a (down e) (down d) b (down_pos d) (at_most (m * up e * down d) (n * up d * down e) l) u

pub value_upto : (x : Float) (a b : ℕ) → HasValue x false a b → Upto a b x
value_upto nan a b v = v
value_upto (inf s) a b v = v
value_upto (fin true m e) a b v = true≢false v.0
value_upto (fin false m e) a b v = le_of_eq v.1

-- m / n ≤ a / b, which the format holds
pub round_upto : (f : Format) (m n a b : ℕ) → 0 < n → 0 < b → m * b ≤ a * n → HasValue (round f false a b) false a b → Upto a b (round f false m n)
round_upto f m n a b N B h v = le_upto (round f false m n) (round f false a b) a b (round_signed f false m n) (round_mono f m n a b N B h) (value_upto (round f false a b) a b v)
