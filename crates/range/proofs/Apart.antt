-- Laws of the lines of a range by its first sample: those in which any sample differs from the first are those that change between neighbours.
use Prim.Native.Nat.{ℕ, zero, suc, ◌+◌, ◌-◌, ◌≤◌, ◌<◌, max}
use mathlib.Core.Path.{◌≡◌, refl, sym, ap, ap₂, ◌∙◌}
use native.Mathlib.Nat.{add-zero}
use native.Mathlib.Omega.{arith}
use lib.Bits.{bit_or, bit_xor, differ, xor_self}
use Rattle.rules.specs.Sample.{line}
use Rattle.rules.specs.Node.{Lines, toggles_of, node_of, lines_of}
use Rattle.rules.proofs.Bits.{line_lt, two_cases, lines_ext, line_or, line_xor}

-- ---- toggles by the first sample
-- the OR of each of n samples XOR f
unfoldable pub apart_from : ℕ → (ℕ → ℕ) → ℕ → ℕ
apart_from f s zero = 0
apart_from f s (suc n) = bit_or (apart_from f s n) (bit_xor (s n) f)

-- of the n samples from a on, XOR the first one
abbrev pub apart : (ℕ → ℕ) → ℕ → ℕ → ℕ
apart s a n = apart_from (s a) (λ i. s (a + i)) n

or_again : (x y : ℕ) → bit_or (bit_or x y) y ≡ bit_or x y
or_again x y = lines_ext _ _ (λ k. simp line_or (omega arith))

-- one line: where t has the lines in which p and f differ, v differs from f and from p alike beyond t
line_alike : (t p f v : ℕ) → t < 2 → p < 2 → f < 2 → v < 2 → max t (differ p f) ≡ t → max t (differ v f) ≡ max t (differ v p)
line_alike t p f v ht hp hf hv = two_cases (λ (t : ℕ). max t (differ p f) ≡ t → max t (differ v f) ≡ max t (differ v p))
    (λ e. ap (max 0) (ap (differ v) (sym (same (omega arith)))))
    (λ e. omega (arith, below v f hv hf, below v p hv hp)) t ht
  where
    below : (x y : ℕ) → x < 2 → y < 2 → differ x y < 2
    below x y hx hy = two_cases (λ (x : ℕ). differ x y < 2) hy (two_cases (λ (y : ℕ). differ 1 y < 2) (omega arith) (omega arith) y hy) x hx

    same : differ p f ≡ 0 → p ≡ f
    same = two_cases (λ (p : ℕ). differ p f ≡ 0 → p ≡ f) (λ e. sym e)
        (two_cases (λ (f : ℕ). differ 1 f ≡ 0 → 1 ≡ f) (λ e. e) (λ e. refl) f hf) p hp

or_alike : (t p f v : ℕ) → bit_or t (bit_xor p f) ≡ t → bit_or t (bit_xor v f) ≡ bit_or t (bit_xor v p)
or_alike t p f v e = lines_ext _ _ (λ k.
    simp (line_or, line_xor) (line_alike (line t k) (line p k) (line f k) (line v k) (line_lt t k) (line_lt p k) (line_lt f k) (line_lt v k)
    (sym (line_or t (bit_xor p f) k ∙ ap (max (line t k)) (line_xor p f k)) ∙ ap (λ (x : ℕ). line x k) e)))

-- by the first sample as by neighbours
pub apart_toggles : (s : ℕ → ℕ) (a n : ℕ) → apart s a (suc n) ≡ toggles_of s a n
unfolding apart_from toggles_of
apart_toggles s a zero = ap (λ (x : ℕ). bit_xor (s x) (s a)) (add-zero a) ∙ xor_self (s a)
apart_toggles s a (suc n) = on (apart_toggles s a n)
  where
    before : a + n ≡ a + suc n - 1
    before = omega arith

    on : apart s a (suc n) ≡ toggles_of s a n → apart s a (suc (suc n)) ≡ toggles_of s a (suc n)
    on ih =
        ap (λ (x : ℕ). bit_or x (bit_xor (s (a + suc n)) (s a))) ih
        ∙ or_alike (toggles_of s a n) (s (a + n)) (s a) (s (a + suc n))
        (ap (λ (x : ℕ). bit_or x (bit_xor (s (a + n)) (s a))) (sym ih) ∙ or_again (apart s a n) (bit_xor (s (a + n)) (s a)) ∙ ih)
        ∙ ap (λ (x : ℕ). bit_or (toggles_of s a n) (bit_xor (s (a + suc n)) (s x))) before

-- ---- a scan that has come to i
pub apart_none : (s : ℕ → ℕ) (a : ℕ) → apart s a (a - a) ≡ 0
unfolding apart_from
apart_none s a = ap (apart s a) none
  where
    none : a - a ≡ 0
    none = omega arith

pub apart_turn : (s : ℕ → ℕ) (a i m v w : ℕ) → a ≤ i → m ≡ apart s a (i - a) → v ≡ s i → w ≡ s a → bit_or m (bit_xor v w) ≡ apart s a (i + 1 - a)
unfolding apart_from
apart_turn s a i m v w h em ev ew = ap₂ bit_or em (ap₂ bit_xor (ev ∙ ap s at) ew) ∙ sym (ap (apart s a) one)
  where
    at : i ≡ a + (i - a)
    at = omega arith

    one : i + 1 - a ≡ suc (i - a)
    one = omega arith

-- its end
pub scanned : (s : ℕ → ℕ) (a b i : ℕ) (n : Lines) → a < b → i ≡ b → n.first ≡ s a → n.last ≡ s (b - 1) → n.toggles ≡ apart s a (i - a) → n ≡ lines_of (node_of s a b)
unfolding node_of
scanned s a b i n h ei ef el et = λ k. record { first = ef k; last = el k; toggles = toggles k }
  where
    count : i - a ≡ suc (b - 1 - a)
    count = omega arith

    toggles : n.toggles ≡ toggles_of s a (b - 1 - a)
    toggles = et ∙ ap (apart s a) count ∙ apart_toggles s a (b - 1 - a)
