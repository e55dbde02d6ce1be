-- Laws of samples in bytes, for any unit: a sample depends on its own bytes alone, and what is left over at the end of a push is dropped.
use mathlib.Core.Path.{◌≡◌, refl, sym, ap, ap₂, ◌∙◌}
use mathlib.Core.List.{List, [], ◌∷◌, ◌++◌, append-nil}
use mathlib.Core.Logic.{◌⊎◌, inl, inr}
use Prim.Native.Nat.{ℕ, zero, suc, ◌+◌, ◌*◌, ◌-◌, ◌/◌, ◌^◌, ◌≤◌, ◌<◌}
use native.Mathlib.Nat.{add-zero, zero-add, mul-one, add-mul, mul-le-mul_right, mul-div_cancel, mul-add-div_right, div-eq_of_lt, div-mul-le_self, pow-succ'}
use native.Mathlib.Decide.{dec_lt}
use native.Mathlib.Omega.{arith}
use lib.ListN.{length, take, drop, get_or, length-append, get_or-append}
use lib.Seq.{length-take-le, take_at, drop_at, get_or-take, get_or-drop}
use Rattle.rules.specs.Sample.{UnitSize, little, sample_of, list_from, samples_of, sample_count}

-- ---- the units that there are
-- the one way to take a unit apart
pub unit_cases : {u : ℕ} → UnitSize u → (u ≡ 1) ⊎ (u ≡ 2)
unit_cases {u} h = go (dec_lt u 2)
  where
    go : Dec (u < 2) → (u ≡ 1) ⊎ (u ≡ 2)
    go (yes l) = inl (omega (arith, h.least))
    go (no l) = inr (omega (arith, h.most))

-- as the code tests it: 1, and else 2
pub unit_two : {u : ℕ} → UnitSize u → (u ≡ 1 → ⊥) → u ≡ 2
unit_two {u} h f = go (unit_cases h)
  where
    go : (u ≡ 1) ⊎ (u ≡ 2) → u ≡ 2
    go (inl e) = absurd (f e)
    go (inr e) = e

-- ---- lists of samples
pub list_length : (s : ℕ → ℕ) (p n : ℕ) → length (list_from s p n) ≡ n
unfolding list_from
list_length s p zero = refl
list_length s p (suc n) = ap suc (list_length s (p + 1) n)

pub list_at : (s : ℕ → ℕ) (p n i : ℕ) → i < n → get_or (list_from s p n) i 0 ≡ s (p + i)
unfolding list_from
list_at s p zero i h = absurd (omega arith)
list_at s p (suc n) zero h = ap s (sym (add-zero p))
list_at s p (suc n) (suc i) h = list_at s (p + 1) n i (omega arith) ∙ ap s next
  where
    next : p + 1 + i ≡ p + suc i
    next = omega arith

-- equal samples make equal lists
pub list_same : (s t : ℕ → ℕ) (p q n : ℕ) → ((i : ℕ) → i < n → s (p + i) ≡ t (q + i)) → list_from s p n ≡ list_from t q n
unfolding list_from
list_same s t p q zero h = refl
list_same s t p q (suc n) h =
    ap₂ (λ (v : ℕ) (vs : List ℕ). v ∷ vs)
    (ap s (sym (add-zero p)) ∙ h 0 (omega arith) ∙ ap t (add-zero q))
    (list_same s t (p + 1) (q + 1) n (λ i l. ap s (next p i) ∙ h (suc i) (omega arith) ∙ ap t (sym (next q i))))
  where
    next : (a i : ℕ) → a + 1 + i ≡ a + suc i
    next a i = omega arith

pub list_append : (s : ℕ → ℕ) (p a b : ℕ) → list_from s p (a + b) ≡ list_from s p a ++ list_from s (p + a) b
unfolding list_from
list_append s p zero b = ap₂ (list_from s) (sym (add-zero p)) none
  where
    none : 0 + b ≡ b
    none = omega arith
list_append s p (suc a) b = ap (list_from s p) more ∙ ap (λ (vs : List ℕ). s p ∷ vs) (list_append s (p + 1) a b ∙ ap (λ (q : ℕ). list_from s (p + 1) a ++ list_from s q b) next)
  where
    more : suc a + b ≡ suc (a + b)
    more = omega arith

    next : p + 1 + a ≡ p + suc a
    next = omega arith

-- parts of a list
module _ (s : ℕ → ℕ) (p a n : ℕ) (h : a ≤ n) where
  split : list_from s p n ≡ list_from s p a ++ list_from s (p + a) (n - a)
  split = ap (list_from s p) more ∙ list_append s p a (n - a)
    where
      more : n ≡ a + (n - a)
      more = omega arith

  pub list_take : take a (list_from s p n) ≡ list_from s p a
  list_take = ap (take a) split ∙ take_at (list_from s p a) (list_from s (p + a) (n - a)) a (list_length s p a)

  pub list_drop : drop a (list_from s p n) ≡ list_from s (p + a) (n - a)
  list_drop = ap (drop a) split ∙ drop_at (list_from s p a) (list_from s (p + a) (n - a)) a (list_length s p a)

-- ---- one sample
-- equal bytes make equal samples
pub little_same : (u : ℕ) (a b : List ℕ) (j k : ℕ) → ((i : ℕ) → i < u → get_or a (j + i) 0 ≡ get_or b (k + i) 0) → little u a j ≡ little u b k
little_same zero a b j k h = refl
little_same (suc u) a b j k h =
    ap₂ (λ (x y : ℕ). x + 256 * y)
    (ap (λ (x : ℕ). get_or a x 0) (sym (add-zero j)) ∙ h 0 (omega arith) ∙ ap (λ (x : ℕ). get_or b x 0) (add-zero k))
    (little_same u a b (j + 1) (k + 1) (λ i l. ap (λ (x : ℕ). get_or a x 0) (next j i) ∙ h (suc i) (omega arith) ∙ ap (λ (x : ℕ). get_or b x 0) (sym (next k i))))
  where
    next : (x i : ℕ) → x + 1 + i ≡ x + suc i
    next x i = omega arith

-- byte i of sample n stands before the end of sample n
inside : (n u i k : ℕ) → i < u → suc n * u ≤ k → n * u + i < k
inside n u i k h l = omega arith

-- sample p + i ends before the end of sample p + n
within : (u p n k i : ℕ) → i < n → (p + n) * u ≤ k → suc (p + i) * u ≤ k
within u p n k i l h = omega (arith, mul-le-mul_right u less)
  where
    less : suc (p + i) ≤ p + n
    less = omega arith

-- a sample of unit 1 is its byte
pub byte_sample : (l : List ℕ) (i : ℕ) → get_or l i 0 ≡ sample_of 1 l i
unfolding sample_of
byte_sample l i = ap (λ (x : ℕ). get_or l x 0) (sym (mul-one i)) ∙ sym (add-zero (get_or l (i * 1) 0))

pub sample_take : (u : ℕ) (b : List ℕ) (k i : ℕ) → suc i * u ≤ k → sample_of u (take k b) i ≡ sample_of u b i
unfolding sample_of
sample_take u b k i h = little_same u (take k b) b (i * u) (i * u) (λ j l. get_or-take k b (i * u + j) 0 (inside i u j k l h))

pub sample_append : (u : ℕ) (a b : List ℕ) (i : ℕ) → suc i * u ≤ length a → sample_of u (a ++ b) i ≡ sample_of u a i
unfolding sample_of
sample_append u a b i h = little_same u (a ++ b) a (i * u) (i * u) (λ j l. get_or-append a b 0 (i * u + j) (inside i u j (length a) l h))

pub sample_drop : (u : ℕ) (b : List ℕ) (a i : ℕ) → sample_of u (drop (a * u) b) i ≡ sample_of u b (a + i)
unfolding sample_of
sample_drop u b a i = little_same u (drop (a * u) b) b (i * u) ((a + i) * u) (λ j l. get_or-drop (a * u) b (i * u + j) 0 ∙ ap (λ (k : ℕ). get_or b k 0) (at j))
  where
    at : (j : ℕ) → a * u + (i * u + j) ≡ (a + i) * u + j
    at j = omega (arith, add-mul a i u)

-- a part of the bytes that starts at a sample
pub sample_part : (u : ℕ) (b : List ℕ) (a k i : ℕ) → suc i * u ≤ k → sample_of u (take k (drop (a * u) b)) i ≡ sample_of u b (a + i)
sample_part u b a k i h = sample_take u (drop (a * u) b) k i h ∙ sample_drop u b a i

-- past n whole samples
pub sample_after : (u : ℕ) (a b : List ℕ) (n i : ℕ) → length a ≡ n * u → sample_of u (a ++ b) (n + i) ≡ sample_of u b i
sample_after u a b n i e = sym (sample_drop u (a ++ b) n i) ∙ ap (λ (x : List ℕ). sample_of u x i) (drop_at a b (n * u) e)

little_lt : (u : ℕ) (b : List ℕ) (k : ℕ) → ((j : ℕ) → get_or b j 0 < 256) → little u b k < 256 ^ u
little_lt zero b k h = omega arith
little_lt (suc u) b k h = rw (pow-succ' 256 u) (omega (arith, h k, little_lt u b (k + 1) h))

pub sample_lt : (u : ℕ) (b : List ℕ) (i : ℕ) → ((j : ℕ) → get_or b j 0 < 256) → sample_of u b i < 256 ^ u
unfolding sample_of
sample_lt u b i h = little_lt u b (i * u) h

-- ---- lists of samples of bytes
pub from_take : (u : ℕ) (b : List ℕ) (k p n : ℕ) → (p + n) * u ≤ k → list_from (sample_of u (take k b)) p n ≡ list_from (sample_of u b) p n
from_take u b k p n h = list_same _ _ p p n (λ i l. sample_take u b k (p + i) (within u p n k i l h))

pub from_append : (u : ℕ) (a b : List ℕ) (p n : ℕ) → (p + n) * u ≤ length a → list_from (sample_of u (a ++ b)) p n ≡ list_from (sample_of u a) p n
from_append u a b p n h = list_same _ _ p p n (λ i l. sample_append u a b (p + i) (within u p n (length a) i l h))

pub from_drop : (u : ℕ) (b : List ℕ) (a p n : ℕ) → list_from (sample_of u (drop (a * u) b)) p n ≡ list_from (sample_of u b) (a + p) n
from_drop u b a p n = list_same _ _ p (a + p) n (λ i l. sample_drop u b a (p + i) ∙ ap (sample_of u b) (at i))
  where
    at : (i : ℕ) → a + (p + i) ≡ a + p + i
    at i = omega arith

pub from_after : (u : ℕ) (a b : List ℕ) (m p n : ℕ) → length a ≡ m * u → list_from (sample_of u (a ++ b)) (m + p) n ≡ list_from (sample_of u b) p n
from_after u a b m p n e = sym (from_drop u (a ++ b) m p n) ∙ ap (λ (x : List ℕ). list_from (sample_of u x) p n) (drop_at a b (m * u) e)

-- ---- the samples of a push
pub samples_length : (u : ℕ) (b : List ℕ) → length (samples_of u b) ≡ sample_count u b
samples_length u b = list_length (sample_of u b) 0 (sample_count u b)

pub samples_at : (u : ℕ) (b : List ℕ) (i : ℕ) → i < sample_count u b → get_or (samples_of u b) i 0 ≡ sample_of u b i
samples_at u b i h = list_at (sample_of u b) 0 (sample_count u b) i h ∙ ap (sample_of u b) start
  where
    start : 0 + i ≡ i
    start = omega arith

-- too few bytes for a sample
pub samples_short : (u : ℕ) (r : List ℕ) → length r < u → samples_of u r ≡ []
unfolding list_from
samples_short u r h = ap (list_from (sample_of u r) 0) (div-eq_of_lt h)

-- bytes that hold n samples, and then others
pub samples_append : (u : ℕ) (a b : List ℕ) (n : ℕ) → 0 < u → length a ≡ n * u → samples_of u (a ++ b) ≡ samples_of u a ++ samples_of u b
samples_append u a b n pos e =
    ap (list_from (sample_of u (a ++ b)) 0) count
    ∙ list_append (sample_of u (a ++ b)) 0 n (sample_count u b)
    ∙ ap₂ (λ (x y : List ℕ). x ++ y)
    (from_append u a b 0 n fits ∙ ap (list_from (sample_of u a) 0) (sym whole))
    (ap (λ (p : ℕ). list_from (sample_of u (a ++ b)) p (sample_count u b)) start ∙ from_after u a b n 0 (sample_count u b) e)
  where
    count : sample_count u (a ++ b) ≡ n + sample_count u b
    count = ap (λ (k : ℕ). k / u) (length-append a b ∙ ap (λ (k : ℕ). k + length b) e) ∙ mul-add-div_right pos n (length b)

    whole : sample_count u a ≡ n
    whole = ap (λ (k : ℕ). k / u) e ∙ mul-div_cancel n pos

    start : 0 + n ≡ n + 0
    start = omega arith

    fits : (0 + n) * u ≤ length a
    fits = rw (e, zero-add n) (omega arith)

-- "a leftover byte is dropped"
pub samples_leftover : (u : ℕ) (b r : List ℕ) (n : ℕ) → length b ≡ n * u → length r < u → samples_of u (b ++ r) ≡ samples_of u b
samples_leftover u b r n e h = samples_append u b r n (omega arith) e ∙ ap (λ (x : List ℕ). samples_of u b ++ x) (samples_short u r h) ∙ append-nil (samples_of u b)

-- the bytes of the whole samples alone
abbrev pub whole_of : ℕ → List ℕ → List ℕ
whole_of u b = take (sample_count u b * u) b

pub samples_whole : (u : ℕ) (b : List ℕ) → 0 < u → samples_of u (whole_of u b) ≡ samples_of u b
samples_whole u b pos = ap (list_from (sample_of u (whole_of u b)) 0) count ∙ from_take u b (n * u) 0 n (rw (zero-add n) (omega arith))
  where
    n : ℕ
    n = sample_count u b

    count : sample_count u (whole_of u b) ≡ n
    count = ap (λ (k : ℕ). k / u) (length-take-le (n * u) b (div-mul-le_self (length b) u)) ∙ mul-div_cancel n pos
