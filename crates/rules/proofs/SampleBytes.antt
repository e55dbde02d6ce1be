-- Samples written as bytes read back, for any unit; and a list, number by number.
use mathlib.Core.Path.{◌≡◌, refl, sym, ap, ap₂, ◌∙◌, subst⁻¹}
use mathlib.Core.List.{List, [], ◌∷◌, ◌++◌, append_assoc, append-nil}
use Prim.Native.Nat.{ℕ, zero, suc, ◌+◌, ◌*◌, ◌/◌, ◌%◌, ◌^◌, ◌≤◌, ◌<◌}
use native.Mathlib.Nat.{zero-add, zero-mul, div-add-mod', div-lt_iff_lt-mul, mod-lt, pow-succ', mul-div_cancel}
use native.Mathlib.Omega.{arith}
use lib.ListN.{length, get_or, take, drop, length-append}
use lib.Seq.{ext_get_or, drop-cons, get_or-drop}
use Rattle.rules.specs.Sample.{little, sample_of, sample_count, list_from, samples_of}
use Rattle.rules.specs.SampleBytes.{sample_bytes, bytes_of, Bytes}
use Rattle.rules.proofs.Sample.{list_length, list_at, little_same, sample_after, samples_length, samples_at}

-- a list of n numbers, number by number
pub list_whole : (n : ℕ) (l : List ℕ) → length l ≡ n → l ≡ list_from (λ i. get_or l i 0) 0 n
list_whole n l e =
    ext_get_or 0 l (list_from (λ i. get_or l i 0) 0 n) (e ∙ sym (list_length (λ i. get_or l i 0) 0 n))
    (λ i h. sym (list_at (λ i. get_or l i 0) 0 n i (rw (← e) h) ∙ ap (λ (k : ℕ). get_or l k 0) (zero-add i)))

-- ---- one sample
pub sample_bytes_length : (u v : ℕ) → length (sample_bytes u v) ≡ u
unfolding sample_bytes
sample_bytes_length zero v = refl
sample_bytes_length (suc u) v = ap suc (sample_bytes_length u (v / 256))

little_tail : (u x : ℕ) (l : List ℕ) → little u (x ∷ l) (0 + 1) ≡ little u l 0
little_tail u x l = little_same u (x ∷ l) l (0 + 1) 0 (λ i h. ap (λ (k : ℕ). get_or (x ∷ l) k 0) (one i) ∙ ap (λ (k : ℕ). get_or l k 0) (sym (zero-add i)))
  where
    one : (i : ℕ) → 0 + 1 + i ≡ suc i
    one i = omega arith

pub little_back : (u v : ℕ) (rest : List ℕ) → v < 256 ^ u → little u (sample_bytes u v ++ rest) 0 ≡ v
unfolding sample_bytes
little_back zero v rest h = omega arith
little_back (suc u) v rest h =
    ap (λ (x : ℕ). v % 256 + 256 * x) (little_tail u (v % 256) (sample_bytes u (v / 256) ++ rest) ∙ little_back u (v / 256) rest ((div-lt_iff_lt-mul (omega arith)).1 (omega (arith, pow-succ' 256 u))))
    ∙ omega (arith, div-add-mod' v 256)

-- a number of bytes that stand in a list, written again
pub bytes_again : (u : ℕ) (l : List ℕ) (k : ℕ) → Bytes l → k + u ≤ length l → sample_bytes u (little u l k) ≡ take u (drop k l)
unfolding sample_bytes
bytes_again zero l k b h = refl
bytes_again (suc u) l k b h =
    ap₂ (λ (x : ℕ) (r : List ℕ). x ∷ r) low (ap (sample_bytes u) high ∙ bytes_again u l (k + 1) b (omega arith) ∙ ap (λ (j : ℕ). take u (drop j l)) one)
    ∙ sym (ap (take (suc u)) (drop-cons l k 0 (omega arith)))
  where
    one : k + 1 ≡ suc k
    one = omega arith

    low : (get_or l k 0 + 256 * little u l (k + 1)) % 256 ≡ get_or l k 0
    low = omega (arith, b k)

    high : (get_or l k 0 + 256 * little u l (k + 1)) / 256 ≡ little u l (k + 1)
    high = omega (arith, b k)

pub sample_back : (u v : ℕ) (rest : List ℕ) → v < 256 ^ u → sample_of u (sample_bytes u v ++ rest) 0 ≡ v
unfolding sample_of
sample_back u v rest h = ap (little u (sample_bytes u v ++ rest)) (zero-mul u) ∙ little_back u v rest h

-- ---- samples one after the other
pub bytes_length : (u : ℕ) (vs : List ℕ) → length (bytes_of u vs) ≡ length vs * u
unfolding bytes_of
bytes_length u [] = sym (zero-mul u)
bytes_length u (v ∷ vs) = length-append (sample_bytes u v) (bytes_of u vs) ∙ omega (arith, sample_bytes_length u v, bytes_length u vs)

-- whatever follows them
pub bytes_back : (u : ℕ) (vs rest : List ℕ) (i : ℕ) → i < length vs → ((k : ℕ) → get_or vs k 0 < 256 ^ u) → sample_of u (bytes_of u vs ++ rest) i ≡ get_or vs i 0
unfolding bytes_of
bytes_back u [] rest i h n = absurd (omega arith)
bytes_back u (v ∷ vs) rest zero h n = ap (λ (l : List ℕ). sample_of u l 0) (append_assoc (sample_bytes u v) (bytes_of u vs) rest) ∙ sample_back u v (bytes_of u vs ++ rest) (n 0)
bytes_back u (v ∷ vs) rest (suc i) h n =
    ap₂ (sample_of u) (append_assoc (sample_bytes u v) (bytes_of u vs) rest) next
    ∙ sample_after u (sample_bytes u v) (bytes_of u vs ++ rest) 1 i (sample_bytes_length u v ∙ one)
    ∙ bytes_back u vs rest i (omega arith) (λ k. n (suc k))
  where
    next : suc i ≡ 1 + i
    next = omega arith

    one : u ≡ 1 * u
    one = omega arith

-- as a push or an append takes them
pub samples_back : (u : ℕ) (vs : List ℕ) → 0 < u → ((k : ℕ) → get_or vs k 0 < 256 ^ u) → samples_of u (bytes_of u vs) ≡ vs
samples_back u vs pos n =
    ext_get_or 0 (samples_of u (bytes_of u vs)) vs (samples_length u (bytes_of u vs) ∙ count)
    (λ i h.
    let l : i < sample_count u (bytes_of u vs) = rw (← samples_length u (bytes_of u vs)) h in
    samples_at u (bytes_of u vs) i l ∙ ap (λ (b : List ℕ). sample_of u b i) (sym (append-nil (bytes_of u vs))) ∙ bytes_back u vs [] i (rw (← count) l) n)
  where
    count : sample_count u (bytes_of u vs) ≡ length vs
    count = ap (λ (k : ℕ). k / u) (bytes_length u vs) ∙ mul-div_cancel (length vs) pos

-- ---- they are bytes
pub bytes_more : (x : ℕ) (l : List ℕ) → x < 256 → Bytes l → Bytes (x ∷ l)
bytes_more x l h r zero = h
bytes_more x l h r (suc k) = r k

pub bytes_append : (a b : List ℕ) → Bytes a → Bytes b → Bytes (a ++ b)
bytes_append [] b p q k = q k
bytes_append (x ∷ a) b p q k = bytes_more x (a ++ b) (p 0) (bytes_append a b (λ j. p (suc j)) q) k

pub sample_are : (u v : ℕ) → Bytes (sample_bytes u v)
unfolding sample_bytes
sample_are zero v k = omega arith
sample_are (suc u) v k = bytes_more (v % 256) (sample_bytes u (v / 256)) (mod-lt v (omega arith)) (sample_are u (v / 256)) k

pub bytes_are : (u : ℕ) (vs : List ℕ) → Bytes (bytes_of u vs)
unfolding bytes_of
bytes_are u [] k = omega arith
bytes_are u (v ∷ vs) k = bytes_append (sample_bytes u v) (bytes_of u vs) (sample_are u v) (bytes_are u vs) k

pub take_are : (n : ℕ) (l : List ℕ) → Bytes l → Bytes (take n l)
take_are zero l b k = omega arith
take_are (suc n) [] b k = omega arith
take_are (suc n) (x ∷ l) b k = bytes_more x (take n l) (b 0) (take_are n l (λ j. b (suc j))) k

pub drop_are : (n : ℕ) (l : List ℕ) → Bytes l → Bytes (drop n l)
drop_are n l b k = subst⁻¹ (λ (x : ℕ). x < 256) (get_or-drop n l k 0) (b (n + k))
