-- "one changed byte in a file never passes": two blocks whose checks are right do not differ in one byte alone. 02: CR 7.
use mathlib.Core.Path.{◌≡◌, refl, sym, ap, ap₂, ◌∙◌}
use mathlib.Core.Bool.{Bool, true, not, ◌&&◌, false≢true}
use mathlib.Core.List.{List, [], ◌∷◌, ◌++◌}
use Prim.Native.Nat.{ℕ, zero, suc, ◌+◌, ◌-◌, ◌*◌, ◌%◌, ◌≤◌, ◌<◌}
use native.Mathlib.Nat.{div-add-mod', mod-lt, mul-le-mul, mul-mod_left, mul-add, mul-pos}
use native.Mathlib.Decide.{dec_lt, ℕ_discrete}
use native.Mathlib.Omega.{arith}
use lib.Dec.{eqb}
use lib.ListN.{length, get_or, set, drop, length-drop}
use lib.Seq.{take-set-le, drop-set-lt, drop-set-add, get_or-set_same, get_or-take, get_or-drop}
use borrow.Author.Tests.{eq-eqb}
use Rattle.rules.specs.SampleBytes.{sample_bytes}
use Rattle.rules.specs.Sample.{sample_of}
use Rattle.rules.specs.Block.{block_size, check_modulus, weigh, check_of}
use Rattle.rules.proofs.SampleBytes.{sample_back}
use Rattle.rules.proofs.Block.{both, Sealed}

-- ---- the sum with one byte changed
weigh_set : (p : ℕ) (l : List ℕ) (i x : ℕ) → i < length l → weigh p (set l i x) + (p + i) * get_or l i 0 ≡ weigh p l + (p + i) * x
unfolding weigh
weigh_set p [] i x h = absurd (omega arith)
weigh_set p (b ∷ bs) zero x h = omega arith
weigh_set p (b ∷ bs) (suc i) x h = omega (arith, weigh_set (p + 1) bs i x (omega arith))

-- ---- 65,521 has no divisor from 2 to 255
indivisible : ℕ → Bool
indivisible zero = true
indivisible (suc n) = not (eqb (check_modulus % (n + 2)) 0) && indivisible n

indivisible_by : (n d : ℕ) → indivisible n ≡ true → 2 ≤ d → d < n + 2 → check_modulus % d ≡ 0 → ⊥
unfolding indivisible
indivisible_by zero d t h l e = omega arith
indivisible_by (suc n) d t h l e = go (ℕ_discrete d (n + 2)) (indivisible_by n d ((both (not (eqb (check_modulus % (n + 2)) 0)) (indivisible n)).0 t).1 h)
  where
    go : Dec (d ≡ n + 2) → (d < n + 2 → check_modulus % d ≡ 0 → ⊥) → ⊥
    go (yes s) below =
        let z : eqb (check_modulus % (n + 2)) 0 ≡ true = eq-eqb _ _ (ap (λ (k : ℕ). check_modulus % k) (sym s) ∙ e) in
        false≢true (ap not (sym z) ∙ ((both (not (eqb (check_modulus % (n + 2)) 0)) (indivisible n)).0 t).0)
    go (no s) below = below (omega (arith, s)) e

-- so no place times a difference of two bytes is 65,521
no_product : (q d : ℕ) → q < block_size → d < 256 → q * d ≡ check_modulus → ⊥
unfolding indivisible
no_product q d h l e = go (dec_lt d 2)
  where
    go : Dec (d < 2) → ⊥
    go (yes s) = omega (arith, e, mul-le-mul {n₁ = q} {m₁ = d} {n₂ = 511} {m₂ = 1} (omega arith) (omega arith))
    go (no s) = indivisible_by 254 d refl (omega (arith, s)) (omega arith) (ap (λ (k : ℕ). k % d) (sym e) ∙ mul-mod_left q d)

-- ---- two sums with the same remainder, less than twice 65,521 apart
apart : (v w e : ℕ) → v % check_modulus ≡ w % check_modulus → w ≡ v + e → 0 < e → e < 2 * check_modulus → e ≡ check_modulus
apart v w e r s p l = omega (arith, r, s, p, l, div-add-mod' v check_modulus, div-add-mod' w check_modulus)

-- a place times the less byte, and times the greater one
wider : (v w q x y : ℕ) → v % check_modulus ≡ w % check_modulus → w + q * x ≡ v + q * y → x < y → 0 < q → q < block_size → y < 256 → ⊥
wider v w q x y r s l p h k = no_product q (y - x) h (omega arith) (apart v w (q * (y - x)) r (omega (arith, s, split)) (mul-pos p (omega arith))
    (omega (arith, mul-le-mul {n₁ = q} {m₁ = y - x} {n₂ = 511} {m₂ = 255} (omega arith) (omega arith))))
  where
    split : q * y ≡ q * x + q * (y - x)
    split = ap (λ (n : ℕ). q * n) rejoined ∙ mul-add q x (y - x)
      where
        rejoined : y ≡ x + (y - x)
        rejoined = omega arith

-- ---- a block
-- the check is a number of two bytes
check_back : (l : List ℕ) → sample_of 2 (sample_bytes 2 (check_of l) ++ []) 0 ≡ check_of l
check_back l = sample_back 2 (check_of l) [] (omega (arith, mod-lt (weigh 2 l) {m = check_modulus} (omega arith)))

pub changed_fails : (b : List ℕ) (q x : ℕ) → length b ≡ block_size → q < block_size → get_or b q 0 < 256 → x < 256 → (x ≡ get_or b q 0 → ⊥) → Sealed b → Sealed (set b q x) → ⊥
changed_fails b q x size h old new other right still = go (dec_lt q 2)
  where
    go : Dec (q < 2) → ⊥
    go (yes l) =
        other
        (sym (get_or-set_same b q x 0 (omega (arith, size)))
        ∙ sym (get_or-take 2 (set b q x) q 0 l)
        ∙ ap (λ (r : List ℕ). get_or r q 0) (still ∙ ap (λ (r : List ℕ). sample_bytes 2 (check_of r)) (drop-set-lt 2 b q x l) ∙ sym right)
        ∙ get_or-take 2 b q 0 l)
    go (no l) = differ (dec_lt x (get_or b q 0))
      where
        i : ℕ
        i = q - 2

        place : q ≡ 2 + i
        place = omega (arith, l)

        changed : drop 2 (set b q x) ≡ set (drop 2 b) i x
        changed = ap (λ (k : ℕ). drop 2 (set b k x)) place ∙ drop-set-add 2 b i x

        checks : check_of (drop 2 b) ≡ check_of (set (drop 2 b) i x)
        checks =
            sym (check_back (drop 2 b))
            ∙ ap (λ (r : List ℕ). sample_of 2 (r ++ []) 0) (sym right ∙ sym (take-set-le 2 b q x (omega (arith, l))) ∙ still ∙ ap (λ (r : List ℕ). sample_bytes 2 (check_of r)) changed)
            ∙ check_back (set (drop 2 b) i x)

        sums : weigh 2 (set (drop 2 b) i x) + q * get_or b q 0 ≡ weigh 2 (drop 2 b) + q * x
        sums =
            ap₂ (λ (k v : ℕ). weigh 2 (set (drop 2 b) i x) + k * v) place (ap (λ (k : ℕ). get_or b k 0) place ∙ sym (get_or-drop 2 b i 0))
            ∙ weigh_set 2 (drop 2 b) i x (simp length-drop (omega (arith, size, h, place)))
            ∙ ap (λ (k : ℕ). weigh 2 (drop 2 b) + k * x) (sym place)

        differ : Dec (x < get_or b q 0) → ⊥
        differ (yes d) = wider (weigh 2 (set (drop 2 b) i x)) (weigh 2 (drop 2 b)) q x (get_or b q 0) (sym checks) (sym sums) d (omega (arith, l)) h old
        differ (no d) = wider (weigh 2 (drop 2 b)) (weigh 2 (set (drop 2 b) i x)) q (get_or b q 0) x checks sums (omega (arith, d, other)) (omega (arith, l)) h new
