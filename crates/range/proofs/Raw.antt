-- Laws of runs of changes: two in a row, one more place, two that overlap in one place, and the node of a run.
use Prim.Native.Nat.{ℕ, zero, suc, ◌+◌, ◌-◌, ◌≤◌}
use mathlib.Core.Path.{◌≡◌, refl, sym, ap, ap₂, ◌∙◌}
use native.Mathlib.Nat.{zero-add, add-zero, add-suc}
use native.Mathlib.Omega.{arith}
use lib.Bits.{bit_or, bit_xor, or_zero_r, or_self}
use Rattle.rules.specs.Node.{Node, changes, toggles_of, differs, count_of, cap_count, node_of}
use Rattle.rules.proofs.Bits.{or_assoc, or-sort}
use Rattle.range.specs.Run.{Run, Both}

module _ (s : ℕ → ℕ) where
  -- ---- two runs in a row
  toggles_add : (a n m : ℕ) → toggles_of s a (n + m) ≡ bit_or (toggles_of s a n) (toggles_of s (a + n) m)
  unfolding toggles_of
  toggles_add a n zero = ap (toggles_of s a) (add-zero n) ∙ sym (or_zero_r (toggles_of s a n))
  toggles_add a n (suc m) =
      ap (toggles_of s a) (add-suc n m)
      ∙ ap₂ (λ (x i : ℕ). bit_or x (changes s i)) (toggles_add a n m) at
      ∙ or_assoc (toggles_of s a n) (toggles_of s (a + n) m) (changes s (a + n + suc m))
    where
      at : a + suc (n + m) ≡ a + n + suc m
      at = omega arith

  count_add : (a n m : ℕ) → count_of s a (n + m) ≡ count_of s a n + count_of s (a + n) m
  unfolding count_of
  count_add a n zero = ap (count_of s a) (add-zero n) ∙ sym (add-zero (count_of s a n))
  count_add a n (suc m) =
      ap (count_of s a) (add-suc n m)
      ∙ ap₂ (λ (x i : ℕ). x + differs (s i) (s (i - 1))) (count_add a n m) at
      ∙ omega arith
    where
      at : a + suc (n + m) ≡ a + n + suc m
      at = omega arith

  run_add : (a n m mask count mask' count' : ℕ) → Run s a n mask count → Run s (a + n) m mask' count' → Run s a (n + m) (bit_or mask mask') (count + count')
  run_add a n m mask count mask' count' p q = record {
    lines = ap₂ bit_or p.lines q.lines ∙ sym (toggles_add a n m);
    many = ap₂ (λ (x y : ℕ). x + y) p.many q.many ∙ sym (count_add a n m);
  }

  -- ---- one place
  toggles_one : (a : ℕ) → toggles_of s a 1 ≡ bit_xor (s (a + 1)) (s a)
  unfolding toggles_of
  toggles_one a = ap (λ (i : ℕ). bit_xor (s (a + 1)) (s i)) back
    where
      back : a + 1 - 1 ≡ a
      back = omega arith

  count_one : (a : ℕ) → count_of s a 1 ≡ differs (s (a + 1)) (s a)
  unfolding count_of
  count_one a = zero-add (differs (s (a + 1)) (s (a + 1 - 1))) ∙ ap (λ (i : ℕ). differs (s (a + 1)) (s i)) back
    where
      back : a + 1 - 1 ≡ a
      back = omega arith

  run_on : (a k mask count x y d : ℕ) → Run s a k mask count → x ≡ s (a + k) → y ≡ s (a + k + 1) → d ≡ differs y x → Run s a (k + 1) (bit_or mask (bit_xor y x)) (count + d)
  run_on a k mask count x y d p ex ey ed = run_add a k 1 mask count (bit_xor y x) d p (record {
    lines = ap₂ bit_xor ey ex ∙ sym (toggles_one (a + k));
    many = ed ∙ ap₂ differs ey ex ∙ sym (count_one (a + k));
  })

  -- ---- two runs side by side
  pub both_starts : (a : ℕ) → Both s a 0 0 0
  unfolding toggles_of count_of
  both_starts a = record { lines = refl; many = refl }

  pub both_on : (a k mask count x y z w d e : ℕ) → Both s a k mask count → x ≡ s (a + k) → y ≡ s (a + k + 1) → z ≡ s (a + k + 15) → w ≡ s (a + k + 16) → d ≡ differs y x → e ≡ differs w z
      → Both s a (k + 1) (bit_or (bit_or mask (bit_xor y x)) (bit_xor w z)) (count + d + e)
  both_on a k mask count x y z w d e p ex ey ez ew ed ee = record {
    lines = ap (λ (t : ℕ). bit_or (bit_or t (bit_xor y x)) (bit_xor w z)) p.lines ∙ sorted (toggles_of s a k) (toggles_of s (a + 15) k) (bit_xor y x) (bit_xor w z) ∙ ap₂ bit_or l.lines r.lines;
    many = omega (arith, p.many, l.many, r.many);
  }
    where
      sorted : (t u v w : ℕ) → bit_or (bit_or (bit_or t u) v) w ≡ bit_or (bit_or t v) (bit_or u w)
      sorted t u v w = simp or-sort

      l : Run s a (k + 1) (bit_or (toggles_of s a k) (bit_xor y x)) (count_of s a k + d)
      l = run_on a k (toggles_of s a k) (count_of s a k) x y d (record { lines = refl; many = refl }) ex ey ed

      here : a + k + 15 ≡ a + 15 + k
      here = omega arith

      behind : a + k + 16 ≡ a + 15 + k + 1
      behind = omega arith

      r : Run s (a + 15) (k + 1) (bit_or (toggles_of s (a + 15) k) (bit_xor w z)) (count_of s (a + 15) k + e)
      r = run_on (a + 15) k (toggles_of s (a + 15) k) (count_of s (a + 15) k) z w e (record { lines = refl; many = refl }) (ez ∙ ap s here) (ew ∙ ap s behind) ee

  pub both_ends : (a k n mask count mask' : ℕ) → Both s a k mask count → k ≡ n → mask' ≡ mask → Both s a n mask' count
  both_ends a k n mask count mask' p ek em = record {
    lines = em ∙ p.lines ∙ ap (λ (i : ℕ). bit_or (toggles_of s a i) (toggles_of s (a + 15) i)) ek;
    many = p.many ∙ ap (λ (i : ℕ). count_of s a i + count_of s (a + 15) i) ek;
  }

  -- 16 places each: the one that both have is counted twice
  pub both_whole : (a mask count x y d : ℕ) → Both s a 16 mask count → x ≡ s (a + 15) → y ≡ s (a + 16) → d ≡ differs y x → (d ≤ count) × Run s a 31 mask (count - d)
  both_whole a mask count x y d p ex ey ed = (
    omega (arith, p.many, upto, ed_is),
    record {
      lines = p.lines ∙ ap (λ (t : ℕ). bit_or t (toggles_of s (a + 15) 16)) (toggles_add a 15 1)
          ∙ ap (λ (t : ℕ). bit_or (bit_or (toggles_of s a 15) (toggles_of s (a + 15) 1)) t) (toggles_add (a + 15) 1 15)
          ∙ once (toggles_of s a 15) (toggles_of s (a + 15) 1) (toggles_of s (a + 15 + 1) 15)
          ∙ ap (bit_or (toggles_of s a 15)) (sym (toggles_add (a + 15) 1 15))
          ∙ sym (toggles_add a 15 16);
      many = omega (arith, p.many, upto, ed_is, count_add a 15 16);
    },
  )
    where
      upto : count_of s a 16 ≡ count_of s a 15 + count_of s (a + 15) 1
      upto = count_add a 15 1

      behind : a + 16 ≡ a + 15 + 1
      behind = omega arith

      ed_is : d ≡ count_of s (a + 15) 1
      ed_is = ed ∙ ap₂ differs (ey ∙ ap s behind) ex ∙ sym (count_one (a + 15))

      once : (t u v : ℕ) → bit_or (bit_or t u) (bit_or u v) ≡ bit_or t (bit_or u v)
      once t u v = or_assoc t u (bit_or u v) ∙ ap (bit_or t) (sym (or_assoc u u v) ∙ ap (λ (x : ℕ). bit_or x v) (or_self u))

  -- ---- the node of a range, by the changes inside it
  pub run_node : (a b : ℕ) (n : Node) (mask count k : ℕ) → Run s a k mask count → k ≡ b - 1 - a → n.first ≡ s a → n.last ≡ s (b - 1) → n.toggles ≡ mask → n.count ≡ cap_count count → n ≡ node_of s a b
  unfolding node_of
  run_node a b n mask count k p ek ef el em ec = λ i. record {
    first = ef i;
    last = el i;
    toggles = (em ∙ p.lines ∙ ap (toggles_of s a) ek) i;
    count = (ec ∙ ap cap_count (p.many ∙ ap (count_of s a) ek)) i;
  }
