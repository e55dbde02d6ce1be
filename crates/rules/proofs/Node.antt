-- Laws of nodes: a node of neighbouring ranges is the join of theirs, what a quiet node says of its places, and nodes cut down to chosen lines.
use Prim.Native.Nat.{ℕ, zero, suc, ◌+◌, ◌-◌, ◌≤◌, ◌<◌}
use mathlib.Core.Path.{◌≡◌, refl, sym, ap, ap₂, ◌∙◌}
use mathlib.Core.Bool.{Bool, true, false, cond}
use mathlib.Core.Logic.{◌⊎◌, inl, inr}
use native.Mathlib.Nat.{add-suc, eq-or-lt_of_le}
use native.Mathlib.Numerals.{add-one}
use native.Mathlib.Omega.{arith}
use lib.Bits.{bit_and, bit_or, bit_xor, or_zero_r, xor_comm, or_lt, xor_lt}
use lib.Dec.{eqb}
use borrow.Author.Tests.{eqb-true, eq-eqb, ne_eqb}
use native.Mathlib.Decide.{ℕ_discrete, dec_lt}
use Rattle.rules.specs.Sample.{mask_bits, Word, cut_lines}
use Rattle.rules.specs.Node.{Node, Words, changes, toggles_of, differs, count_of, changes_in, most_count, cap_count, node_of, join, leaf, lines_of, cut, quiet}
use Rattle.rules.proofs.Bits.{and_or, and_xor, or_zero, or_zero_left, or_zero_right, or-sort}

-- ---- join
node : ℕ → ℕ → ℕ → ℕ → Node
node f l t c = record { first = f; last = l; toggles = t; count = c }

pub join_assoc : (a b c : Node) → join (join a b) c ≡ join a (join b c)
unfolding node
join_assoc a b c =
    ap₂ (node a.first c.last) (sorted a.toggles b.toggles c.toggles (bit_xor a.last b.first) (bit_xor b.last c.first))
    (summed a.count b.count c.count (differs a.last b.first) (differs b.last c.first))
  where
    sorted : (ta tb tc x y : ℕ) → bit_or (bit_or (bit_or (bit_or ta tb) x) tc) y ≡ bit_or (bit_or ta (bit_or (bit_or tb tc) y)) x
    sorted ta tb tc x y = simp or-sort

    -- cut once or twice, the sum is the same
    summed : (ka kb kc x y : ℕ) → cap_count (cap_count (ka + kb + x) + kc + y) ≡ cap_count (ka + cap_count (kb + kc + y) + x)
    summed ka kb kc x y = omega arith

-- ---- changes counted
differs_comm : (x y : ℕ) → differs x y ≡ differs y x
differs_comm x y = go (ℕ_discrete x y)
  where
    go : Dec (x ≡ y) → differs x y ≡ differs y x
    go (yes e) = ap₂ differs e (sym e)
    go (no z) = ap (λ (b : Bool). cond b 0 1) (ne_eqb x y z ∙ sym (ne_eqb y x (λ e. z (sym e))))

differs_le : (x y : ℕ) → differs x y ≤ 1
differs_le x y = go (eqb x y)
  where
    go : (b : Bool) → cond b 0 1 ≤ 1
    go true = omega arith
    go false = omega arith

count_add : (s : ℕ → ℕ) (a n m : ℕ) → count_of s a (n + suc m) ≡ count_of s a n + count_of s (a + suc n) m + differs (s (a + suc n)) (s (a + suc n - 1))
unfolding count_of
count_add s a n zero = ap (count_of s a) (add-one n) ∙ omega arith
count_add s a n (suc m) = ap (count_of s a) (add-suc n (suc m)) ∙ ap₂ (λ (z w : ℕ). z + differs (s w) (s (w - 1))) (count_add s a n m) at ∙ omega arith
  where
    at : a + suc (n + suc m) ≡ a + suc n + suc m
    at = omega arith

-- two parts and their border add up to the whole
pub changes_add : (s : ℕ → ℕ) (a b c : ℕ) → a < b → b < c → changes_in s a b + changes_in s b c + differs (s b) (s (b - 1)) ≡ changes_in s a c
changes_add s a b c h k =
    ap (λ (z : ℕ). changes_in s a b + count_of s z (c - 1 - b) + differs (s z) (s (z - 1))) eb
    ∙ sym (count_add s a (b - 1 - a) (c - 1 - b))
    ∙ ap (count_of s a) (omega arith)
  where
    eb : b ≡ a + suc (b - 1 - a)
    eb = omega arith

count_le : (s : ℕ → ℕ) (a n : ℕ) → count_of s a n ≤ n
unfolding count_of
count_le s a zero = omega arith
count_le s a (suc n) = omega (arith, count_le s a n, differs_le (s (a + suc n)) (s (a + suc n - 1)))

-- fewer than the samples, so that no count of a stored range is cut
pub changes_few : (s : ℕ → ℕ) (a b : ℕ) → a < b → changes_in s a b < b - a
changes_few s a b h = omega (arith, count_le s a (b - 1 - a))

pub changes_cap : (s : ℕ → ℕ) (a b : ℕ) → a < b → b ≤ most_count → cap_count (changes_in s a b) ≡ changes_in s a b
changes_cap s a b h k = omega (arith, changes_few s a b h)

-- they depend on the samples of the range alone
count_same : (s t : ℕ → ℕ) (a n : ℕ) → ((i : ℕ) → a ≤ i → i ≤ a + n → s i ≡ t i) → count_of s a n ≡ count_of t a n
unfolding count_of
count_same s t a zero h = refl
count_same s t a (suc n) h =
    ap₂ (λ (x y : ℕ). x + y) (count_same s t a n (λ i l u. h i l (omega arith))) (ap₂ differs (h (a + suc n) (omega arith) (omega arith)) (h (a + suc n - 1) (omega arith) (omega arith)))

count_none : (s : ℕ → ℕ) (a : ℕ) → count_of s a 0 ≡ 0
unfolding count_of
count_none s a = refl

pub changes_none : (s : ℕ → ℕ) (a b : ℕ) → b ≤ a → changes_in s a b ≡ 0
changes_none s a b h = ap (count_of s a) none ∙ count_none s a
  where
    none : b - 1 - a ≡ 0
    none = omega arith

pub changes_same : (s t : ℕ → ℕ) (a b : ℕ) → ((i : ℕ) → a ≤ i → i < b → s i ≡ t i) → changes_in s a b ≡ changes_in t a b
changes_same s t a b h = go (dec_lt a b)
  where
    go : Dec (a < b) → changes_in s a b ≡ changes_in t a b
    go (yes k) = count_same s t a (b - 1 - a) (λ i l u. h i l (omega arith))
    go (no k) = changes_none s a b (omega arith) ∙ sym (changes_none t a b (omega arith))

or_shuffle : (t u x y : ℕ) → bit_or (bit_or (bit_or t u) x) y ≡ bit_or (bit_or t (bit_or u y)) x
or_shuffle t u x y = simp or-sort

toggles_add : (s : ℕ → ℕ) (a n m : ℕ) → toggles_of s a (n + suc m) ≡ bit_or (bit_or (toggles_of s a n) (toggles_of s (a + suc n) m)) (changes s (a + suc n))
unfolding toggles_of
toggles_add s a n zero = ap (toggles_of s a) (add-one n) ∙ ap (λ (z : ℕ). bit_or z (changes s (a + suc n))) (sym (or_zero_r (toggles_of s a n)))
toggles_add s a n (suc m) =
    ap (toggles_of s a) (add-suc n (suc m))
    ∙ ap₂ (λ (z w : ℕ). bit_or z (changes s w)) (toggles_add s a n m) (omega arith)
    ∙ or_shuffle (toggles_of s a n) (toggles_of s (a + suc n) m) (changes s (a + suc n)) (changes s (a + suc n + suc m))

-- the node of [a, c) is the join of those of [a, b) and [b, c)
pub node_join : (s : ℕ → ℕ) (a b c : ℕ) → a < b → b < c → join (node_of s a b) (node_of s b c) ≡ node_of s a c
unfolding node_of node
node_join s a b c h k =
    ap₂ (node (s a) (s (c - 1)))
    (ap (bit_or (bit_or (toggles_of s a (b - 1 - a)) (toggles_of s b (c - 1 - b)))) (xor_comm (s (b - 1)) (s b))
    ∙ ap (λ (z : ℕ). bit_or (bit_or (toggles_of s a (b - 1 - a)) (toggles_of s z (c - 1 - b))) (changes s z)) eb
    ∙ sym (toggles_add s a (b - 1 - a) (c - 1 - b))
    ∙ ap (toggles_of s a) (omega arith))
    (once (changes_in s a b) (changes_in s b c) (differs (s (b - 1)) (s b)) ∙ ap cap_count (ap (λ (z : ℕ). changes_in s a b + changes_in s b c + z) (differs_comm (s (b - 1)) (s b)) ∙ changes_add s a b c h k))
  where
    eb : b ≡ a + suc (b - 1 - a)
    eb = omega arith

    once : (x y z : ℕ) → cap_count (cap_count x + cap_count y + z) ≡ cap_count (x + y + z)
    once x y z = omega arith

pub node_one : (s : ℕ → ℕ) (a : ℕ) → node_of s a (a + 1) ≡ leaf (s a)
unfolding node_of node toggles_of count_of
node_one s a = ap₂ (λ (x y : ℕ). node (s a) (s x) (toggles_of s a y) (cap_count (count_of s a y))) last_is none_inside
  where
    last_is : a + 1 - 1 ≡ a
    last_is = omega arith

    none_inside : a + 1 - 1 - a ≡ 0
    none_inside = omega arith

-- the node depends on the samples of its range alone
toggles_same : (s t : ℕ → ℕ) (a n : ℕ) → ((i : ℕ) → a ≤ i → i ≤ a + n → s i ≡ t i) → toggles_of s a n ≡ toggles_of t a n
unfolding toggles_of
toggles_same s t a zero h = refl
toggles_same s t a (suc n) h =
    ap₂ bit_or (toggles_same s t a n (λ i l u. h i l (omega arith))) (ap₂ bit_xor (h (a + suc n) (omega arith) (omega arith)) (h (a + suc n - 1) (omega arith) (omega arith)))

pub node_same : (s t : ℕ → ℕ) (a b : ℕ) → a < b → ((i : ℕ) → a ≤ i → i < b → s i ≡ t i) → node_of s a b ≡ node_of t a b
unfolding node_of node
node_same s t a b k h =
    ap₂ (λ (x y : ℕ). node x y (toggles_of s a (b - 1 - a)) (cap_count (changes_in s a b))) (h a (omega arith) (omega arith)) (h (b - 1) (omega arith) (omega arith))
    ∙ ap₂ (node (t a) (t (b - 1))) (toggles_same s t a (b - 1 - a) (λ i l u. h i l (omega arith))) (ap cap_count (changes_same s t a b h))

-- ---- no masked change
pub toggles_quiet : (s : ℕ → ℕ) (m a n : ℕ) → ((i : ℕ) → a < i → i ≤ a + n → bit_and (changes s i) m ≡ 0) → bit_and (toggles_of s a n) m ≡ 0
unfolding toggles_of
toggles_quiet s m a zero h = refl
toggles_quiet s m a (suc n) h =
    and_or (toggles_of s a n) (changes s (a + suc n)) m
    ∙ or_zero (toggles_quiet s m a n (λ i l u. h i l (omega arith))) (h (a + suc n) (omega arith) (omega arith))

pub quiet_toggles : (s : ℕ → ℕ) (m a n : ℕ) → bit_and (toggles_of s a n) m ≡ 0 → (i : ℕ) → a < i → i ≤ a + n → bit_and (changes s i) m ≡ 0
unfolding toggles_of
quiet_toggles s m a zero h i l u = absurd (omega arith)
quiet_toggles s m a (suc n) h i l u = pick (λ e l'. quiet_toggles s m a n e i l l') (eq-or-lt_of_le u)
  where
    both : bit_or (bit_and (toggles_of s a n) m) (bit_and (changes s (a + suc n)) m) ≡ 0
    both = sym (and_or (toggles_of s a n) (changes s (a + suc n)) m) ∙ h

    pick : (bit_and (toggles_of s a n) m ≡ 0 → i ≤ a + n → bit_and (changes s i) m ≡ 0) → (i ≡ a + suc n) ⊎ (i < a + suc n) → bit_and (changes s i) m ≡ 0
    pick before (inl e) = ap (λ (z : ℕ). bit_and (changes s z) m) e ∙ or_zero_right (bit_and (toggles_of s a n) m) (bit_and (changes s (a + suc n)) m) both
    pick before (inr l') = before (or_zero_left (bit_and (toggles_of s a n) m) (bit_and (changes s (a + suc n)) m) both) (omega arith)

-- the test of a node, taken apart: near is its end at the value before, v
pub record Quiet (s : ℕ → ℕ) (near v m a b : ℕ) : Type 0 where
  pub border : bit_and (bit_xor near v) m ≡ 0
  pub inside : (i : ℕ) → a < i → i < b → bit_and (changes s i) m ≡ 0

-- a node with the toggles of [a, b), whichever its near end is
module _ (s : ℕ → ℕ) (n : Node) (v m a b : ℕ) (is : n.toggles ≡ toggles_of s a (b - 1 - a)) where
  test_is : bit_and (bit_or (bit_xor n.first v) n.toggles) m ≡ bit_or (bit_and (bit_xor n.first v) m) (bit_and (toggles_of s a (b - 1 - a)) m)
  test_is = and_or (bit_xor n.first v) n.toggles m ∙ ap (λ (t : ℕ). bit_or (bit_and (bit_xor n.first v) m) (bit_and t m)) is

  pub quiet_true : quiet n v m ≡ true → Quiet s n.first v m a b
  quiet_true e = record {
    border = or_zero_left x y both;
    inside = λ i l u. quiet_toggles s m a (b - 1 - a) (or_zero_right x y both) i l (omega arith);
  }
    where
      x : ℕ
      x = bit_and (bit_xor n.first v) m

      y : ℕ
      y = bit_and (toggles_of s a (b - 1 - a)) m

      both : bit_or x y ≡ 0
      both = sym test_is ∙ eqb-true _ _ e

  pub true_quiet : a < b → Quiet s n.first v m a b → quiet n v m ≡ true
  true_quiet h q = eq-eqb _ _ (test_is ∙ or_zero q.border (toggles_quiet s m a (b - 1 - a) (λ i l u. q.inside i l (omega arith))))

-- ---- chosen lines
changes_cut : (m : ℕ) (s : ℕ → ℕ) (i : ℕ) → changes (cut_lines m s) i ≡ bit_and (changes s i) m
changes_cut m s i = sym (and_xor (s i) (s (i - 1)) m)

toggles_cut : (m : ℕ) (s : ℕ → ℕ) (a n : ℕ) → toggles_of (cut_lines m s) a n ≡ bit_and (toggles_of s a n) m
unfolding toggles_of
toggles_cut m s a zero = refl
toggles_cut m s a (suc n) = ap₂ bit_or (toggles_cut m s a n) (changes_cut m s (a + suc n)) ∙ sym (and_or (toggles_of s a n) (changes s (a + suc n)) m)

-- the lines of a node of chosen lines are the node, cut down
pub node_cut : (m : ℕ) (s : ℕ → ℕ) (a b : ℕ) → lines_of (node_of (cut_lines m s) a b) ≡ cut m (node_of s a b)
unfolding node_of
node_cut m s a b = λ i. record { first = bit_and (s a) m; last = bit_and (s (b - 1)) m; toggles = toggles_cut m s a (b - 1 - a) i }

-- ---- words: nodes of samples that a word holds, and their joins, have numbers that a word holds
words_toggles : (s : ℕ → ℕ) → ((i : ℕ) → Word (s i)) → (a n : ℕ) → Word (toggles_of s a n)
unfolding toggles_of
words_toggles s h a zero = omega arith
words_toggles s h a (suc n) = or_lt mask_bits (toggles_of s a n) (changes s (a + suc n)) (words_toggles s h a n) (xor_lt mask_bits (s (a + suc n)) (s (a + suc n - 1)) (h (a + suc n)) (h (a + suc n - 1)))

pub node_words : (s : ℕ → ℕ) → ((i : ℕ) → Word (s i)) → (a b : ℕ) → Words (node_of s a b)
unfolding node_of
node_words s h a b = record { first = h a; last = h (b - 1); toggles = words_toggles s h a (b - 1 - a); count = omega arith }

pub join_words : (l r : Node) → Words l → Words r → Words (join l r)
join_words l r p q = record {
  first = p.first;
  last = q.last;
  toggles = or_lt mask_bits (bit_or l.toggles r.toggles) (bit_xor l.last r.first) (or_lt mask_bits l.toggles r.toggles p.toggles q.toggles) (xor_lt mask_bits l.last r.first p.last q.first);
  count = omega arith;
}
