-- Laws of nodes joined one by one, and the invariant of the loops that join them.
use Prim.Native.Nat.{ℕ, zero, suc, ◌+◌, ◌-◌, ◌*◌, ◌/◌, ◌≤◌, ◌<◌, min}
use mathlib.Core.Path.{◌≡◌, refl, sym, ap, ap₂, ◌∙◌}
use native.Mathlib.Nat.{suc-add, le_refl}
use native.Mathlib.Omega.{arith}
use mathlib.Core.Bool.{Bool}
use Rattle.rules.specs.Node.{Node, join, differs, cap_count, most_count}
use Rattle.node.specs.Told.{Told}
use Rattle.node.proofs.Told.{told_is, told_on, told_trans, told_join}
use Rattle.range.specs.Join.{join_over, join_on, made_over}

-- two runs of joins in a row are one
pub on_add : (nodes : ℕ → Node) (j k : ℕ) (n : Node) (i : ℕ) → join_on (join_on n nodes i j) nodes (i + j) k ≡ join_on n nodes i (j + k)
unfolding join_on
on_add nodes zero k n i = ap₂ (join_on n nodes) at none
  where
    at : i + 0 ≡ i
    at = omega arith

    none : k ≡ 0 + k
    none = omega arith
on_add nodes (suc j) k n i =
    ap (λ (x : ℕ). join_on (join_on (join n (nodes i)) nodes (i + 1) j) nodes x k) at
    ∙ on_add nodes j k (join n (nodes i)) (i + 1)
    ∙ ap (join_on n nodes i) (sym (suc-add j k))
  where
    at : i + suc j ≡ i + 1 + j
    at = omega arith

-- one node more, at the end
on_one : (nodes : ℕ → Node) (k : ℕ) (n : Node) (i : ℕ) → join (join_on n nodes i k) (nodes (i + k)) ≡ join_on n nodes i (k + 1)
unfolding join_on
on_one nodes k n i = on_add nodes k 1 n i

-- joining on from the first node is joining all
pub over_on : (nodes : ℕ → Node) (a n : ℕ) → join_on (nodes a) nodes (a + 1) n ≡ join_over nodes a n
unfolding join_on join_over
over_on nodes a zero = refl
over_on nodes a (suc n) = last (over_on nodes a n)
  where
    one : n + 1 ≡ suc n
    one = omega arith

    at : a + 1 + n ≡ a + suc n
    at = omega arith

    last : join_on (nodes a) nodes (a + 1) n ≡ join_over nodes a n → join_on (nodes a) nodes (a + 1) (suc n) ≡ join (join_over nodes a n) (nodes (a + suc n))
    last ih = ap (join_on (nodes a) nodes (a + 1)) (sym one) ∙ sym (on_add nodes n 1 (nodes a) (a + 1)) ∙ ap₂ (λ (x : Node) (i : ℕ). join x (nodes i)) ih at

-- what tells the same before tells the same after
told_all : (c : Bool) (nodes : ℕ → Node) (k : ℕ) (n m : Node) (i : ℕ) → Told c n m → Told c (join_on n nodes i k) (join_on m nodes i k)
unfolding join_on
told_all c nodes zero n m i t = t
told_all c nodes (suc k) n m i t = told_all c nodes k (join n (nodes i)) (join m (nodes i)) (i + 1) (told_join c n m (nodes i) (nodes i) t (told_is c (nodes i) (nodes i) refl))

-- ---- a loop that joins the nodes up to b: what is left from i on tells what all of them tell
pub record Joining (c : Bool) (nodes : ℕ → Node) (n : Node) (from b : ℕ) (acc : Node) (i : ℕ) : Type 0 where
  pub low : from ≤ i
  pub high : i ≤ b
  pub same : Told c (join_on acc nodes i (b - i)) (join_on n nodes from (b - from))

module _ (c : Bool) (nodes : ℕ → Node) (n : Node) (from b : ℕ) where
  pub joining_starts : from ≤ b → Joining c nodes n from b n from
  joining_starts h = record { low = le_refl from; high = h; same = told_is c _ _ refl }

  -- k nodes more
  pub joining_on : (acc : Node) (i : ℕ) → Joining c nodes n from b acc i → (k : ℕ) (acc' : Node) → i + k ≤ b → Told c acc' (join_on acc nodes i k) → Joining c nodes n from b acc' (i + k)
  joining_on acc i p k acc' h t = record {
    low = omega (arith, p.low);
    high = h;
    same = told_trans c _ _ _ (told_on c _ _ _ (told_all c nodes (b - (i + k)) acc' (join_on acc nodes i k) (i + k) t) (on_add nodes k (b - (i + k)) acc i ∙ ap (join_on acc nodes i) all)) p.same;
  }
    where
      all : k + (b - (i + k)) ≡ b - i
      all = omega arith

  pub joining_end : (acc : Node) (i : ℕ) → Joining c nodes n from b acc i → b ≤ i → Told c acc (join_on n nodes from (b - from))
  unfolding join_on
  joining_end acc i p h = told_trans c _ _ _ (told_is c _ _ (sym (ap (join_on acc nodes i) none))) p.same
    where
      none : b - i ≡ 0
      none = omega arith

pub join_one : (c : Bool) (n : Node) (nodes : ℕ → Node) (i : ℕ) (m r : Node) → m ≡ nodes i → Told c r (join n m) → Told c r (join_on n nodes i 1)
unfolding join_on
join_one c n nodes i m r em t = told_on c _ _ _ t (ap (join n) em)

-- one node more
pub join_next : (c : Bool) (n : Node) (nodes : ℕ → Node) (i k : ℕ) (r m r' : Node) → Told c r (join_on n nodes i k) → m ≡ nodes (i + k) → Told c r' (join r m) → Told c r' (join_on n nodes i (k + 1))
unfolding join_on
join_next c n nodes i k r m r' t em u = told_trans c _ _ _ u (told_on c _ _ _ (told_join c r (join_on n nodes i k) m (nodes (i + k)) t (told_is c _ _ em)) (on_add nodes k 1 n i))

-- the nodes that follow the first one join it
pub over_all : (nodes : ℕ → Node) (a b : ℕ) (n : Node) → a < b → n ≡ nodes a → join_on n nodes (a + 1) (b - (a + 1)) ≡ join_over nodes a (b - 1 - a)
over_all nodes a b n h en = ap₂ (λ (x : Node) (k : ℕ). join_on x nodes (a + 1) k) en count ∙ over_on nodes a (b - 1 - a)
  where
    count : b - (a + 1) ≡ b - 1 - a
    count = omega arith

-- ---- a loop that counts them: what it has added up is cut at its end
pub record Counting (nodes : ℕ → Node) (n : Node) (from b sum last i : ℕ) : Type 0 where
  pub low : from ≤ i
  pub high : i ≤ b
  pub few : sum ≤ (i - from + 1) * 4294967296
  pub sum_is : cap_count sum ≡ (join_on n nodes from (i - from)).count
  pub last_is : last ≡ (join_on n nodes from (i - from)).last

module _ (nodes : ℕ → Node) (n : Node) (from b : ℕ) where
  pub counting_starts : from ≤ b → n.count ≤ most_count → Counting nodes n from b n.count n.last from
  unfolding join_on
  counting_starts h k = record {
    low = le_refl from;
    high = h;
    few = omega arith;
    sum_is = uncut ∙ ap (λ (j : ℕ). (join_on n nodes from j).count) none;
    last_is = ap (λ (j : ℕ). (join_on n nodes from j).last) none;
  }
    where
      none : 0 ≡ from - from
      none = omega arith

      uncut : cap_count n.count ≡ n.count
      uncut = omega arith

  pub counting_on : (sum last i : ℕ) (m : Node) (d : ℕ) → Counting nodes n from b sum last i → i < b → m ≡ nodes i → d ≡ m.count + differs last m.first → d ≤ 4294967296
      → Counting nodes n from b (sum + d) m.last (i + 1)
  counting_on sum last i m d p h em ed hd = record {
    low = omega (arith, p.low);
    high = omega arith;
    few = omega (arith, p.few, p.low);
    sum_is = once ∙ ap (λ (x : Node). x.count) next;
    last_is = ap (λ (x : Node). x.last) next;
  }
    where
      at : i ≡ from + (i - from)
      at = omega (arith, p.low)

      one : i - from + 1 ≡ i + 1 - from
      one = omega (arith, p.low)

      next : join (join_on n nodes from (i - from)) m ≡ join_on n nodes from (i + 1 - from)
      next = ap (join (join_on n nodes from (i - from))) (em ∙ ap nodes at) ∙ join_last ∙ ap (join_on n nodes from) one
        where
          join_last : join (join_on n nodes from (i - from)) (nodes (from + (i - from))) ≡ join_on n nodes from (i - from + 1)
          join_last = on_one nodes (i - from) n from

      once : cap_count (sum + d) ≡ cap_count ((join_on n nodes from (i - from)).count + m.count + differs (join_on n nodes from (i - from)).last m.first)
      once = omega (arith, p.sum_is, ed, ap (λ (x : ℕ). differs x m.first) p.last_is)

  pub counting_ends : (sum last i : ℕ) → Counting nodes n from b sum last i → b ≤ i → cap_count sum ≡ (join_on n nodes from (b - from)).count
  counting_ends sum last i p h = p.sum_is ∙ ap (λ (j : ℕ). (join_on n nodes from (j - from)).count) end
    where
      end : i ≡ b
      end = omega (arith, p.high)

-- ---- one level up
-- the nodes a to b, joined, are node j of the level above, where b is the end of its nodes
pub made_at : (nodes : ℕ → Node) (top j a b : ℕ) (n : Node) → j ≤ top / 32 → a ≡ j * 32 → b ≡ min (a + 32) (top + 1) → n ≡ join_over nodes a (b - 1 - a) → n ≡ made_over nodes top j
made_at nodes top j a b n h ea eb en = en ∙ ap₂ (join_over nodes) ea run
  where
    run : b - 1 - a ≡ min 31 (top - j * 32)
    run = omega arith
