-- Laws of the check: what a loop over levels knows, that a node made from a right level below is the node of its range, and that no node is wrong exactly when the levels are right.
use Prim.Native.Nat.{ℕ, zero, suc, ◌+◌, ◌-◌, ◌*◌, ◌/◌, ◌≤◌, ◌<◌, min}
use mathlib.Core.Path.{◌≡◌, refl, sym, ap, ap₂, ◌∙◌, subst}
use mathlib.Core.Bool.{Bool, true, false, not, ◌&&◌}
use mathlib.Core.List.{List}
use mathlib.Core.Logic.{◌↔◌}
use Rattle.std.specs.Prelude.{Option, None, Some}
use native.Mathlib.Nat.{mul-le-mul_left, le-div_iff_mul-le, pow-suc}
use native.Mathlib.Decide.{dec_lt}
use native.Mathlib.Omega.{arith}
use lib.Dec.{eqb}
use lib.ListN.{length}
use borrow.Author.Tests.{eqb-true, eq-eqb, not-false}
use Rattle.rules.specs.Node.{Node, node_of, span, nodes_for, top_level, level_node}
use Rattle.rules.specs.Search.{seek, higher}
use Rattle.rules.specs.Refusal.{node_size, most_samples}
use Rattle.rules.proofs.Search.{times, times_up, seek_none, seek_skip, seek_here, none_seek}
use Rattle.rules.proofs.Walk.{span_pos}
use Rattle.node.specs.Memory.{node_in, RightAt, Right}
use Rattle.level.proofs.Best.{span_le}
use Rattle.range.specs.Join.{join_over}
use Rattle.range.specs.Part.{NodesIn}
use Rattle.range.proofs.Joins.{made_at}
use Rattle.range.proofs.Right.{made_true}
use Rattle.capture.specs.Backed.{Backed}
use Rattle.rules.specs.Wrong.{same_node, NodeAt, or_above, wrong_at, first_wrong, whole_answer}
use Rattle.whole.specs.Wrong.{held_in}
use Rattle.whole.specs.Made.{made_node, Numbered}

-- ---- nodes that cover stored samples
pub covering : (len l j : ℕ) → (j < nodes_for len l) ↔ (j * span l < len)
covering len l j = (
  λ h. omega (arith, (le-div_iff_mul-le {k = span l} {x = j + 1} {y = len + (span l - 1)} (span_pos l)).0 (omega arith), span_pos l),
  λ h. omega (arith, (le-div_iff_mul-le {k = span l} {x = j + 1} {y = len + (span l - 1)} (span_pos l)).1 (omega (arith, span_pos l))),
)

-- the last of them starts before the end, and no sample is past it
module _ (len l : ℕ) (h : 0 < len) where
  counted : 0 < nodes_for len l
  counted = (covering len l 0).1 (omega arith)

  last_in : (nodes_for len l - 1) * span l < len
  last_in = (covering len l (nodes_for len l - 1)).0 (omega (arith, counted))

  all_in : len ≤ suc (nodes_for len l - 1) * span l
  all_in = go (dec_lt (suc (nodes_for len l - 1) * span l) len)
    where
      go : Dec (suc (nodes_for len l - 1) * span l < len) → len ≤ suc (nodes_for len l - 1) * span l
      go (yes d) = absurd (omega (arith, (covering len l (suc (nodes_for len l - 1))).1 d))
      go (no d) = omega arith

-- ---- equal nodes
-- the last test decides where the others hold
pub three_same : (a b c d : Bool) → a ≡ true → b ≡ true → c ≡ true → d ≡ (a && (b && (c && d)))
three_same a b c d ea eb ec = simp (ea, eb, ec)

pub same_is : (m n : Node) → (same_node m n ≡ true) ↔ (m ≡ n)
same_is m n = (
  go (eqb m.first n.first) refl (eqb m.last n.last) refl (eqb m.toggles n.toggles) refl,
  λ e.
      sym (three_same (eqb m.first n.first) (eqb m.last n.last) (eqb m.toggles n.toggles) (eqb m.count n.count) (eq-eqb _ _ (ap (λ (x : Node). x.first) e)) (eq-eqb _ _ (ap (λ (x : Node). x.last) e)) (eq-eqb _ _ (ap (λ (x : Node). x.toggles) e)))
      ∙ eq-eqb _ _ (ap (λ (x : Node). x.count) e),
)
  where
    go : (a : Bool) → eqb m.first n.first ≡ a → (b : Bool) → eqb m.last n.last ≡ b → (c : Bool) → eqb m.toggles n.toggles ≡ c → (a && (b && (c && eqb m.count n.count))) ≡ true → m ≡ n
    go true ea true eb true ec t = λ i. record { first = eqb-true m.first n.first ea i; last = eqb-true m.last n.last eb i; toggles = eqb-true m.toggles n.toggles ec i; count = eqb-true m.count n.count t i }
    go true ea true eb false ec t = absurd (let z : ◌≡◌ {A = ℕ} 0 1 = cc in omega arith)
    go true ea false eb c ec t = absurd (let z : ◌≡◌ {A = ℕ} 0 1 = cc in omega arith)
    go false ea b eb c ec t = absurd (let z : ◌≡◌ {A = ℕ} 0 1 = cc in omega arith)

module _ (s : ℕ → ℕ) (len : ℕ) (levels : ℕ → List ℕ) where
  -- ---- a level with no wrong node
  abbrev NoneWrong : ℕ → ℕ → Type 0
  NoneWrong l n = (j : ℕ) → j < n → wrong_at s len (held_in levels) l j ≡ false

  pub none_more : (l n : ℕ) → NoneWrong l n → wrong_at s len (held_in levels) l n ≡ false → NoneWrong l (n + 1)
  none_more l n h e j k = go (dec_lt j n)
    where
      go : Dec (j < n) → wrong_at s len (held_in levels) l j ≡ false
      go (yes d) = h j d
      go (no d) = ap (wrong_at s len (held_in levels) l) same ∙ e
        where
          same : j ≡ n
          same = omega arith

  none_right : (l : ℕ) → NoneWrong l (nodes_for len l) ↔ RightAt s len levels l
  none_right l = (
    λ h j k. (same_is (node_in (levels l) j) (level_node s len l j)).0 (not-false _ (h j ((covering len l j).1 k))),
    λ r j k. ap not ((same_is (node_in (levels l) j) (level_node s len l j)).1 (r j ((covering len l j).0 k))),
  )

  seek_is : (l n : ℕ) → NoneWrong l n ↔ (seek higher (wrong_at s len (held_in levels) l) 0 n ≡ None)
  seek_is l n = (
    λ h. none_seek higher (wrong_at s len (held_in levels) l) 0 n (λ j k. h (times higher j 0) (omega (arith, times_up j 0))),
    λ e j k. ap (wrong_at s len (held_in levels) l) (sym (times_up j 0 ∙ omega arith)) ∙ seek_none higher (wrong_at s len (held_in levels) l) 0 n e j k,
  )

  -- ---- a loop over the levels has come to level l
  pub record Checking (l : ℕ) : Type 0 where
    pub low : 1 ≤ l
    pub high : l ≤ top_level + 1
    pub below : (k : ℕ) → 1 ≤ k → k < l → RightAt s len levels k
    pub rest : whole_answer s len (held_in levels) ≡ first_wrong s len (held_in levels) l (top_level + 1 - l)

  pub checking_starts : Checking 1
  checking_starts = record { low = omega arith; high = omega arith; below = λ k a b. absurd (omega arith); rest = refl }

  level_found : (l n : ℕ) (o : Option ℕ) → seek higher (wrong_at s len (held_in levels) l) 0 (nodes_for len l) ≡ o → first_wrong s len (held_in levels) l (suc n) ≡ or_above l o (first_wrong s len (held_in levels) (l + 1) n)
  unfolding first_wrong
  level_found l n o e = ap (λ (x : Option ℕ). or_above l x (first_wrong s len (held_in levels) (l + 1) n)) e

  pub checking_on : (l : ℕ) → Checking l → l ≤ top_level → NoneWrong l (nodes_for len l) → Checking (l + 1)
  checking_on l c h n = record {
    low = omega arith;
    high = omega arith;
    below = λ k a b. go k a (dec_lt k l) b;
    rest = c.rest ∙ ap (first_wrong s len (held_in levels) l) left ∙ level_found l (top_level + 1 - (l + 1)) None ((seek_is l (nodes_for len l)).0 n);
  }
    where
      left : top_level + 1 - l ≡ suc (top_level + 1 - (l + 1))
      left = omega arith

      go : (k : ℕ) → 1 ≤ k → Dec (k < l) → k < l + 1 → RightAt s len levels k
      go k a (yes d) b = c.below k a d
      go k a (no d) b = subst (RightAt s len levels) same ((none_right l).0 n)
        where
          same : l ≡ k
          same = omega arith

  pub checking_found : (l j : ℕ) → Checking l → l ≤ top_level → j < nodes_for len l → NoneWrong l j → wrong_at s len (held_in levels) l j ≡ true → Some (record { level = l; number = j }) ≡ whole_answer s len (held_in levels)
  checking_found l j c h k n e = sym (c.rest ∙ ap (first_wrong s len (held_in levels) l) left ∙ level_found l (top_level + 1 - (l + 1)) (Some j) found)
    where
      left : top_level + 1 - l ≡ suc (top_level + 1 - (l + 1))
      left = omega arith

      parts : nodes_for len l ≡ j + (nodes_for len l - j)
      parts = omega arith

      at : times higher j 0 ≡ j
      at = times_up j 0 ∙ omega arith

      found : seek higher (wrong_at s len (held_in levels) l) 0 (nodes_for len l) ≡ Some j
      found =
          ap (seek higher (wrong_at s len (held_in levels) l) 0) parts
          ∙ seek_skip higher (wrong_at s len (held_in levels) l) 0 j (nodes_for len l - j) (λ i d. n (times higher i 0) (omega (arith, times_up i 0)))
          ∙ ap (λ (p : ℕ). seek higher (wrong_at s len (held_in levels) l) p (nodes_for len l - j)) at
          ∙ seek_here higher (wrong_at s len (held_in levels) l) j (nodes_for len l - j) e (omega arith)

  pub checking_ends : (l : ℕ) → Checking l → top_level < l → None ≡ whole_answer s len (held_in levels)
  unfolding first_wrong
  checking_ends l c h = sym (c.rest ∙ ap (first_wrong s len (held_in levels) l) over)
    where
      over : top_level + 1 - l ≡ 0
      over = omega arith

  -- ---- a node made from the level below
  pub made_right : (l j : ℕ) → Checking l → l ≤ top_level → j * span l < len → made_node s len levels l j ≡ level_node s len l j
  unfolding made_node
  made_right zero j c h k = absurd (omega (arith, c.low))
  made_right (suc zero) j c h k = ap (node_of s (j * 32)) ends
    where
      ends : min (j * 32 + 32) len ≡ min (suc j * 32) len
      ends = omega arith
  made_right (suc (suc l)) j c h k = made_true s len (suc l) (nodes_for len (suc l) - 1) (node_in (levels (suc l))) (c.below (suc l) (omega arith) (omega arith)) (last_in len (suc l) (omega arith)) (all_in len (suc l) (omega arith)) j k

  -- what the code finds of a node is whether it is wrong
  pub wrong_is : (l j : ℕ) (t : Bool) → Checking l → l ≤ top_level → j * span l < len → t ≡ not (same_node (node_in (levels l) j) (made_node s len levels l j)) → t ≡ wrong_at s len (held_in levels) l j
  wrong_is l j t c h k e = e ∙ ap (λ (n : Node). not (same_node (node_in (levels l) j) n)) (made_right l j c h k)

  -- ---- no wrong node
  none_after : (l n : ℕ) (o : Option ℕ) (rest : Option NodeAt) → or_above l o rest ≡ None → (o ≡ None) × (rest ≡ None)
  none_after l n None rest e = (refl, e)
  none_after l n (Some j) rest e = let z : ◌≡◌ {A = ℕ} 0 1 = cc in absurd (omega arith)

  levels_right : (l n : ℕ) → first_wrong s len (held_in levels) l n ≡ None → (k : ℕ) → l ≤ k → k < l + n → RightAt s len levels k
  unfolding first_wrong
  levels_right l zero e k a b = absurd (omega arith)
  levels_right l (suc n) e k a b = go (none_after l n _ _ e) (levels_right (l + 1) n) (dec_lt l k)
    where
      go : (seek higher (wrong_at s len (held_in levels) l) 0 (nodes_for len l) ≡ None) × (first_wrong s len (held_in levels) (l + 1) n ≡ None)
          → (first_wrong s len (held_in levels) (l + 1) n ≡ None → (k : ℕ) → l + 1 ≤ k → k < l + 1 + n → RightAt s len levels k) → Dec (l < k) → RightAt s len levels k
      go t ih (yes d) = ih t.1 k (omega arith) (omega arith)
      go t ih (no d) = subst (RightAt s len levels) same ((none_right l).0 ((seek_is l (nodes_for len l)).1 t.0))
        where
          same : l ≡ k
          same = omega arith

  right_levels : (l n : ℕ) → ((k : ℕ) → l ≤ k → k < l + n → RightAt s len levels k) → first_wrong s len (held_in levels) l n ≡ None
  unfolding first_wrong
  right_levels l zero h = refl
  right_levels l (suc n) h = ap₂ (or_above l) ((seek_is l (nodes_for len l)).0 ((none_right l).1 (h l (omega arith) (omega arith)))) (right_levels (l + 1) n (λ k a b. h k (omega arith) (omega arith)))

  pub right_is : (whole_answer s len (held_in levels) ≡ None) ↔ Right s len levels
  right_is = (λ e k a b. levels_right 1 top_level e k a (omega arith), λ r. right_levels 1 top_level (λ k a b. r k a (omega arith)))

-- ---- room
module _ (unit len : ℕ) (samples : List ℕ) (levels : ℕ → List ℕ) (b : Backed unit len samples levels) (l j : ℕ) (n : Numbered len l j) where
  pub number_small : j * 32 < most_samples
  number_small = omega (arith, n.covers, b.most, mul-le-mul_left {m = 32} {n = span l} j (span_le {l = 1} {k = l} n.low))

  pub join_room : (e : ℕ) (below : List ℕ) → 2 ≤ l → e ≡ min (j * 32 + 32) (nodes_for len (l - 1)) → below ≡ levels (l - 1) → (j * 32 < e) × NodesIn (j * 32) e (length below)
  join_room e below h ee el = (first, record { few = omega (arith, ee); room = subst (λ (x : List ℕ). e * node_size ≤ length x) (sym el) (omega (arith, first, room)) })
    where
      wide : span l ≡ span (l - 1) * 32
      wide = ap span (omega arith) ∙ pow-suc 32 (l - 1)

      inside : j * 32 < nodes_for len (l - 1)
      inside = (covering len (l - 1) (j * 32)).1 (omega (arith, subst (λ (x : ℕ). j * x < len) wide n.covers))

      first : j * 32 < e
      first = omega (arith, inside)

      room : (e - 1) * node_size + node_size ≤ length (levels (l - 1))
      room = b.nodes.inside (l - 1) (e - 1) (omega arith) (omega (arith, n.high)) ((covering len (l - 1) (e - 1)).0 (omega (arith, first)))

pub made_samples : (s : ℕ → ℕ) (len : ℕ) (levels : ℕ → List ℕ) (l j e : ℕ) → l ≡ 1 → e ≡ min (j * 32 + 32) len → node_of s (j * 32) e ≡ made_node s len levels l j
unfolding made_node
made_samples s len levels l j e z ee = ap (node_of s (j * 32)) ee ∙ sym (ap (λ (k : ℕ). made_node s len levels k j) z)

pub made_below : (s : ℕ → ℕ) (len : ℕ) (levels : ℕ → List ℕ) (l j e : ℕ) (below : List ℕ) (n : Node) → 2 ≤ l → j * 32 < e → e ≡ min (j * 32 + 32) (nodes_for len (l - 1)) → below ≡ levels (l - 1)
    → n ≡ join_over (node_in below) (j * 32) (e - 1 - j * 32) → n ≡ made_node s len levels l j
unfolding made_node
made_below s len levels zero j e below n h k ee el en = absurd (omega arith)
made_below s len levels (suc zero) j e below n h k ee el en = absurd (omega arith)
made_below s len levels (suc (suc l)) j e below n h k ee el en =
    let t = upto (nodes_for len (suc l)) (ee ∙ ap (λ (i : ℕ). min (j * 32 + 32) (nodes_for len i)) down) in
    made_at (node_in (levels (suc l))) (nodes_for len (suc l) - 1) j (j * 32) e n t.0 refl t.1 (en ∙ ap (λ (x : List ℕ). join_over (node_in x) (j * 32) (e - 1 - j * 32)) (el ∙ ap levels down))
  where
    down : suc (suc l) - 1 ≡ suc l
    down = omega arith

    upto : (count : ℕ) → e ≡ min (j * 32 + 32) count → (j ≤ (count - 1) / 32) × (e ≡ min (j * 32 + 32) (count - 1 + 1))
    upto count q = (omega arith, omega arith)
