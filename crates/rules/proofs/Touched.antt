-- Laws of touched nodes, for any level: which they are, what they depend on, and that each is the node of its range where it was right before.
use Prim.Native.Nat.{ℕ, suc, ◌+◌, ◌-◌, ◌*◌, ◌/◌, ◌≤◌, ◌<◌}
use mathlib.Core.Path.{◌≡◌, refl, sym, ap, ap₂, ◌∙◌}
use mathlib.Core.List.{[], ◌∷◌}
use mathlib.Core.Logic.{◌↔◌}
use native.Mathlib.Nat.{mul-le-mul_right, lt_of_mul-lt-mul_right, div-add-mod', mod-lt}
use native.Mathlib.Decide.{dec_le}
use native.Mathlib.Omega.{arith}
use borrow.Author.Tests.{le-ltb, lt-ltb}
use Rattle.rules.specs.Sample.{sample_of}
use Rattle.rules.specs.Node.{Node, join, toggles_of, count_of, node_of, span, node_start, node_end, level_node}
use Rattle.rules.specs.Touched.{touched, running_node}
use Rattle.rules.proofs.Node.{node_join, node_same}
use Rattle.rules.proofs.Walk.{span_pos}

-- ---- computed, over a node that is not that of its samples
abbrev A : ℕ → ℕ
A = sample_of 1 (0 ∷ 0 ∷ 1 ∷ 1 ∷ 0 ∷ 2 ∷ 2 ∷ 3 ∷ [])

abbrev held : ℕ → Node
held j = record { first = 7; last = 2; toggles = 4; count = 9 }

-- of level 1 a node that begins before len, one that ends before the samples do and one that begins at len; at that len a node of level 2
pub computed :
    (running_node A held 6 8 1 0 ≡ record { first = 7; last = 3; toggles = 5; count = 10 })
    × (running_node (λ i. A (i - 31)) held 31 39 1 0 ≡ record { first = 7; last = 0; toggles = 6; count = 10 })
    × (running_node (λ i. A (i - 32)) held 32 40 1 1 ≡ record { first = 0; last = 3; toggles = 3; count = 4 })
    × (running_node (λ i. A (i - 32)) held 32 40 2 0 ≡ record { first = 7; last = 3; toggles = 7; count = 14 })
unfolding running_node node_of toggles_of count_of sample_of
computed = (refl, refl, refl, refl)

-- ---- the node of a level that a place lies in
module _ (place l : ℕ) where
  pub node_low : place / span l * span l ≤ place
  node_low = omega (arith, div-add-mod' place (span l))

  pub node_high : place < suc (place / span l) * span l
  node_high = omega (arith, div-add-mod' place (span l), mod-lt place (span_pos l))

  -- it is the last one that begins at the place or before it, and the first one that ends behind it
  pub node_last : (j : ℕ) → node_start l j ≤ place → j ≤ place / span l
  node_last j h = omega (arith, lt_of_mul-lt-mul_right (span l) {m = j} {n = suc (place / span l)} (omega (arith, node_high)))

  pub node_first : (j : ℕ) → place < suc j * span l → place / span l ≤ j
  node_first j h = omega (arith, lt_of_mul-lt-mul_right (span l) {m = place / span l} {n = suc j} (omega (arith, node_low)))

  pub node_behind : (j : ℕ) → place / span l < j → place < node_start l j
  node_behind j h = omega (arith, node_high, mul-le-mul_right (span l) h)

-- a node covers one of the places len to top exactly when it is one of the touched ones
pub touched_are : (len top l j : ℕ) → len ≤ top → ((node_start l j ≤ top) × (len < suc j * span l)) ↔ ((len / span l ≤ j) × (j < len / span l + touched len top l))
touched_are len top l j h = (down, up)
  where
    down : (node_start l j ≤ top) × (len < suc j * span l) → (len / span l ≤ j) × (j < len / span l + touched len top l)
    down p = let a = node_first len l j p.1 in (a, omega (arith, node_last top l j p.0))

    up : (len / span l ≤ j) × (j < len / span l + touched len top l) → (node_start l j ≤ top) × (len < suc j * span l)
    up p = (omega (arith, node_low top l, mul-le-mul_right {m = j} {n = top / span l} (span l) (omega (arith, p))), omega (arith, node_high len l, mul-le-mul_right (span l) p.0))

-- ---- the two kinds of nodes
module _ (s : ℕ → ℕ) (kept : ℕ → Node) (len end l j : ℕ) where
  pub running_new : len ≤ node_start l j → running_node s kept len end l j ≡ level_node s end l j
  unfolding running_node
  running_new h = rw (le-ltb (node_start l j) len h)

  pub running_joins : node_start l j < len → running_node s kept len end l j ≡ join (kept j) (node_of s len (node_end end l j))
  unfolding running_node
  running_joins h = rw (lt-ltb (node_start l j) len h)

  -- each is the node of its range, where an unfinished one was that of its stored samples
  pub running_right : len / span l ≤ j → node_start l j < end → len < end → (node_start l j < len → kept j ≡ level_node s len l j) → running_node s kept len end l j ≡ level_node s end l j
  running_right low high more right = pick (dec_le len (node_start l j))
    where
      beyond : len < suc j * span l
      beyond = omega (arith, node_high len l, mul-le-mul_right (span l) low)

      stored : node_end len l j ≡ len
      stored = omega (arith, beyond)

      pick : Dec (len ≤ node_start l j) → running_node s kept len end l j ≡ level_node s end l j
      pick (yes d) = running_new d
      pick (no d) =
          running_joins (omega arith)
          ∙ ap (λ (x : Node). join x (node_of s len (node_end end l j))) (right (omega arith) ∙ ap (node_of s (node_start l j)) stored)
          ∙ node_join s (node_start l j) len (node_end end l j) (omega arith) (omega (arith, beyond))

-- they hang on len, the unfinished node and the samples from len on alone
pub running_same : (s t : ℕ → ℕ) (kept other : ℕ → Node) (len end l j : ℕ) → len / span l ≤ j → node_start l j < end → len < end
    → (node_start l j < len → kept j ≡ other j) → ((i : ℕ) → len ≤ i → i < end → s i ≡ t i) → running_node s kept len end l j ≡ running_node t other len end l j
running_same s t kept other len end l j low high more unfinished agree = pick (dec_le len (node_start l j))
  where
    beyond : len < suc j * span l
    beyond = omega (arith, node_high len l, mul-le-mul_right (span l) low)

    same_from : (q : ℕ) → len ≤ q → q < node_end end l j → node_of s q (node_end end l j) ≡ node_of t q (node_end end l j)
    same_from q a b = node_same s t q (node_end end l j) b (λ i x y. agree i (omega arith) (omega arith))

    pick : Dec (len ≤ node_start l j) → running_node s kept len end l j ≡ running_node t other len end l j
    pick (yes d) = running_new s kept len end l j d ∙ same_from (node_start l j) d (omega (arith, span_pos l)) ∙ sym (running_new t other len end l j d)
    pick (no d) =
        running_joins s kept len end l j (omega arith)
        ∙ ap₂ join (unfinished (omega arith)) (same_from len (omega arith) (omega (arith, beyond)))
        ∙ sym (running_joins t other len end l j (omega arith))
