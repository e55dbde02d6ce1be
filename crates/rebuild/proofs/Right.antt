-- A level before and after samples join, whatever its number: what covers none of the new places stays, and right levels stay right.
use Prim.Native.Nat.{ℕ, suc, ◌+◌, ◌-◌, ◌*◌, ◌/◌, ◌≤◌, ◌<◌, min}
use mathlib.Core.Path.{◌≡◌, refl, ap, ◌∙◌}
use mathlib.Core.Bool.{Bool, true, false, cond}
use mathlib.Core.Logic.{◌⊎◌, inl, inr}
use mathlib.Core.List.{List}
use native.Mathlib.Nat.{mul-le-mul_right}
use native.Mathlib.Decide.{dec_lt, ℕ_discrete}
use native.Mathlib.Omega.{arith}
use borrow.Author.Tests.{eq-eqb, ne_eqb}
use lib.Dec.{eqb}
use lib.ListN.{length, get_or}
use Rattle.rules.specs.Node.{Node, node_of, span, node_start, node_end, level_node}
use Rattle.rules.specs.Refusal.{node_size}
use Rattle.rules.specs.Touched.{touched, running_node}
use Rattle.rules.proofs.Node.{node_same}
use Rattle.rules.proofs.Walk.{span_pos}
use Rattle.rules.proofs.Touched.{node_low, node_last, running_right}
use Rattle.node.specs.Memory.{node_in, Right}
use Rattle.rebuild.specs.Rebuild.{put_nodes, level_after}
use Rattle.rebuild.specs.Room.{Roomy}
use Rattle.rebuild.proofs.Nodes.{length_puts, puts_rest, puts_other, puts_at}

module _ (s : ℕ → ℕ) (level : List ℕ) (len n l : ℕ) where
  abbrev nodes : ℕ → Node
  nodes = running_node s (node_in level) len (len + n) l

  abbrev count : ℕ
  count = touched len (len + n - 1) l

  abbrev written : Bool → List ℕ
  written none = cond none level (put_nodes nodes level (len / span l) count)

  pub after_none : n ≡ 0 → level_after s level len n l ≡ level
  after_none e = ap written (eq-eqb n 0 e)

  pub after_some : (n ≡ 0 → ⊥) → level_after s level len n l ≡ put_nodes nodes level (len / span l) count
  after_some e = ap written (ne_eqb n 0 e)

  -- ---- what stays
  -- the length
  pub length_after : length (level_after s level len n l) ≡ length level
  length_after = pick (eqb n 0)
    where
      pick : (t : Bool) → length (written t) ≡ length level
      pick true = refl
      pick false = length_puts nodes count level (len / span l)

  -- the numbers of nodes that cover none of the new places, and those past the last node
  pub rest_stays : (k : ℕ) → (k < len / span l * node_size) ⊎ (((len + n - 1) / span l + 1) * node_size ≤ k) → get_or (level_after s level len n l) k 0 ≡ get_or level k 0
  rest_stays k h = pick (eqb n 0)
    where
      apart : (j m : ℕ) → (k < j * node_size) ⊎ ((m + 1) * node_size ≤ k) → (k < j * node_size) ⊎ ((j + (m + 1 - j)) * node_size ≤ k)
      apart j m (inl e) = inl e
      apart j m (inr e) = side (dec_lt k (j * node_size))
        where
          side : Dec (k < j * node_size) → (k < j * node_size) ⊎ ((j + (m + 1 - j)) * node_size ≤ k)
          side (yes y) = inl y
          side (no y) = inr (omega arith)

      pick : (t : Bool) → get_or (written t) k 0 ≡ get_or level k 0
      pick true = refl
      pick false = puts_rest nodes count level (len / span l) k (apart (len / span l) ((len + n - 1) / span l) h)

  -- ---- where there are samples
  module _ (some : n ≡ 0 → ⊥) where
    -- the nodes before the first touched one
    pub node_stays : (j : ℕ) → j < len / span l → node_in (level_after s level len n l) j ≡ node_in level j
    node_stays j h = ap (λ (x : List ℕ). node_in x j) (after_some some) ∙ puts_other nodes count level (len / span l) j (inl h)

    -- and the touched ones, for which there is room
    pub node_runs : ((j : ℕ) → node_start l j < len + n → j * node_size + node_size ≤ length level)
        → (j : ℕ) → len / span l ≤ j → node_start l j < len + n → node_in (level_after s level len n l) j ≡ nodes j
    node_runs room j low high =
        ap (λ (x : List ℕ). node_in x j) (after_some some)
        ∙ puts_at nodes count level (len / span l) j (omega (arith, last_in, ordered)) low (omega (arith, ordered, node_last (len + n - 1) l j (omega arith)))
      where
        ordered : len / span l ≤ (len + n - 1) / span l
        ordered = node_last (len + n - 1) l (len / span l) (omega (arith, node_low len l))

        last_in : (len + n - 1) / span l * node_size + node_size ≤ length level
        last_in = room ((len + n - 1) / span l) (omega (arith, node_low (len + n - 1) l))

-- ---- right levels, before and after
-- levels that are right for samples are right for others that agree with them
pub right_same : (s t : ℕ → ℕ) (levels : ℕ → List ℕ) (len : ℕ) → ((i : ℕ) → i < len → s i ≡ t i) → Right s len levels → Right t len levels
right_same s t levels len agree right l p q j h =
    right l p q j h ∙ node_same s t (j * span l) (min (suc j * span l) len) (omega (arith, span_pos l)) (λ i a b. agree i (omega arith))

-- once n samples have joined len
module _ (s t : ℕ → ℕ) (levels : ℕ → List ℕ) (len n : ℕ) (room : (n ≡ 0 → ⊥) → Roomy (len + n) levels) (agree : (i : ℕ) → i < len → s i ≡ t i) (right : Right s len levels) where
  pub after_right : Right t (len + n) (λ l. level_after t (levels l) len n l)
  after_right l p q j h = pick (ℕ_discrete n 0) (dec_lt j (len / span l))
    where
      was : node_start l j < len → node_in (levels l) j ≡ level_node t len l j
      was = right_same s t levels len agree right l p q j

      pick : Dec (n ≡ 0) → Dec (j < len / span l) → node_in (level_after t (levels l) len n l) j ≡ level_node t (len + n) l j
      pick (yes e) _ = ap (λ (x : List ℕ). node_in x j) (after_none t (levels l) len n l e) ∙ was (omega arith) ∙ ap (λ (k : ℕ). level_node t k l j) same
        where
          same : len ≡ len + n
          same = omega arith
      pick (no e) (yes d) = node_stays t (levels l) len n l e j d ∙ was (omega (arith, within, span_pos l)) ∙ ap (node_of t (node_start l j)) ends
        where
          within : suc j * span l ≤ len
          within = omega (arith, mul-le-mul_right (span l) d, node_low len l)

          ends : node_end len l j ≡ node_end (len + n) l j
          ends = omega (arith, within)
      pick (no e) (no d) =
          node_runs t (levels l) len n l e (λ i k. room e l i p q k) j (omega arith) h
          ∙ running_right t (node_in (levels l)) len (len + n) l j (omega arith) h (omega arith) was
