-- Laws of the four levels: the room that each call has, and that level by level they are what the samples leave.
use Prim.Native.Nat.{ℕ, zero, suc, ◌+◌, ◌-◌, ◌*◌, ◌/◌, ◌≤◌, ◌<◌, min}
use mathlib.Core.Path.{◌≡◌, sym, ap, ◌∙◌}
use mathlib.Core.List.{List}
use native.Mathlib.Omega.{arith}
use lib.ListN.{length}
use Rattle.rules.specs.Node.{Node, node_of, span, top_level}
use Rattle.rules.specs.Refusal.{node_size}
use Rattle.rules.specs.Sample.{sample_of}
use Rattle.rules.specs.Touched.{touched, running_node}
use Rattle.rules.proofs.Touched.{node_low}
use Rattle.node.specs.Memory.{node_in, level_of}
use Rattle.rebuild.specs.Rebuild.{put_nodes, level_after, put_running, new_nodes, NodeJoined, Joined, JoinedAbove}
use Rattle.rebuild.specs.Room.{NodeRoom, RaiseRoom}
use Rattle.rebuild.proofs.Running.{node_then, one_joins}
use Rattle.rebuild.proofs.Right.{after_none, after_some}
use Rattle.store.specs.Stored.{LevelsAfter}
use Rattle.store.specs.Room.{ChunksRoom, StoreRoom}

-- ---- the room of each call
module _ (u len n s : ℕ) (lv : ℕ → List ℕ) (r : StoreRoom u len n s lv) (some : n ≡ 0 → ⊥) where
  top_room : (l : ℕ) → 1 ≤ l → l ≤ top_level → (len + n - 1) / span l * node_size + node_size ≤ length (lv l)
  top_room l p q = r.nodes l ((len + n - 1) / span l) p q (omega (arith, node_low (len + n - 1) l))

  pub up_room : (l : ℕ) → 1 ≤ l → l < top_level → (x y : ℕ) → x ≡ length (lv l) → y ≡ length (lv (suc l)) → RaiseRoom l len (len + n - 1) x y
  up_room l p q x y ex ey = record { low = p; high = q; some = omega arith; nodes_below = omega (arith, top_room l p (omega arith)); nodes = omega (arith, top_room (suc l) (omega arith) q) }

  pub node_room : (l : ℕ) → 1 ≤ l → l ≤ top_level → (x : ℕ) → x ≡ length (lv l) → NodeRoom l len x
  node_room l p q x ex = record { high = q; node = omega (arith, r.nodes l (len / span l) p q (omega (arith, node_low len l))) }

  pub chunks_room : (from x : ℕ) → from ≤ len + n - 1 → x ≡ length (lv 1) → ChunksRoom u from (len + n - 1) s x
  chunks_room from x h ex = record {
    unit_size = r.unit_size;
    some = h;
    fits = omega (arith, r.fits);
    samples = omega (arith, r.samples, ap (λ (y : ℕ). y * u) end);
    nodes = omega (arith, top_room 1 (omega arith) (omega arith));
  }
    where
      end : len + n - 1 + 1 ≡ len + n
      end = omega arith

-- ---- the levels one by one
module _ (u len n : ℕ) (s : List ℕ) (some : n ≡ 0 → ⊥) where
  abbrev sample : ℕ → ℕ
  sample = sample_of u s

  abbrev top : ℕ
  top = len + n - 1

  joined_after : (l : ℕ) (level level' : List ℕ) (m : Node) → Joined sample len top l level level' m → level' ≡ level_after sample level len n l
  joined_after l level level' m d =
      d.level_is
      ∙ ap (λ (x : ℕ). put_nodes (running_node sample (node_in level) len x l) level (len / span l) (touched len top l)) end
      ∙ sym (after_some sample level len n l some)
    where
      end : top + 1 ≡ len + n
      end = omega arith

  module _ (l1 l2 l3 l4 k1 k2 k3 k4 : List ℕ) (n1 n2 n3 n4 : Node) where
    four : Joined sample len top 1 l1 k1 n1 → Joined sample len top 2 l2 k2 n2 → Joined sample len top 3 l3 k3 n3 → Joined sample len top 4 l4 k4 n4
        → LevelsAfter u len n s (level_of l1 l2 l3 l4) (level_of k1 k2 k3 k4)
    unfolding level_of
    four d1 d2 d3 d4 zero p q = absurd (omega arith)
    four d1 d2 d3 d4 (suc zero) p q = joined_after 1 l1 k1 n1 d1
    four d1 d2 d3 d4 (suc (suc zero)) p q = joined_after 2 l2 k2 n2 d2
    four d1 d2 d3 d4 (suc (suc (suc zero))) p q = joined_after 3 l3 k3 n3 d3
    four d1 d2 d3 d4 (suc (suc (suc (suc zero)))) p q = joined_after 4 l4 k4 n4 d4
    four d1 d2 d3 d4 (suc (suc (suc (suc (suc l))))) p q = absurd (omega arith)

  -- all new samples in one node of level 1
  pub levels_one : (l1 l2 l3 l4 k1 k2 k3 k4 : List ℕ) (m : Node) → len / 32 ≡ top / 32 → NodeJoined sample len top 1 l1 k1 m
      → k2 ≡ put_running l2 2 len m → k3 ≡ put_running l3 3 len m → k4 ≡ put_running l4 4 len m → LevelsAfter u len n s (level_of l1 l2 l3 l4) (level_of k1 k2 k3 k4)
  levels_one l1 l2 l3 l4 k1 k2 k3 k4 m e d e2 e3 e4 =
      four l1 l2 l3 l4 k1 k2 k3 k4 m m m m (one 0 l1 k1 d.level_is) (one 1 l2 k2 e2) (one 2 l3 k3 e3) (one 3 l4 k4 e4)
    where
      ends : min (suc (len / 32) * 32) (top + 1) ≡ top + 1
      ends = omega arith

      one : (l : ℕ) (level level' : List ℕ) → level' ≡ put_running level (suc l) len m → Joined sample len top (suc l) level level' m
      one l level level' = one_joins sample len top l level level' m (omega arith) e (d.node_is ∙ ap (node_of sample len) ends)

  -- more than one: level 1, and each level above the one below
  pub levels_more : (l1 l2 l3 l4 k k1 k2 k3 k4 : List ℕ) (n1 n2 n3 n4 : Node) → NodeJoined sample len top 1 l1 k n1 → k1 ≡ new_nodes sample k ((len / 32 * 32 + 32) / 32) top 1
      → JoinedAbove len top 1 k1 n1 l2 k2 n2 → JoinedAbove len top 2 k2 n2 l3 k3 n3 → JoinedAbove len top 3 k3 n3 l4 k4 n4 → LevelsAfter u len n s (level_of l1 l2 l3 l4) (level_of k1 k2 k3 k4)
  levels_more l1 l2 l3 l4 k k1 k2 k3 k4 n1 n2 n3 n4 d e e2 e3 e4 = four l1 l2 l3 l4 k1 k2 k3 k4 n1 n2 n3 n4 d1 d2 d3 (e4 sample l3 d3)
    where
      next : (len / 32 * 32 + 32) / 32 ≡ len / 32 + 1
      next = omega arith

      d1 : Joined (sample_of u s) len (len + n - 1) 1 l1 k1 n1
      d1 = node_then sample len top 1 l1 k k1 n1 (omega arith) d (e ∙ ap (λ (x : ℕ). new_nodes sample k x top 1) next)

      d2 : Joined (sample_of u s) len (len + n - 1) 2 l2 k2 n2
      d2 = e2 sample l1 d1

      d3 : Joined (sample_of u s) len (len + n - 1) 3 l3 k3 n3
      d3 = e3 sample l2 d2

pub levels_none : (u len n : ℕ) (s : List ℕ) (lv : ℕ → List ℕ) → n ≡ 0 → LevelsAfter u len n s lv lv
levels_none u len n s lv e l _ _ = sym (after_none (sample_of u s) (lv l) len n l e)
