-- Laws of level 1 chunk by chunk: what a chunk's part makes is what all samples make.
use Prim.Native.Nat.{ℕ, suc, ◌+◌, ◌-◌, ◌*◌, ◌/◌, ◌%◌, ◌≤◌, ◌<◌, min}
use mathlib.Core.Path.{◌≡◌, ap, ◌∙◌, subst}
use mathlib.Core.List.{List}
use mathlib.Core.Logic.{◌⊎◌, inl, inr}
use native.Mathlib.Nat.{mul-le-mul_right}
use native.Mathlib.Decide.{dec_le}
use native.Mathlib.Omega.{arith}
use lib.ListN.{length, take, drop, length-take, length-drop}
use Rattle.rules.specs.Node.{Node, node_of, level_node, chunk}
use Rattle.rules.specs.Sample.{sample_of}
use Rattle.rules.proofs.Node.{node_same}
use Rattle.range.specs.Part.{part_sample}
use Rattle.range.proofs.Part.{part_sample_lem}
use Rattle.rebuild.specs.Rebuild.{new_nodes, NodeJoined}
use Rattle.rebuild.specs.Room.{FirstRoom, JoinRoom}
use Rattle.rebuild.proofs.Nodes.{puts_same, Putting, putting_starts, putting_run, putting_end}
use Rattle.store.specs.Room.{ChunksRoom}

-- ---- a part
-- place p lies in the chunk whose part of memory is from base to stop
pub record Turn (unit p top s base stop : ℕ) : Type 0 where
  pub base_low : base ≤ p
  pub further : p < stop
  pub stop_high : stop ≤ top + 1
  pub start : base * unit ≤ stop * unit
  pub part : stop * unit ≤ s
  pub aligned : base % 32 ≡ 0
  pub stops : (stop ≡ top + 1) ⊎ (stop % 32 ≡ 0)

module _ (u p top base stop : ℕ) (s : List ℕ) (t : Turn u p top (length s) base stop) where
  abbrev pub part_of : List ℕ
  part_of = take (stop * u - base * u) (drop (base * u) s)

  -- it has the samples up to stop
  pub part_holds : (n : ℕ) → n ≡ length part_of → (stop - 1) * u + u ≤ base * u + n
  part_holds n e = omega (arith, sized, t.start, ap (λ (x : ℕ). x * u) whole)
    where
      sized : length part_of ≡ stop * u - base * u
      sized = simp (length-take, length-drop) (omega (arith, t.part))

      whole : suc (stop - 1) ≡ stop
      whole = omega (arith, t.further)

  -- a node that begins before stop ends where it is to end at last
  same_end : (j : ℕ) → j * 32 < stop → min (suc j * 32) (stop - 1 + 1) ≡ min (suc j * 32) (top + 1)
  same_end j h = pick t.stops
    where
      pick : (stop ≡ top + 1) ⊎ (stop % 32 ≡ 0) → min (suc j * 32) (stop - 1 + 1) ≡ min (suc j * 32) (top + 1)
      pick (inl e) = ap (min (suc j * 32)) (omega arith)
      pick (inr e) = omega (arith, t.stop_high)

  -- the node from q on is that of all samples
  node_from : (j q : ℕ) → j * 32 < stop → base ≤ q → q < min (suc j * 32) stop → node_of (part_sample u part_of base) q (min (suc j * 32) (stop - 1 + 1)) ≡ node_of (sample_of u s) q (min (suc j * 32) (top + 1))
  node_from j q h c d =
      node_same (part_sample u part_of base) (sample_of u s) q (min (suc j * 32) (stop - 1 + 1)) (omega arith) (λ i x y. part_sample_lem u s base stop i (omega arith) (omega (arith, t.further)))
      ∙ ap (node_of (sample_of u s) q) (same_end j h)

  -- what joins the node of place p
  pub part_joins : (l l' : List ℕ) (n : Node) → NodeJoined (part_sample u part_of base) p (stop - 1) 1 l l' n → NodeJoined (sample_of u s) p top 1 l l' n
  part_joins l l' n d = record { node_is = d.node_is ∙ node_from (p / 32) p (omega (arith, t.further)) t.base_low (omega (arith, t.further)); level_is = d.level_is }

-- ---- the room of the calls
module _ (u from top : ℕ) (s l1 : List ℕ) (room : ChunksRoom u from top (length s) (length l1)) where
  -- the turn at place p
  module _ (p base stop : ℕ) (low : from ≤ p) (h : p ≤ top) (eb : base ≡ p - p % chunk) (es : stop ≡ min (base + chunk) (top + 1)) where
    pub turn : Turn u p top (length s) base stop
    turn = record {
      base_low = omega arith;
      further = omega arith;
      stop_high = high;
      start = mul-le-mul_right u less;
      part = omega (arith, room.samples, mul-le-mul_right u high);
      aligned = omega arith;
      stops = pick (dec_le (top + 1) (base + chunk));
    }
      where
        high : stop ≤ top + 1
        high = omega arith

        less : base ≤ stop
        less = omega arith

        pick : Dec (top + 1 ≤ base + chunk) → (stop ≡ top + 1) ⊎ (stop % 32 ≡ 0)
        pick (yes e) = inl (omega arith)
        pick (no e) = inr (omega arith)

    pub join_room : (n k : ℕ) → n ≡ length (part_of u p top base stop s turn) → k ≡ length l1 → JoinRoom u base p (stop - 1) n k
    join_room n k en ek = record {
      unit_size = room.unit_size;
      fits = omega (arith, room.fits, turn);
      some = omega (arith, turn);
      from = turn.base_low;
      samples = part_holds u p top base stop s turn n en;
      nodes = omega (arith, room.nodes, turn);
    }

    pub new_room : p % 32 ≡ 0 → (n k : ℕ) → n ≡ length (part_of u p top base stop s turn) → k ≡ length l1 → FirstRoom u base (p / 32) (stop - 1) n k
    new_room z n k en ek = let r = join_room n k en ek in record { unit_size = r.unit_size; fits = r.fits; from = omega (arith, r.from); samples = r.samples; nodes = r.nodes }

-- ---- the loop: the nodes up to place p are made, and l is the level then
pub record Making (unit from top : ℕ) (s l1 l : List ℕ) (p : ℕ) : Type 0 where
  pub low : from ≤ p
  pub begins : p ≤ top → p % 32 ≡ 0
  pub next : ℕ
  pub more : p ≤ top → next ≡ p / 32
  pub done : top < p → top / 32 < next
  pub nodes : Putting (level_node (sample_of unit s) (top + 1) 1) l1 (from / 32) (top / 32) l next

module _ (u from top : ℕ) (s l1 : List ℕ) (border : from % 32 ≡ 0) (room : ChunksRoom u from top (length s) (length l1)) where
  abbrev made : ℕ → Node
  made = level_node (sample_of u s) (top + 1) 1

  pub making_starts : Making u from top s l1 l1 from
  making_starts = record {
    low = omega arith;
    begins = λ _. border;
    next = from / 32;
    more = λ _. omega arith;
    done = λ h. absurd (omega (arith, room.some));
    nodes = putting_starts made l1 (from / 32) (top / 32);
  }

  module _ (l : List ℕ) (p : ℕ) (g : Making u from top s l1 l p) where
    pub making_end : top < p → l ≡ new_nodes (sample_of u s) l1 (from / 32) top 1
    making_end h = putting_end made l1 (from / 32) (top / 32) l g.next g.nodes (g.done h)

    -- a turn
    module _ (h : p ≤ top) (base stop : ℕ) (t : Turn u p top (length s) base stop) where
      new_node : (j : ℕ) → p / 32 ≤ j → j * 32 < stop → level_node (part_sample u (part_of u p top base stop s t) base) (stop - 1 + 1) 1 j ≡ made j
      new_node j a b = node_from u p top base stop s t j (j * 32) b (omega (arith, t.base_low, g.begins h)) (omega arith)

      pub making_on : (l' : List ℕ) → l' ≡ new_nodes (part_sample u (part_of u p top base stop s t) base) l (p / 32) (stop - 1) 1 → Making u from top s l1 l' stop
      making_on l' e = record {
        low = omega (arith, g.low, t.further);
        begins = λ q. again q t.stops;
        next = p / 32 + ((stop - 1) / 32 + 1 - p / 32);
        more = λ q. counted (again q t.stops) t.further;
        done = λ q. past q t.further;
        nodes =
            putting_run made l1 (from / 32) (top / 32) l (p / 32) (subst (Putting made l1 (from / 32) (top / 32) l) (g.more h) g.nodes) l' ((stop - 1) / 32 + 1 - p / 32)
            (within t.further t.stop_high)
            (e ∙ puts_same _ made ((stop - 1) / 32 + 1 - p / 32) l (p / 32) (λ j a b. new_node j a (begun j b t.further)));
      }
        where
          again : stop ≤ top → (stop ≡ top + 1) ⊎ (stop % 32 ≡ 0) → stop % 32 ≡ 0
          again q (inl z) = absurd (omega arith)
          again q (inr z) = z

          counted : stop % 32 ≡ 0 → p < stop → p / 32 + ((stop - 1) / 32 + 1 - p / 32) ≡ stop / 32
          counted z q = omega arith

          past : top < stop → p < stop → top / 32 < p / 32 + ((stop - 1) / 32 + 1 - p / 32)
          past q r = omega arith

          within : p < stop → stop ≤ top + 1 → p / 32 + ((stop - 1) / 32 + 1 - p / 32) ≤ top / 32 + 1
          within q r = omega arith

          begun : (j : ℕ) → j < p / 32 + ((stop - 1) / 32 + 1 - p / 32) → p < stop → j * 32 < stop
          begun j b q = omega arith
