-- Where the bounds of a store and its memory hold, samples up to the capacity have room.
use Prim.Native.Nat.{ℕ, suc, ◌+◌, ◌-◌, ◌*◌, ◌/◌, ◌≤◌, ◌<◌}
use mathlib.Core.List.{List}
use native.Mathlib.Nat.{mul-le-mul_right, div-add-mod', mod-lt, lt_of_mul-lt-mul_right}
use native.Mathlib.Omega.{arith}
use lib.ListN.{length}
use Rattle.rules.specs.Node.{span, nodes_for}
use Rattle.rules.specs.Refusal.{Store, node_size}
use Rattle.rules.proofs.Walk.{span_pos}
use Rattle.rules.proofs.Refusal.{Sound}
use Rattle.store.specs.Room.{StoreRoom}

-- each node that starts below the capacity lies among a level's numbers
node_in : (cap l j n : ℕ) → nodes_for cap l * node_size ≤ n → j * span l < cap → j * node_size + node_size ≤ n
node_in cap l j n h k = omega (arith, below)
  where
    top : cap + (span l - 1) < ((cap + (span l - 1)) / span l + 1) * span l
    top = omega (arith, div-add-mod' (cap + (span l - 1)) (span l), mod-lt (cap + (span l - 1)) (span_pos l))

    below : suc j < (cap + (span l - 1)) / span l + 1
    below = lt_of_mul-lt-mul_right (span l) (omega (arith, top, span_pos l))

pub sound_room : (st : Store) (s : List ℕ) (lv : ℕ → List ℕ) (n : ℕ) → Sound st (record { samples = length s; level = λ l. length (lv l) }) → st.len + n ≤ st.capacity
    → StoreRoom st.unit st.len n (length s) lv
sound_room st s lv n d h = record {
  unit_size = d.unit_size;
  fits = omega (arith, d.capacity_most);
  samples = omega (arith, d.samples, mul-le-mul_right st.unit h);
  nodes = λ l j p q k. node_in st.capacity l j (length (lv l)) (d.level l p q) (omega arith);
}

-- and fewer have room where more have
pub less_room : (u len n k s : ℕ) (lv : ℕ → List ℕ) → StoreRoom u len n s lv → k ≤ n → StoreRoom u len k s lv
less_room u len n k s lv r h = record {
  unit_size = r.unit_size;
  fits = omega (arith, r.fits);
  samples = omega (arith, r.samples, mul-le-mul_right u both);
  nodes = λ l j p q i. r.nodes l j p q (omega arith);
}
  where
    both : len + k ≤ len + n
    both = omega arith
