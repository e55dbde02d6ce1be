-- What rows 1 and 2 let pass lies in memory.
use Prim.Native.Nat.{ℕ, suc, ◌+◌, ◌*◌, ◌≤◌, ◌<◌}
use mathlib.Core.Path.{◌≡◌}
use mathlib.Core.List.{List}
use native.Mathlib.Nat.{mul-le-mul_right, le-div_iff_mul-le, suc-mul}
use native.Mathlib.Omega.{arith}
use lib.ListN.{length}
use Rattle.rules.specs.Node.{span, nodes_for}
use Rattle.rules.specs.Refusal.{node_size, store_refusal}
use Rattle.rules.proofs.Walk.{span_pos}
use Rattle.rules.proofs.Refusal.{Sound, sound}
use Rattle.lines.specs.Held.{Held}
use Rattle.capture.specs.declared.Capture.{Capture}
use Rattle.capture.specs.Record.{store_of, lent_of}
use Rattle.capture.specs.Backed.{Bytes, Backed}

-- a node that starts below the capacity has a number below the count
node_counted : (capacity l j : ℕ) → j * span l < capacity → suc j ≤ nodes_for capacity l
node_counted capacity l j h = (le-div_iff_mul-le (span_pos l)).1 (omega (arith, suc-mul j (span l), span_pos l))

-- a sound store's samples and nodes lie in memory
pub sound_backed : (c : Capture) (samples : List ℕ) (levels : ℕ → List ℕ) → Sound (store_of c) (lent_of samples levels) → Backed c.unitsize c.len samples levels
sound_backed c samples levels s = record {
  bytes = record { unit_size = s.unit_size; room = omega (arith, mul-le-mul_right c.unitsize s.len_most, s.samples) };
  most = omega (arith, s.len_most, s.capacity_most);
  nodes = record { inside = λ l j k m h. omega (arith, s.level l k m, mul-le-mul_right node_size (node_counted c.capacity l j (omega (arith, s.len_most))), suc-mul j node_size) };
}

pub passes_backed : (c : Capture) (samples : List ℕ) (levels : ℕ → List ℕ) → store_refusal (store_of c) (lent_of samples levels) ≡ 0 → Backed c.unitsize c.len samples levels
passes_backed c samples levels e = sound_backed c samples levels (sound (store_of c) (lent_of samples levels) e)

-- a stored sample lies in the bytes
pub sample_held : {unit len : ℕ} {bytes : List ℕ} → Bytes unit len bytes → (i : ℕ) → i < len → Held unit i (length bytes)
sample_held {unit} {len} h i l = record { unit_size = h.unit_size; room = omega (arith, h.room, mul-le-mul_right {m = i + 1} {n = len} unit (omega arith)) }

-- so do its first samples
pub cut_backed : {unit len : ℕ} {samples : List ℕ} {levels : ℕ → List ℕ} (n : ℕ) → n ≤ len → Backed unit len samples levels → Backed unit n samples levels
cut_backed {unit} {len} n h b = record {
  bytes = record { unit_size = b.bytes.unit_size; room = omega (arith, b.bytes.room, mul-le-mul_right {m = n} {n = len} unit h) };
  most = omega (arith, b.most);
  nodes = record { inside = λ l j k m p. b.nodes.inside l j k m (omega arith) };
}
