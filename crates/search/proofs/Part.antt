-- A chunk's part of memory holds what the whole holds, so that a search over the part is one over the whole.
use Prim.Native.Nat.{ℕ, zero, suc, ◌+◌, ◌-◌, ◌*◌, ◌≤◌, ◌<◌}
use mathlib.Core.Path.{◌≡◌, refl, sym, ap, ap₂, ◌∙◌}
use mathlib.Core.Bool.{Bool, true, false}
use mathlib.Core.List.{List}
use native.Mathlib.Nat.{le_refl, mul-le-mul_right, add-mul}
use native.Mathlib.Decide.{ℕ_discrete}
use native.Mathlib.Omega.{arith}
use lib.ListN.{take, drop, length-take, length-drop}
use lib.Seq.{get_or-take, get_or-drop}
use Rattle.rules.specs.Sample.{little, sample_of}
use Rattle.rules.specs.Node.{Node, leaf, mirror, cut, span, top_level}
use Rattle.rules.specs.Walk.{forward, backward, walk_from, all_levels}
use Rattle.rules.proofs.Steps.{walk_alike}
use Rattle.node.specs.Memory.{reader_of}
use Rattle.node.proofs.NodeMemory.{reads_sample, reads_node}
use Rattle.node.specs.Lent.{levels_of}
use Rattle.capture.specs.Stored.{sample_in, reader_in}
use Rattle.capture.specs.declared.stored.Stored.{Stored}
use Rattle.find.specs.Part.{reader_from, PartBacked}
use Rattle.find.specs.Way.{way_in}
use Rattle.find.proofs.Parts.{from_sample, from_node, bytes_less}

-- ---- the part and the whole
-- u bytes of a part are those of the whole
part_bytes : (u : ℕ) (bytes : List ℕ) (a n k : ℕ) → k + u ≤ n → little u (take n (drop a bytes)) k ≡ little u bytes (a + k)
part_bytes zero bytes a n k h = refl
part_bytes (suc u) bytes a n k h =
    ap₂ (λ (x y : ℕ). x + 256 * y)
    (get_or-take n (drop a bytes) k 0 (omega arith) ∙ get_or-drop a bytes k 0)
    (part_bytes u bytes a n (k + 1) (omega arith) ∙ ap (little u bytes) (omega arith))

module _ (base hi unit : ℕ) (samples : List ℕ) (levels : ℕ → List ℕ) where
  -- the bytes from place base to place hi
  abbrev pub part_of : List ℕ
  part_of = take (hi * unit - base * unit) (drop (base * unit) samples)

  part_sample_lem : (p : ℕ) → base ≤ p → p < hi → sample_of unit part_of (p - base) ≡ sample_of unit samples p
  unfolding sample_of
  part_sample_lem p a b = part_bytes unit samples (base * unit) (hi * unit - base * unit) ((p - base) * unit) (omega (arith, mul-le-mul_right unit room, whole)) ∙ ap (little unit samples) (sym whole)
    where
      room : suc p ≤ hi
      room = b

      whole : p * unit ≡ base * unit + (p - base) * unit
      whole = ap (λ (x : ℕ). x * unit) (omega arith) ∙ add-mul base (p - base) unit

  pub part_reads : (l p : ℕ) → (l ≡ 0 → (base ≤ p) × (p < hi)) → reader_from base unit part_of levels l p ≡ reader_of unit samples levels l p
  part_reads l p h = go (ℕ_discrete l 0)
    where
      go : Dec (l ≡ 0) → reader_from base unit part_of levels l p ≡ reader_of unit samples levels l p
      go (yes z) = from_sample base unit part_of levels l p z ∙ ap leaf (part_sample_lem p (h z).0 (h z).1) ∙ sym (reads_sample unit samples levels l p z)
      go (no z) = from_node base unit part_of levels l p z ∙ sym (reads_node unit samples levels l p z)

  -- a walk over the part is one over the whole
  module _ (has : ℕ → Bool) (mask p v : ℕ) where
    part_ahead : base ≤ p → walk_from (forward has (reader_from base unit part_of levels) hi) mask p v ≡ walk_from (forward has (reader_of unit samples levels) hi) mask p v
    part_ahead h =
        walk_alike (forward has (reader_from base unit part_of levels) hi) (reader_of unit samples levels) (λ (q : ℕ). base ≤ q) mask
        (record { stays = λ l q t i. omega arith; nodes = λ l q t i. ap (cut mask) (part_reads l q (λ z. (i, omega (arith, t.some_left)))) })
        (suc (hi - p + top_level)) p top_level v v h (le_refl top_level) refl

    part_behind : p ≤ hi → walk_from (backward has (reader_from base unit part_of levels) base) mask p v ≡ walk_from (backward has (reader_of unit samples levels) base) mask p v
    part_behind h =
        walk_alike (backward has (reader_from base unit part_of levels) base) (λ (l q : ℕ). mirror (reader_of unit samples levels l (q - span l))) (λ (q : ℕ). q ≤ hi) mask
        (record { stays = λ l q t i. omega arith; nodes = λ l q t i. ap (λ (n : Node). cut mask (mirror n)) (part_reads l (q - span l) (λ z. inside l q z i t.some_left)) })
        (suc (p - base + top_level)) p top_level v v h (le_refl top_level) refl
      where
        inside : (l q : ℕ) → l ≡ 0 → q ≤ hi → 0 < q - base → (base ≤ q - span l) × (q - span l < hi)
        inside l q z i t = (omega (arith, ap span z), omega (arith, ap span z))

  pub part_way : (back : Bool) (mask p v : ℕ) → base ≤ p → p ≤ hi → walk_from (way_in back (reader_from base unit part_of levels) base hi) mask p v ≡ walk_from (way_in back (reader_of unit samples levels) base hi) mask p v
  part_way true mask p v low high = part_behind all_levels mask p v high
  part_way false mask p v low high = part_ahead all_levels mask p v low

-- ---- a capture in memory
module _ (s : Stored) where
  pub stored_value : (p v : ℕ) → v ≡ sample_in s p → v ≡ (reader_in s 0 p).first
  stored_value p v e = e ∙ sym (ap (λ (n : Node). n.first) (reads_sample s.unitsize s.memory.samples.now (levels_of s.memory.levels) 0 p refl))

  -- the part of it from base to hi
  pub stored_part : (base hi : ℕ) → base ≤ hi → hi ≤ s.len → PartBacked s.unitsize base hi (part_of base hi s.unitsize s.memory.samples.now (levels_of s.memory.levels)) (levels_of s.memory.levels)
  stored_part base hi a b = record {
    bytes = record { unit_size = s.backed.bytes.unit_size; room = simp (length-take, length-drop) (omega (arith, sum, (bytes_less s.unitsize s.len hi s.memory.samples.now s.backed.bytes b).room)) };
    nodes = record { inside = λ l j k m h. s.backed.nodes.inside l j k m (omega arith) };
  }
    where
      sum : hi * s.unitsize ≡ base * s.unitsize + (hi - base) * s.unitsize
      sum = ap (λ (x : ℕ). x * s.unitsize) (omega arith) ∙ add-mul base (hi - base) s.unitsize
