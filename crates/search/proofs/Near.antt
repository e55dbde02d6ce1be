-- What a look at the next few samples finds is what the walk over chunks finds, in its first chunk.
use Prim.Native.Nat.{ℕ, suc, ◌+◌, ◌-◌, ◌/◌, ◌<◌}
use mathlib.Core.Path.{◌≡◌, sym, ap, ◌∙◌}
use mathlib.Core.Bool.{true, false}
use Rattle.std.specs.Prelude.{None}
use native.Mathlib.Omega.{arith}
use Rattle.rules.specs.Node.{chunk}
use Rattle.rules.specs.Walk.{Walked, Course, chunks_for, walk_from, next_walk, previous_from, all_levels}
use Rattle.node.specs.Lent.{levels_of}
use Rattle.capture.specs.Stored.{sample_in, reader_in}
use Rattle.capture.specs.declared.stored.Stored.{Stored}
use Rattle.find.specs.Near.{Near}
use Rattle.find.proofs.Going.{from_none}
use Rattle.find.proofs.Samples.{near_finds}
use Rattle.search.proofs.Part.{stored_value}
use Rattle.search.proofs.Chunks.{Coursing, next_starts, previous_starts, coursing_found}

-- the first chunk's find, told with v as the value before p
first_chunk : {k : Course} {mask : ℕ} {whole : Walked} {n c p u : ℕ} → Coursing k mask whole 0 n c p u → (m : ℕ) → n ≡ suc m → (v : ℕ) → v ≡ u
    → (r : Walked) → r ≡ walk_from (k.way c) mask p v → (r.found ≡ None → ⊥) → r ≡ whole
first_chunk {k} {mask} {whole} {n} {c} {p} {u} g m em v ev r e t = sym (from_none r) ∙ coursing_found g m em r (e ∙ ap (walk_from (k.way c) mask p) ev) t

-- what near answers is a place
module _ (s : Stored) {mask v : ℕ} {w : Walked} (some : w.found ≡ None → ⊥) where
  pub near_next : (from : ℕ) → from + 1 < s.len → v ≡ sample_in s from → Near s.unitsize s.len s.memory.samples.now false mask (from + 1) v w → w ≡ next_walk all_levels (reader_in s) s.len mask from
  near_next from h e a =
      first_chunk (next_starts all_levels (reader_in s) mask s.len s.backed.most from h) (chunks_for s.len - ((from + 1) / chunk + 1)) (omega arith) v (stored_value s (from + 1 - 1) v (e ∙ ap (sample_in s) back))
      w (near_finds s.unitsize s.len s.memory.samples.now false (from + 1) (omega arith) a some (levels_of s.memory.levels) ((from + 1) / chunk) (omega arith) (omega arith)) some
    where
      back : from ≡ from + 1 - 1
      back = omega arith

  pub near_previous : (p : ℕ) → p < s.len → v ≡ sample_in s p → Near s.unitsize s.len s.memory.samples.now true mask p v w → w ≡ previous_from all_levels (reader_in s) mask p
  near_previous p h e a =
      first_chunk (previous_starts all_levels (reader_in s) mask s.len s.backed.most p h) (p / chunk) (omega arith) v (stored_value s p v e)
      w (near_finds s.unitsize s.len s.memory.samples.now true p (omega arith) a some (levels_of s.memory.levels) (p / chunk + 1 - 1) (omega arith) (omega arith)) some
