-- Whole chunks in which the masked lines stand still: to 01's walk each is one step and no find, and n of them are n steps, forward and backward.
use Prim.Native.Nat.{ℕ, zero, suc, ◌+◌, ◌-◌, ◌*◌, ◌/◌, ◌%◌, ◌≤◌, ◌<◌}
use mathlib.Core.Path.{◌≡◌, refl, sym, ap, ap₂, ◌∙◌, subst, subst₂}
use mathlib.Core.Bool.{Bool, true, false, true≢false, false≢true, ◌&&◌}
use Rattle.std.specs.Prelude.{None}
use native.Mathlib.Omega.{arith}
use borrow.Author.Tests.{eq-eqb, le-leb}
use Rattle.rules.specs.Node.{Node, mirror, quiet, span, top_level, chunk}
use Rattle.rules.specs.Walk.{Walked, Way, Course, ahead, behind, walk_from, chunks_for, all_levels}
use Rattle.rules.proofs.Walk.{counted, best_top, walk_past, walk_ended}
use Rattle.node.specs.Memory.{node_in}
use Rattle.node.specs.Lent.{levels_of}
use Rattle.capture.specs.Stored.{sample_in, reader_in}
use Rattle.capture.specs.declared.stored.Stored.{Stored}
use Rattle.node.proofs.NodeMemory.{reads_sample, reads_node}
use Rattle.find.specs.Run.{node_at}
use Rattle.find.specs.Way.{moved}
use Rattle.find.proofs.Going.{told}
use Rattle.find.proofs.Node.{at_node}
use Rattle.search.specs.Quiet.{beside, tops, quiet_nth, QuietChunks, ChunkHeld, ChunksHeld}
use Rattle.search.proofs.Chunks.{Coursing, coursing_on}

-- ---- one chunk
-- what is left at p is one node of the highest level
record Whole (w : Way) (p : ℕ) : Type 0 where
  pub some_left : 0 < w.left p
  pub fits : w.takes top_level p ≡ true
  pub ends : w.left (w.past top_level p) ≡ 0

-- which is passed in one step where it is quiet
quiet_whole : (w : Way) (mask p v : ℕ) → Whole w p → quiet (w.node top_level p) v mask ≡ true → told None 1 ≡ walk_from w mask p v
quiet_whole w mask p v h q =
    sym
    (walk_past w mask (w.left p + top_level) p top_level v top_level (w.node top_level p) h.some_left (sym (best_top (λ (l : ℕ). w.takes l p) top_level h.fits)) refl q
    ∙ ap counted (walk_ended w mask (w.left p + top_level) (w.past top_level p) top_level (w.node top_level p).last h.ends))

-- ---- at the borders of chunks
abbrev pub course_in : Bool → (ℕ → ℕ → Node) → ℕ → Course
course_in true reader len = behind all_levels reader
course_in false reader len = ahead all_levels reader len

-- the chunk that is entered at border b, and how many whole ones there are from there on
abbrev pub entered_at : Bool → ℕ → ℕ
entered_at true b = b - 1
entered_at false b = b

abbrev pub wholes_from : Bool → ℕ → ℕ → ℕ
wholes_from true len b = b
wholes_from false len b = len / chunk - b

module _ (reader : ℕ → ℕ → Node) (len mask : ℕ) where
  -- the walk over n chunks from border b on, its steps counted on from those before, is the whole walk
  abbrev pub AtBorder : Walked → Bool → ℕ → ℕ → ℕ → Type 0
  AtBorder whole back count n b = Coursing (course_in back reader len) mask whole count n (entered_at back b) (b * chunk) (reader 0 (beside back b)).first

  -- the chunk there, as one node, shows no masked change
  abbrev quiet_at : Bool → ℕ → Bool
  quiet_at back b = quiet (((course_in back reader len).way (entered_at back b)).node top_level (b * chunk)) (reader 0 (beside back b)).first mask

  whole_at : (back : Bool) (b : ℕ) → 1 ≤ wholes_from back len b → Whole ((course_in back reader len).way (entered_at back b)) (b * chunk)
  whole_at true b h = record { some_left = omega arith; fits = ap₂ ◌&&◌ (eq-eqb (b * chunk % span top_level) 0 (omega arith)) (le-leb ((b - 1) * chunk + span top_level) (b * chunk) (omega arith)); ends = omega arith }
  whole_at false b h = record { some_left = omega arith; fits = ap₂ ◌&&◌ (eq-eqb (b * chunk % span top_level) 0 (omega arith)) (le-leb (b * chunk + span top_level) _ (omega arith)); ends = omega arith }

  border_past : {whole : Walked} (back : Bool) (count m b : ℕ) → AtBorder whole back count (suc m) b → 1 ≤ wholes_from back len b → quiet_at back b ≡ true → AtBorder whole back (count + 1) m (moved back b 1)
  border_past true count m b g h q = coursing_on g m refl (told None 1) (quiet_whole _ mask (b * chunk) _ (whole_at true b h) q) refl
  border_past false count m b g h q = coursing_on g m refl (told None 1) (quiet_whole _ mask (b * chunk) _ (whole_at false b h) q) refl

  same_border : {whole : Walked} (back : Bool) {count count' n n' b b' : ℕ} → AtBorder whole back count n b → count ≡ count' → n ≡ n' → b ≡ b' → AtBorder whole back count' n' b'
  same_border {whole} back {count} {count'} {n} {n'} {b} g ec en eb = subst (AtBorder whole back count' n') eb (subst₂ (λ (x y : ℕ). AtBorder whole back x y b) ec en g)

  -- k of them
  border_passes : {whole : Walked} (back : Bool) (count m b k : ℕ) → AtBorder whole back count (k + m) b → k ≤ wholes_from back len b → ((j : ℕ) → j < k → quiet_at back (moved back b j) ≡ true) → AtBorder whole back (count + k) m (moved back b k)
  border_passes back count m b zero g h q = same_border back g (omega arith) (omega arith) (here back)
    where
      here : (back : Bool) → b ≡ moved back b 0
      here true = omega arith
      here false = omega arith
  border_passes back count m b (suc k) g h q =
      same_border back (border_past back (count + k) m (moved back b k) (border_passes back count (suc m) b k (same_border back g refl (omega arith) refl) (omega arith) (λ j i. q j (omega arith))) (one back h) (q k (omega arith)))
      (omega arith) refl (next back)
    where
      one : (back : Bool) → suc k ≤ wholes_from back len b → 1 ≤ wholes_from back len (moved back b k)
      one true i = omega arith
      one false i = omega arith

      next : (back : Bool) → moved back (moved back b k) 1 ≡ moved back b (suc k)
      next true = omega arith
      next false = omega arith

-- ---- in memory
module _ (s : Stored) where
  node_reads : (i p : ℕ) → i ≡ p / span top_level → node_at s.unitsize s.memory.samples.now (tops s) top_level i ≡ reader_in s top_level p
  node_reads i p e = at_node s.unitsize s.memory.samples.now (tops s) top_level i (λ z. omega arith) ∙ ap (node_in (tops s)) e ∙ sym (reads_node s.unitsize s.memory.samples.now (levels_of s.memory.levels) top_level p (λ z. omega arith))

  value_reads : (p : ℕ) → sample_in s p ≡ (reader_in s 0 p).first
  value_reads p = sym (ap (λ (n : Node). n.first) (reads_sample s.unitsize s.memory.samples.now (levels_of s.memory.levels) 0 p refl))

  nth_reads : (mask : ℕ) (back : Bool) (b j : ℕ) → quiet_nth s back mask b j ≡ quiet_at (reader_in s) s.len mask back (moved back b j)
  nth_reads mask true b j = ap₂ (λ (n : Node) (v : ℕ). quiet (mirror n) v mask) (node_reads (b - (j + 1)) ((b - j) * chunk - span top_level) (omega arith)) (value_reads ((b - j) * chunk))
  nth_reads mask false b j = ap₂ (λ (n : Node) (v : ℕ). quiet n v mask) (node_reads (b + j) ((b + j) * chunk) (omega arith)) (value_reads ((b + j) * chunk - 1))

  -- of n whole chunks the walk passes those that quiet_chunks passes, with m left after them
  pub quiet_passes : {mask : ℕ} {whole : Walked} {back : Bool} {count left b n k : ℕ} → AtBorder (reader_in s) s.len mask whole back count left b
      → n ≤ wholes_from back s.len b → QuietChunks s back mask b n k → (m : ℕ) → left ≡ k + m → AtBorder (reader_in s) s.len mask whole back (count + k) m (moved back b k)
  quiet_passes {mask} {whole} {back} {count} {left} {b} {n} {k} g h r m e =
      border_passes (reader_in s) s.len mask back count m b k (same_border (reader_in s) s.len mask back g refl e refl) (omega (arith, r.most)) (λ j i. sym (nth_reads mask back b j) ∙ r.each j i)

  -- past a chunk without a find, and the quiet ones behind it
  pub back_on : {mask : ℕ} {whole : Walked} {count left at v k : ℕ} → Coursing (behind all_levels (reader_in s)) mask whole count left (left - 1) at v → 0 < left
      → (r : Walked) → r ≡ walk_from ((behind all_levels (reader_in s)).way (left - 1)) mask at v → r.found ≡ None
      → QuietChunks s true mask (left - 1) (left - 1) k → AtBorder (reader_in s) s.len mask whole true (count + r.steps + k) (left - 1 - k) (left - 1 - k)
  back_on {mask} {whole} {count} {left} {at} {v} {k} g h r e z q = quiet_passes {back = true} {b = left - 1} (coursing_on g (left - 1) (omega arith) r e z) (omega arith) q (left - 1 - k) (omega (arith, q.most))

  pub ahead_on : {mask : ℕ} {whole : Walked} {count ci at v n k : ℕ} → Coursing (ahead all_levels (reader_in s) s.len) mask whole count (chunks_for s.len - ci) ci at v → ci < chunks_for s.len
      → (r : Walked) → r ≡ walk_from ((ahead all_levels (reader_in s) s.len).way ci) mask at v → r.found ≡ None
      → n ≤ s.len / chunk - (ci + 1) → QuietChunks s false mask (ci + 1) n k → AtBorder (reader_in s) s.len mask whole false (count + r.steps + k) (chunks_for s.len - (ci + 1 + k)) (ci + 1 + k)
  ahead_on {mask} {whole} {count} {ci} {at} {v} {n} {k} g h r e z i q =
      quiet_passes {back = false} {b = ci + 1} (coursing_on g (chunks_for s.len - (ci + 1)) (omega arith) r e z) i q (chunks_for s.len - (ci + 1 + k)) (omega (arith, q.most))

  -- and they lie in memory
  pub chunks_held : (back : Bool) (b n : ℕ) → n ≤ wholes_from back s.len b → (back ≡ true → b * chunk < s.len) → (back ≡ false → 1 ≤ b) → ChunksHeld s back b n
  chunks_held back b n h t f = record { each = λ k i. each k i back h t f }
    where
      each : (k : ℕ) → k < n → (back : Bool) → n ≤ wholes_from back s.len b → (back ≡ true → b * chunk < s.len) → (back ≡ false → 1 ≤ b) → ChunkHeld s back b k
      each k i true h t f = let z = t refl in record {
        node = record { behind = λ _. omega arith; ahead = λ z. absurd (true≢false z); held = record { sample = λ z. absurd (omega arith); node = λ _. s.backed.nodes.inside top_level (b - (k + 1)) (omega arith) (omega arith) (omega arith) } };
        place = omega (arith, s.backed.most);
        past = λ z. absurd (true≢false z);
        sample = omega arith;
      }
      each k i false h t f = record {
        node = record { behind = λ z. absurd (false≢true z); ahead = λ _. omega (arith, s.backed.most); held = record { sample = λ z. absurd (omega arith); node = λ _. s.backed.nodes.inside top_level (b + k) (omega arith) (omega arith) (omega arith) } };
        place = omega (arith, s.backed.most);
        past = λ z. omega (arith, f z);
        sample = omega (arith, f refl);
      }
