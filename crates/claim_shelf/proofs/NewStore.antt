-- A new store that was filled with bytes: its record passes, the bytes are stored, and its levels are right.
use mathlib.Core.Path.{◌≡◌, refl, sym, ap, ◌∙◌, subst⁻¹}
use mathlib.Core.Bool.{false}
use mathlib.Core.List.{List}
use mathlib.Core.Logic.{inr}
use Prim.Native.Nat.{ℕ, ◌+◌, ◌*◌, ◌≤◌, ◌<◌}
use native.Mathlib.Nat.{zero-mul}
use native.Mathlib.Omega.{arith}
use lib.ListN.{length, take, drop}
use lib.Seq.{paste, take_at, take_all, length-take-le}
use Rattle.rules.specs.Sample.{sample_of}
use Rattle.rules.specs.Node.{top_level}
use Rattle.rules.specs.Refusal.{Store, most_samples, lent_short, store_refusal}
use Rattle.rules.specs.Shelf.{Heading, bytes_for}
use Rattle.rules.specs.ShelfCalls.{store_in}
use Rattle.rules.proofs.Refusal.{Sound, MarkInside, none_refused, rows_then}
use Rattle.rules.proofs.ShelfHead.{Headed}
use Rattle.rules.proofs.Shelf.{headed_store}
use Rattle.node.specs.Memory.{level_of, Right}
use Rattle.rebuild.specs.Rebuild.{level_after}
use Rattle.rebuild.proofs.Right.{right_same}
use Rattle.store.specs.Stored.{Stored}
use Rattle.store.proofs.Stored.{RoomOrNone, samples_length, level_length, new_samples, stored_right, none_samples, none_levels}
use Rattle.capture.specs.declared.Capture.{Capture}
use Rattle.capture.specs.Record.{store_of}
use Rattle.shelf_read.proofs.Taken.{new_room}
use Rattle.claim_captures.specs.Words.{Memory, levels, at, OfUnit}
use Rattle.claim_captures.specs.Claim.{Held}
use Rattle.claim_captures.proofs.Answers.{four_levels}
use Rattle.claim_shelf.proofs.Written.{lent_in}

-- no samples were stored: memory is as it was
pub nothing_stored : {unit n : ℕ} {bytes : List ℕ} {m m' : Memory} → Stored unit 0 n bytes m.samples (levels m) m'.samples (levels m') → n ≡ 0 → m' ≡ m
unfolding level_of
nothing_stored {m = m} {m' = m'} d none = λ i. record {
  samples = none_samples d none i;
  l1 = same_level 1 (omega arith) (omega arith) i;
  l2 = same_level 2 (omega arith) (omega arith) i;
  l3 = same_level 3 (omega arith) (omega arith) i;
  l4 = same_level 4 (omega arith) (omega arith) i;
}
  where
    same_level : (l : ℕ) → 1 ≤ l → l ≤ top_level → levels m' l ≡ levels m l
    same_level = none_levels d none

-- a store of a capacity, with what a file says, in memory m, which became m'
pub record New (capacity : ℕ) (h : Heading) (bytes : List ℕ) (m m' : Memory) : Type 0 where
  pub headed : Headed h
  pub capacity_least : 1 ≤ capacity
  pub capacity_most : capacity ≤ most_samples
  pub len_most : h.len ≤ capacity
  pub enough : lent_short (store_in capacity h) (lent_in m) ≡ false
  pub bytes_size : length bytes ≡ bytes_for h
  pub stored : Stored h.unit 0 h.len bytes m.samples (levels m) m'.samples (levels m')

module _ {capacity : ℕ} {h : Heading} {bytes : List ℕ} {m m' : Memory} (t : New capacity h bytes m m') where
  roomed : RoomOrNone h.unit 0 h.len m.samples (levels m) bytes
  roomed = inr (record { room = new_room m.samples t.headed t.capacity_least t.capacity_most t.len_most t.enough; bytes = omega (arith, t.bytes_size) })

  sizes : (length m'.samples ≡ length m.samples) × ((l : ℕ) → 1 ≤ l → l ≤ top_level → length (levels m' l) ≡ length (levels m l))
  sizes = (samples_length t.stored roomed, level_length t.stored)

  -- the new store passes rows 1 and 2
  pub passes : (Sound (store_in capacity h) (lent_in m')) × MarkInside (store_in capacity h)
  passes =
      let p = rows_then (store_in capacity h) (lent_in m) (headed_store capacity h t.headed t.capacity_least t.capacity_most t.len_most) t.enough in
      let s = p.0 in (
        record {
          unit_size = s.unit_size;
          capacity_least = s.capacity_least;
          capacity_most = s.capacity_most;
          len_most = s.len_most;
          samples = omega (arith, s.samples, sizes.0);
          level = λ l p q. omega (arith, s.level l p q, sizes.1 l p q);
        },
        p.1,
      )

  -- its stored bytes are these
  pub stored_bytes : take (h.len * h.unit) m'.samples ≡ bytes
  stored_bytes =
      ap (take (h.len * h.unit)) (t.stored.samples_are ∙ ap (λ (k : ℕ). paste m.samples k bytes (h.len * h.unit)) (zero-mul h.unit))
      ∙ take_at (take (h.len * h.unit) bytes) (drop (0 + h.len * h.unit) m.samples) (h.len * h.unit) (length-take-le (h.len * h.unit) bytes (omega (arith, t.bytes_size)))
      ∙ take_all (h.len * h.unit) bytes (omega (arith, t.bytes_size))

  -- and its samples
  pub stored_sample : (i : ℕ) → i < h.len → sample_of h.unit m'.samples i ≡ sample_of h.unit bytes i
  stored_sample i l = ap (sample_of h.unit m'.samples) zero_plus ∙ new_samples t.stored roomed i l
    where
      zero_plus : i ≡ 0 + i
      zero_plus = omega arith

  -- and its levels are right: the capture is held
  pub new_held : (run : List ℕ) → length run ≡ h.len → ((i : ℕ) → i < h.len → sample_of h.unit bytes i ≡ at run i) → OfUnit h.unit (at run) (length run)
      → (c : Capture) → store_of c ≡ store_in capacity h → Held run h.mark c m'
  new_held run size same words c c-is = record {
    passes = subst⁻¹ (λ (x : Store). store_refusal x (lent_in m') ≡ 0) c-is (none_refused (store_in capacity h) (lent_in m') passes.0 passes.1);
    len_is = ap (λ (x : Store). x.len) c-is ∙ sym size;
    mark_is = ap (λ (x : Store). x.mark) c-is;
    samples_are = λ i l. ap (λ (x : Store). sample_of x.unit m'.samples i) c-is ∙ sampled i (omega (arith, l, size));
    levels_right = rights;
    words = subst⁻¹ (λ (x : Store). OfUnit x.unit (at run) (length run)) c-is words;
  }
    where
      zero_plus : (i : ℕ) → i ≡ 0 + i
      zero_plus i = omega arith

      sampled : (i : ℕ) → i < h.len → sample_of h.unit m'.samples i ≡ at run i
      sampled i l = stored_sample i l ∙ same i l

      nothing : Right (sample_of h.unit m.samples) 0 (levels m)
      nothing l p q j k = absurd (omega (arith, k))

      rights : Right (at run) (length run) (levels m')
      rights =
          subst⁻¹ (λ (n : ℕ). Right (at run) n (levels m')) (size ∙ zero_plus h.len)
          (right_same (sample_of h.unit m'.samples) (at run) (levels m') (0 + h.len) (λ i l. sampled i (omega (arith, l))) (stored_right t.stored roomed nothing))

-- ---- there is such memory
module _ (unit n : ℕ) (bytes : List ℕ) (m : Memory) where
  abbrev samples : List ℕ
  samples = paste m.samples (0 * unit) bytes (n * unit)

  abbrev level : ℕ → List ℕ
  level l = level_after (sample_of unit samples) (levels m l) 0 n l

  abbrev pub filled_with : Memory
  filled_with = record { samples = samples; l1 = level 1; l2 = level 2; l3 = level 3; l4 = level 4 }

  pub filled_is : Stored unit 0 n bytes m.samples (levels m) filled_with.samples (levels filled_with)
  filled_is = record { samples_are = refl; levels_are = four_levels level }

-- and no other
pub stored_same : {unit n : ℕ} {bytes : List ℕ} (m : Memory) {m₁ m₂ : Memory} → Stored unit 0 n bytes m.samples (levels m) m₁.samples (levels m₁) → Stored unit 0 n bytes m.samples (levels m) m₂.samples (levels m₂) → m₁ ≡ m₂
unfolding level_of
stored_same {unit} {n} {bytes} m {m₁} {m₂} d e = λ i. record {
  samples = samples_same i;
  l1 = same_level 1 (omega arith) (omega arith) i;
  l2 = same_level 2 (omega arith) (omega arith) i;
  l3 = same_level 3 (omega arith) (omega arith) i;
  l4 = same_level 4 (omega arith) (omega arith) i;
}
  where
    samples_same : m₁.samples ≡ m₂.samples
    samples_same = d.samples_are ∙ sym e.samples_are

    same_level : (l : ℕ) → 1 ≤ l → l ≤ top_level → levels m₁ l ≡ levels m₂ l
    same_level l p q = d.levels_are l p q ∙ ap (λ (s : List ℕ). level_after (sample_of unit s) (levels m l) 0 n l) samples_same ∙ sym (e.levels_are l p q)
