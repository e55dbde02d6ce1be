-- What stored memory holds: old samples stay, new ones follow, all else stays, and right levels stay right.
use Prim.Native.Nat.{ℕ, ◌+◌, ◌-◌, ◌*◌, ◌/◌, ◌≤◌, ◌<◌}
use mathlib.Core.Path.{◌≡◌, sym, ap, ◌∙◌, subst⁻¹}
use mathlib.Core.Logic.{◌⊎◌, inl, inr}
use mathlib.Core.List.{List, ◌++◌}
use native.Mathlib.Nat.{mul-le-mul_right, zero-mul}
use native.Mathlib.Omega.{arith}
use lib.ListN.{length, take, get_or}
use lib.Seq.{paste, paste-zero, length-paste}
use Rattle.rules.specs.Node.{span, top_level}
use Rattle.rules.specs.Sample.{sample_of}
use Rattle.rules.specs.Refusal.{node_size}
use Rattle.rules.proofs.Sample.{little_same}
use Rattle.node.specs.Memory.{Right, RightAt}
use Rattle.rebuild.specs.Room.{Roomy}
use Rattle.rebuild.proofs.Right.{after_none, length_after, rest_stays, after_right}
use Rattle.store.specs.Stored.{LevelsAfter, Stored}
use Rattle.store.specs.Room.{AppendRoom, PartsRoom}
use Rattle.store.proofs.Bytes.{paste_before, paste_inside, paste_after, paste_first, paste_thrice}
use Rattle.store.proofs.Levels.{levels_none}

-- ---- a copy, and the levels above it
pub stored_first : (u len n : ℕ) (b s : List ℕ) (lv : ℕ → List ℕ) → AppendRoom u len n (length s) lv (length b)
    → (s' : List ℕ) (lv' : ℕ → List ℕ) → s' ≡ paste s (len * u) (take (n * u) b) (length (take (n * u) b)) → LevelsAfter u len n s' lv lv' → Stored u len n b s lv s' lv'
stored_first u len n b s lv r s' lv' e d = record { samples_are = e ∙ paste_first s (len * u) b (n * u) r.bytes; levels_are = d }

-- three copies
pub stored_parts : (u len n : ℕ) (a b c s : List ℕ) (lv : ℕ → List ℕ) → PartsRoom u len n (length s) lv (length a) (length b) (length c)
    → (s₁ s₂ s' : List ℕ) (lv' : ℕ → List ℕ) → s₁ ≡ paste s (len * u) a (length a) → s₂ ≡ paste s₁ (len * u + length a) b (length b)
    → s' ≡ paste s₂ (len * u + length a + length b) c (length c) → LevelsAfter u len n s' lv lv' → Stored u len n (a ++ b ++ c) s lv s' lv'
stored_parts u len n a b c s lv r s₁ s₂ s' lv' e₁ e₂ e₃ d = record {
  samples_are = e₃ ∙ ap (λ (x : List ℕ). paste x (len * u + length a + length b) c (length c)) (e₂ ∙ ap (λ (x : List ℕ). paste x (len * u + length a) b (length b)) e₁)
      ∙ paste_thrice s a b c (len * u) (n * u) (omega (arith, r.room.samples)) r.bytes;
  levels_are = d;
}

pub stored_none : (u len n : ℕ) (b s : List ℕ) (lv : ℕ → List ℕ) → n ≡ 0 → Stored u len n b s lv s lv
stored_none u len n b s lv e = record {
  samples_are = paste-zero s (len * u) b ∙ ap (paste s (len * u) b) (sym (ap (λ (x : ℕ). x * u) e ∙ zero-mul u));
  levels_are = levels_none u len n s lv e;
}

-- there is room for the samples that are taken, or none is taken
abbrev pub RoomOrNone : ℕ → ℕ → ℕ → List ℕ → (ℕ → List ℕ) → List ℕ → Type 0
RoomOrNone u len n s lv b = (n ≡ 0) ⊎ AppendRoom u len n (length s) lv (length b)

pub has_room : (u len n : ℕ) (s : List ℕ) (lv : ℕ → List ℕ) (b : List ℕ) → RoomOrNone u len n s lv b → (n ≡ 0 → ⊥) → Roomy (len + n) lv
has_room u len n s lv b (inl e) z = absurd (z e)
has_room u len n s lv b (inr k) z = k.room.nodes

module _ {u len n : ℕ} {b s : List ℕ} {lv : ℕ → List ℕ} {s' : List ℕ} {lv' : ℕ → List ℕ} (d : Stored u len n b s lv s' lv') where
  -- ---- no samples
  pub none_samples : n ≡ 0 → s' ≡ s
  none_samples e = d.samples_are ∙ ap (λ (x : ℕ). paste s (len * u) b (x * u)) e ∙ ap (paste s (len * u) b) (zero-mul u) ∙ sym (paste-zero s (len * u) b)

  pub none_levels : n ≡ 0 → (l : ℕ) → 1 ≤ l → l ≤ top_level → lv' l ≡ lv l
  none_levels e l p q = d.levels_are l p q ∙ after_none (sample_of u s') (lv l) len n l e

  -- ---- levels, whatever memory holds
  pub level_length : (l : ℕ) → 1 ≤ l → l ≤ top_level → length (lv' l) ≡ length (lv l)
  level_length l p q = ap length (d.levels_are l p q) ∙ length_after (sample_of u s') (lv l) len n l

  pub level_rest : (l k : ℕ) → 1 ≤ l → l ≤ top_level → (k < len / span l * node_size) ⊎ (((len + n - 1) / span l + 1) * node_size ≤ k) → get_or (lv' l) k 0 ≡ get_or (lv l) k 0
  level_rest l k p q h = ap (λ (x : List ℕ). get_or x k 0) (d.levels_are l p q) ∙ rest_stays (sample_of u s') (lv l) len n l k h

  -- ---- samples
  pub samples_length : RoomOrNone u len n s lv b → length s' ≡ length s
  samples_length (inl e) = ap length (none_samples e)
  samples_length (inr r) = ap length d.samples_are ∙ length-paste s (len * u) b (n * u) (omega (arith, r.room.samples)) r.bytes

  -- the bytes before and after the new ones
  pub bytes_rest : RoomOrNone u len n s lv b → (k : ℕ) → (k < len * u) ⊎ ((len + n) * u ≤ k) → get_or s' k 0 ≡ get_or s k 0
  bytes_rest (inl e) k h = ap (λ (x : List ℕ). get_or x k 0) (none_samples e)
  bytes_rest (inr r) k (inl h) = ap (λ (x : List ℕ). get_or x k 0) d.samples_are ∙ paste_before s (len * u) b (n * u) (omega (arith, r.room.samples)) r.bytes k h
  bytes_rest (inr r) k (inr h) = ap (λ (x : List ℕ). get_or x k 0) d.samples_are ∙ paste_after s (len * u) b (n * u) (omega (arith, r.room.samples)) r.bytes k (omega arith)

  -- the samples before stay
  pub old_samples : RoomOrNone u len n s lv b → (i : ℕ) → i < len → sample_of u s' i ≡ sample_of u s i
  unfolding sample_of
  old_samples w i h = little_same u s' s (i * u) (i * u) (λ j k. bytes_rest w (i * u + j) (inl (omega (arith, mul-le-mul_right u h))))

  -- and those of the bytes follow
  pub new_samples : RoomOrNone u len n s lv b → (i : ℕ) → i < n → sample_of u s' (len + i) ≡ sample_of u b i
  unfolding sample_of
  new_samples (inl e) i h = absurd (omega arith)
  new_samples (inr r) i h =
      little_same u s' b ((len + i) * u) (i * u) (λ j k.
      ap (λ (x : List ℕ). get_or x ((len + i) * u + j) 0) d.samples_are
      ∙ paste_inside s (len * u) b (n * u) (omega (arith, r.room.samples)) r.bytes ((len + i) * u + j) (omega arith) (omega (arith, mul-le-mul_right u h))
      ∙ ap (λ (x : ℕ). get_or b x 0) (at j))
    where
      at : (j : ℕ) → (len + i) * u + j - len * u ≡ i * u + j
      at j = omega arith

  -- ---- right levels stay right
  pub stored_right : RoomOrNone u len n s lv b → Right (sample_of u s) len lv → Right (sample_of u s') (len + n) lv'
  stored_right w r l p q =
      subst⁻¹ (λ (x : List ℕ). RightAt (sample_of u s') (len + n) (λ _. x) l) (d.levels_are l p q)
      (after_right (sample_of u s) (sample_of u s') lv len n (has_room u len n s lv b w) (λ i h. sym (old_samples w i h)) r l p q)
