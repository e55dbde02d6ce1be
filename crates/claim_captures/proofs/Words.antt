-- Samples of bytes are those of their unit, and so is whatever is chosen from them; they are words.
use mathlib.Core.Path.{subst⁻¹}
use mathlib.Core.Bool.{Bool, true, false, cond}
use mathlib.Core.List.{List, [], ◌∷◌, ◌++◌}
use Rattle.std.specs.Prelude.{Option}
use Prim.Native.Nat.{ℕ, zero, suc, ◌+◌, ◌^◌, ◌<◌}
use native.Mathlib.Nat.{pow-le-pow_right, zero-lt-suc}
use native.Mathlib.Omega.{arith}
use lib.ListN.{length, take, drop, get_or}
use lib.Seq.{get_or-drop}
use Rattle.rules.specs.Sample.{sample_of, list_from, samples_of}
use Rattle.rules.specs.SampleBytes.{Bytes}
use Rattle.rules.proofs.Sample.{sample_lt}
use Rattle.rules.proofs.Refusal.{sound}
use Rattle.capture.specs.declared.Capture.{Capture}
use Rattle.capture.specs.Record.{store_of, lent_of}
use Rattle.claim_alike.specs.Alike.{AreWords}
use Rattle.claim_captures.specs.Words.{Memory, levels, at}
use Rattle.claim_captures.specs.Claim.{Held}

-- a capture's samples are words
pub held_words : {run : List ℕ} {mark : Option ℕ} (c : Capture) (m : Memory) → Held run mark c m → AreWords (at run) (length run)
held_words c m h i l = omega (arith, h.words i l, pow-le-pow_right {n = 256} (omega arith) {j = 2} (sound (store_of c) (lent_of m.samples (levels m)) h.passes).unit_size.most)

-- ---- lists
module _ (u : ℕ) where
  -- every number of a list, and the 0 that is read past its end
  abbrev pub WordList : List ℕ → Type 0
  WordList xs = (i : ℕ) → get_or xs i 0 < 256 ^ u

  pub no_words : WordList []
  no_words i = omega (arith, sample_lt u [] 0 (λ j. zero-lt-suc 255))

  pub words_append : (xs ys : List ℕ) → WordList xs → WordList ys → WordList (xs ++ ys)
  words_append [] ys h k i = k i
  words_append (x ∷ xs) ys h k zero = h 0
  words_append (x ∷ xs) ys h k (suc i) = words_append xs ys (λ j. h (suc j)) k i

  pub words_take : (n : ℕ) (xs : List ℕ) → WordList xs → WordList (take n xs)
  words_take zero xs h i = no_words i
  words_take (suc n) [] h i = no_words i
  words_take (suc n) (x ∷ xs) h zero = h 0
  words_take (suc n) (x ∷ xs) h (suc i) = words_take n xs (λ j. h (suc j)) i

  pub words_drop : (n : ℕ) (xs : List ℕ) → WordList xs → WordList (drop n xs)
  words_drop n xs h i = subst⁻¹ (λ (x : ℕ). x < 256 ^ u) (get_or-drop n xs i 0) (h (n + i))

  -- ---- samples
  words_from : (s : ℕ → ℕ) → ((i : ℕ) → s i < 256 ^ u) → (p n : ℕ) → WordList (list_from s p n)
  unfolding list_from
  words_from s h p zero i = no_words i
  words_from s h p (suc n) zero = h p
  words_from s h p (suc n) (suc i) = words_from s h (p + 1) n i

  -- the samples of the bytes are added, or not
  pub words_taken : (xs bytes : List ℕ) → WordList xs → Bytes bytes → (b : Bool) → WordList (cond b (xs ++ samples_of u bytes) xs)
  words_taken xs bytes w are true = words_append xs (samples_of u bytes) w (words_from (sample_of u bytes) (λ i. sample_lt u bytes i are) 0 _)
  words_taken xs bytes w are false = w
