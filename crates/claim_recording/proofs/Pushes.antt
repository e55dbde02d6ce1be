-- A list of pushes, by push's contract alone: each leaves what one push over the record and its memory leaves, finds it within bounds, and keeps the levels right.
use mathlib.Core.Path.{◌≡◌, refl, sym, ap, ap₂, ◌∙◌, subst⁻¹}
use mathlib.Core.List.{List, [], ◌∷◌}
use Rattle.std.specs.Prelude.{Result}
use Prim.Native.Nat.{ℕ, ◌≤◌}
use native.Mathlib.Omega.{arith}
use lib.ListN.{length}
use Rattle.rules.specs.Push.{Left}
use Rattle.rules.specs.Sample.{sample_of}
use Rattle.rules.specs.Node.{top_level}
use Rattle.rules.specs.Selection.{Reply}
use Rattle.rules.specs.Refusal.{Store, Lent, Recorder}
use Rattle.rules.proofs.Refusal.{Sound, SoundRecorder}
use Rattle.feeder_lists.specs.Push.{push_bytes, push_on, pushes_bytes, replies_bytes}
use Rattle.node.specs.Memory.{Right}
use Rattle.answer.specs.declared.Refusal.{Refusal}
use Rattle.capture.specs.Record.{lent_of}
use Rattle.feeder.specs.declared.Feeder.{Feeder}
use Rattle.feeder.specs.Record.{recorder_of}
use Rattle.feeder_push.specs.declared.Pushed.{Pushed}
use Rattle.feeder_push.specs.Push.{reply_as, feeder_in, Pushes}
use Rattle.feeder_push.proofs.Written.{one_push, level_lengths, right_stays}
use Rattle.claim_captures.specs.Words.{levels}
use Rattle.claim_recording.specs.Claim.{Memory, MayPush, Pushing}
use Rattle.claim_recording.specs.Claim.Pushing.{stop, step}

-- the contract's equations
pub equations : (f : Feeder) (m : Memory) (bytes : List ℕ) (v : Result Pushed Refusal) (m' : Memory) → MayPush f m bytes v m'
    → Pushes f bytes m.store.samples (levels m.store) m.ring v m'.store.samples (levels m'.store) m'.ring
equations f m bytes v m' call = call.4

-- bounds of a store hold of memory of the same lengths
sound_lent : (st : Store) (a b : Lent) → Sound st a → a.samples ≡ b.samples → ((l : ℕ) → 1 ≤ l → l ≤ top_level → a.level l ≡ b.level l) → Sound st b
sound_lent st a b h e d = record {
  unit_size = h.unit_size;
  capacity_least = h.capacity_least;
  capacity_most = h.capacity_most;
  len_most = h.len_most;
  samples = omega (arith, h.samples);
  level = λ l p q. omega (arith, h.level l p q, d l p q);
}

recorder_lent : (c : Recorder) (a b : Lent) (size : ℕ) → SoundRecorder c a size → a.samples ≡ b.samples → ((l : ℕ) → 1 ≤ l → l ≤ top_level → a.level l ≡ b.level l) → SoundRecorder c b size
recorder_lent c a b size h e d = record {
  store = sound_lent c.store a b h.store e d;
  mark = h.mark;
  limit_most = h.limit_most;
  pre_most = h.pre_most;
  kept_most = h.kept_most;
  place_inside = h.place_inside;
  len_limit = h.len_limit;
  ring = h.ring;
}

-- ---- the list
-- memory of the lengths lent at the start, in which what l goes on to stays within bounds
module _ (lent : Lent) where
  pub record Going (l : Left) : Type 0 where
    pub sound : (rest : List (List ℕ)) → SoundRecorder (pushes_bytes l rest).recorder lent (length (pushes_bytes l rest).ring)
    pub size : (rest : List (List ℕ)) → length (pushes_bytes l rest).samples ≡ lent.samples

  going_on : (l : Left) (b : List ℕ) → Going l → Going (push_on l b)
  unfolding pushes_bytes
  going_on l b g = record { sound = λ rest. g.sound (b ∷ rest); size = λ rest. g.size (b ∷ rest) }

  -- a record and memory are what l says, and the levels are right
  pub record Kept (l : Left) (f : Feeder) (m : Memory) : Type 0 where
    pub recorder_is : recorder_of f ≡ l.recorder
    pub samples_are : m.store.samples ≡ l.samples
    pub ring_is : m.ring ≡ l.ring
    pub lengths : (k : ℕ) → 1 ≤ k → k ≤ top_level → length (levels m.store k) ≡ lent.level k
    pub right : Right (sample_of f.capture.unitsize m.store.samples) f.capture.len (levels m.store)

  pub kept_sound : (l : Left) (f : Feeder) (m : Memory) → SoundRecorder l.recorder lent (length l.ring) → length l.samples ≡ lent.samples → Kept l f m
      → SoundRecorder (recorder_of f) (lent_of m.store.samples (levels m.store)) (length m.ring)
  kept_sound l f m sound size k =
      recorder_lent (recorder_of f) lent (lent_of m.store.samples (levels m.store)) (length m.ring)
      (subst⁻¹ (λ (c : Recorder). SoundRecorder c lent (length m.ring)) k.recorder_is (subst⁻¹ (λ (x : List ℕ). SoundRecorder l.recorder lent (length x)) k.ring_is sound))
      (sym (ap length k.samples_are ∙ size))
      (λ j p q. sym (k.lengths j p q))

  one_kept : (l : Left) (f : Feeder) (m : Memory) (bytes : List ℕ) (v : Result Pushed Refusal) (m' : Memory) → Going l → Kept l f m → MayPush f m bytes v m'
      → Kept (push_on l bytes) (feeder_in f v) m' × (reply_as v ≡ (push_on l bytes).reply)
  unfolding pushes_bytes
  one_kept l f m bytes v m' g k call = (
    record {
      recorder_is = ap (λ (x : Left). x.recorder) left;
      samples_are = ap (λ (x : Left). x.samples) left;
      ring_is = ap (λ (x : Left). x.ring) left;
      lengths = λ j p q. level_lengths fit j p q ∙ k.lengths j p q;
      right = right_stays fit sound k.right;
    },
    ap (λ (x : Left). x.reply) left,
  )
    where
      fit : Pushes f bytes m.store.samples (levels m.store) m.ring v m'.store.samples (levels m'.store) m'.ring
      fit = equations f m bytes v m' call

      sound : SoundRecorder (recorder_of f) (lent_of m.store.samples (levels m.store)) (length m.ring)
      sound = kept_sound l f m (g.sound []) (g.size []) k

      left : record { reply = reply_as v; recorder = recorder_of (feeder_in f v); samples = m'.store.samples; ring = m'.ring } ≡ push_on l bytes
      left = one_push fit sound ∙ (λ i. push_bytes (k.recorder_is i) (k.samples_are i) (k.ring_is i) bytes)

  pub all_kept : (l : Left) {pushes : List (List ℕ)} {f : Feeder} {m : Memory} {replies : List Reply} {f'' : Feeder} {m'' : Memory} → Going l → Kept l f m → Pushing f m pushes replies f'' m''
      → Kept (pushes_bytes l pushes) f'' m'' × (replies ≡ replies_bytes l pushes)
  unfolding pushes_bytes replies_bytes
  all_kept l g k stop = (k, refl)
  all_kept l {f = f} {m = m} g k (step {bytes = bytes} {v = v} {m' = m'} call rest) =
      let one = one_kept l f m bytes v m' g k call in
      let more = all_kept (push_on l bytes) (going_on l bytes g) one.0 rest in
      (more.0, ap₂ (λ (x : Reply) (xs : List Reply). x ∷ xs) one.1 more.1)
