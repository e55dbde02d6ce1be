-- 1. selection: what a recording leaves is 01's run, with its mark, right levels and answers.
use mathlib.Core.Path.{◌≡◌, refl, sym, ap, ◌∙◌, subst, subst⁻¹}
use mathlib.Core.Bool.{Bool, cond}
use mathlib.Core.List.{List}
use Prim.Native.Nat.{ℕ, ◌+◌, ◌%◌, ◌^◌, ◌≤◌, ◌<◌}
use native.Mathlib.Nat.{mod-lt}
use native.Mathlib.Omega.{arith}
use borrow.Author.Tests.{ne_eqb}
use lib.ListN.{length, get_or}
use Rattle.rules.specs.Sample.{sample_of}
use Rattle.rules.specs.Trigger.{Masks, unarmed, waiting}
use Rattle.rules.specs.Selection.{slot_of, beside_of}
use Rattle.rules.specs.Refusal.{Lent, Recorder, start_refusal}
use Rattle.rules.proofs.Refusal.{SoundRecorder, none_refused}
use Rattle.feeder_lists.specs.Bytes.{units}
use Rattle.feeder_lists.specs.Push.{pushes_bytes, replies_bytes, started_with}
use Rattle.feeder_lists.proofs.Bytes.{units_at, units_length}
use Rattle.feeder_lists.proofs.Push.{GoesOn, stands_in}
use Rattle.feeder_lists.proofs.Selects.{Holds, holds_beside, in_slot}
use Rattle.feeder_lists.proofs.Selects as state
use Rattle.feeder_lists.proofs.Lists.{Recorded, start_goes, all_go, held, start_sound, start_list_sound, start_recorded}
use Rattle.node.specs.Memory.{Right}
use Rattle.rebuild.proofs.Right.{right_same}
use Rattle.capture.specs.Record.{store_of, lent_of}
use Rattle.capture.proofs.Answer.{unless_given}
use Rattle.feeder.specs.Record.{recorder_of, armed_as}
use Rattle.rules.specs.Push.{Left}
use Rattle.rules.specs.Start.{fresh_recorder, beside_in, begun}
use Rattle.claim_captures.specs.Words.{levels, at}
use Rattle.claim_recording.specs.Claim.{settings, lengths, Recording, store, ruled, all, run, Selects}
use Rattle.claim_recording.proofs.Pushes.{Going, Kept, kept_sound, all_kept}
use Rattle.claim_recording.proofs.Words.{run_words}

module _ (r : Recording) where
  abbrev lent : Lent
  lent = lengths r.before.store

  abbrev begins : Left
  begins = started_with (ruled r) r.before.store.samples r.before.ring

  abbrev last : Left
  last = pushes_bytes begins r.pushes

  -- ---- the start
  start_is : (start_refusal (settings r.setup) lent (length r.before.ring) ≡ 0) × (recorder_of r.fresh ≡ fresh_recorder (ruled r))
  start_is =
      let t = unless_given (begun (settings r.setup)) (start_refusal (settings r.setup) lent (length r.before.ring)) (record { recorder = recorder_of r.fresh; was_cut = r.was_cut }) (sym r.started) in
      (t.0, sym (ap (λ b. b.recorder) t.1))

  sound_start : SoundRecorder (fresh_recorder (ruled r)) lent (length r.before.ring)
  sound_start = start_sound (settings r.setup) r.before.store.samples r.before.ring lent refl start_is.0

  goes : (rest : List (List ℕ)) → GoesOn (ruled r) (length r.before.store.samples) (length r.before.ring) (pushes_bytes begins rest)
  goes rest =
      all_go (ruled r) (length r.before.store.samples) (length r.before.ring) rest begins
      (start_goes (ruled r) r.before.store.samples r.before.ring sound_start.store.samples sound_start.ring)

  going : Going lent begins
  going = record {
    sound = start_list_sound (settings r.setup) r.before.store.samples r.before.ring lent refl start_is.0;
    size = λ rest. (goes rest).samples_length;
  }

  -- nothing is stored, so whatever the levels hold is right
  first : Kept lent begins r.fresh r.before
  first = record {
    recorder_is = start_is.1;
    samples_are = refl;
    ring_is = refl;
    lengths = λ k p q. refl;
    right = λ l p q j h. absurd (omega (arith, ap (λ (c : Recorder). c.store.len) start_is.1));
  }

  -- ---- the list
  both : Kept lent last r.feeder r.memory × (r.replies ≡ replies_bytes begins r.pushes)
  both = all_kept lent begins going first r.pushed

  kept : Kept lent last r.feeder r.memory
  kept = both.0

  -- rows 1 and 2 let pass what a recording leaves
  recorder_sound : SoundRecorder (recorder_of r.feeder) (lent_of r.memory.store.samples (levels r.memory.store)) (length r.memory.ring)
  recorder_sound = kept_sound lent last r.feeder r.memory (going.sound r.pushes) (going.size r.pushes) kept

  made : Recorded (ruled r) r.pushes last (replies_bytes begins r.pushes)
  made = start_recorded (settings r.setup) r.before.store.samples r.before.ring lent refl start_is.0 r.pushes

  unit_is : (store r).unitsize ≡ (ruled r).unit
  unit_is = ap (λ (c : Recorder). c.store.unit) kept.recorder_is ∙ (goes r.pushes).unit

  len_is : (store r).len ≡ length (run r)
  len_is = ap (λ (c : Recorder). c.store.len) kept.recorder_is ∙ made.len

  -- the run, as memory has it
  stored : units (store r).unitsize (store r).len r.memory.store.samples ≡ run r
  stored =
      (λ i. units (unit_is i) (kept.recorder_is i).store.len (kept.samples_are i))
      ∙ made.samples

  samples_are : (i : ℕ) → i < length (run r) → sample_of (store r).unitsize r.memory.store.samples i ≡ at (run r) i
  samples_are i h = sym (units_at (store r).unitsize (store r).len r.memory.store.samples i (omega (arith, len_is))) ∙ ap (λ (x : List ℕ). get_or x i 0) stored

  -- ---- the ring
  ring_is : units last.recorder.store.unit last.recorder.pre last.ring ≡ units (ruled r).unit (ruled r).pre r.memory.ring
  ring_is = λ i. units ((goes r.pushes).unit i) ((goes r.pushes).pre i) (sym kept.ring_is i)

  -- what the list over definitions says of the record and the ring
  holds : Holds (ruled r) (units (ruled r).unit (ruled r).pre r.before.ring) (all r) (stands_in last)
  holds = held (ruled r) r.before.store.samples r.before.ring sound_start.store.samples sound_start.ring r.pushes

  beside_is : beside_in (recorder_of r.feeder) ≡ beside_of (ruled r) (all r)
  beside_is = ap beside_in kept.recorder_is ∙ holds_beside (ruled r) (units (ruled r).unit (ruled r).pre r.before.ring) (all r) (stands_in last) holds

  slots : (masks : Masks) → armed_as r.feeder.masks ≡ waiting masks
      → (k : ℕ) → k < length (all r) → length (all r) ≤ k + (ruled r).pre → sample_of (ruled r).unit r.memory.ring (slot_of (ruled r).pre k) ≡ get_or (all r) k 0
  slots masks e k h l = go holds
    where
      go : Holds (ruled r) (units (ruled r).unit (ruled r).pre r.before.ring) (all r) (stands_in last) → sample_of (ruled r).unit r.memory.ring (slot_of (ruled r).pre k) ≡ get_or (all r) k 0
      go (state.stores o) = absurd (let a : unarmed ≡ waiting masks = sym o.armed ∙ ap (λ (c : Recorder). c.armed) (sym kept.recorder_is) ∙ e in let z : ◌≡◌ {A = ℕ} 0 1 = cc in omega arith)
      go (state.waits w) =
          let pos : 0 < (ruled r).pre = omega arith in
          ap (λ (b : Bool). sample_of (ruled r).unit r.memory.ring (cond b 0 (k % (ruled r).pre))) (ne_eqb (ruled r).pre 0 (λ z. omega arith))
          ∙ sym (units_at (ruled r).unit (ruled r).pre r.memory.ring (k % (ruled r).pre) (mod-lt k pos))
          ∙ ap (λ (x : List ℕ). get_or x (k % (ruled r).pre) 0) (sym ring_is)
          ∙ in_slot (ruled r) (units (ruled r).unit (ruled r).pre r.before.ring) (all r) (rw units_length (omega arith)) (stands_in last) w k pos h l

  pub selection : Selects r
  selection = record {
    held = record {
      passes = none_refused (store_of (store r)) (lent_of r.memory.store.samples (levels r.memory.store)) recorder_sound.store recorder_sound.mark;
      len_is = len_is;
      mark_is = ap (λ (c : Recorder). c.store.mark) kept.recorder_is ∙ made.mark;
      samples_are = samples_are;
      levels_right =
          subst (λ (n : ℕ). Right (at (run r)) n (levels r.memory.store)) len_is
          (right_same (sample_of (store r).unitsize r.memory.store.samples) (at (run r)) (levels r.memory.store) (store r).len (λ i h. samples_are i (omega (arith, len_is))) kept.right);
      words = λ i h. subst⁻¹ (λ (u : ℕ). at (run r) i < 256 ^ u) unit_is (run_words (ruled r) r.pushes r.are_bytes i);
    };
    replies_are = both.1 ∙ made.replies;
    beside_is = beside_is;
    slots = slots;
  }
