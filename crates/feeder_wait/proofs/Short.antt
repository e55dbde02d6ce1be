-- A recorder that waits is refused by no row, and a push whose samples do not fire is a case of push.
use mathlib.Core.Path.{◌≡◌, sym, ap, ◌∙◌, subst}
use mathlib.Core.Bool.{Bool, true, false}
use mathlib.Core.List.{List, [], ◌∷◌}
use Rattle.std.specs.Prelude.{Option, None, Some}
use Prim.Native.Nat.{ℕ, ◌+◌, ◌-◌, ◌*◌, ◌≤◌, ◌<◌, min}
use native.Mathlib.Omega.{arith}
use borrow.Author.Tests.{eq-eqb, le-ltb, ltb-false}
use lib.Dec.{ltb}
use lib.ListN.{length, set}
use lib.Seq.{sets, set-get_or, paste}
use Rattle.rules.specs.Sample.{sample_of, sample_count, samples_of}
use Rattle.rules.specs.Trigger as rule
use Rattle.rules.specs.Selection.{going_on}
use Rattle.rules.specs.Refusal.{Store, Lent, Recorder, recorder_refusal, mark_flag, mark_place}
use Rattle.rules.proofs.Refusal.{Sound, SoundRecorder}
use Rattle.rules.proofs.Sample.{list_length}
use Rattle.rules.proofs.Trigger.{fire_le}
use Rattle.rules.specs.Ring.{place_after, ring_bytes}
use Rattle.feeder_lists.specs.Bytes.{units}
use Rattle.feeder_lists.specs.Push.{firing_bytes, taken_bytes, push_bytes, left_by}
use Rattle.feeder_ring.proofs.Copy.{copy_end}
use Rattle.feeder_ring.proofs.Place.{place_ahead}
use Rattle.feeder_ring.proofs.Runs.{one_run, run_room}
use Rattle.capture.specs.Record.{mark_in}
use Rattle.capture.specs.Numbers.{len_at, marked_at, mark_at, unit_in, capacity_in, marked_in, mark_place_in}
use Rattle.terms.specs.Terms.{as_masks}
use Rattle.feeder_scan.specs.Scan.{samples_in, sample_in}
use Rattle.feeder_scan.specs.declared.samples.Samples.{Samples}
use Rattle.feeder_scan.proofs.Last.{last_some}
use Rattle.feeder.specs.Record.{armed_as, recorder_of}
use Rattle.feeder.proofs.Rows.{sound_recorder}
use Rattle.feeder_numbers.specs.Numbers.{waits_at, known_at, pre_in, known_in, previous_sample_in, ring_place_in, kept_in, lines_in, armed_in, previous_in, feeder_from, waits_number, pushed_numbers}
use Rattle.feeder_lists.proofs.Left.{left_is}
use Rattle.feeder_wait.specs.Wait.{Waiting, fire_of, CopyRoom, FewRoom, FewWent, FewAfter, waited_of, ShortWent, ShortAfter}

-- the room of its bytes
pub few_copy : (r : List ℕ) (g : ℕ) (p : Samples) → FewRoom r g p → CopyRoom (ring_place_in r * p.unitsize) (p.n * p.unitsize) g (length p.bytes.now)
few_copy r g p room = record {
  two_bytes = room.two_bytes;
  few_bytes = room.few_bytes;
  slots = run_room (record { place_in = omega (arith, room.place_inside); slots = room.slots }) p.n (omega (arith, room.ahead));
  held = p.held.room;
}

-- the numbers that the code writes
pub few_went : (r g : List ℕ) (p : Samples) → FewRoom r (length g) p → ltb (fire_of r p) p.n ≡ false → {last k : ℕ} → last ≡ sample_in p (p.n - 1) → k ≡ min p.n (pre_in r - kept_in r)
    → {g' : List ℕ} → g' ≡ paste g (ring_place_in r * p.unitsize) p.bytes.now (p.n * p.unitsize) → FewWent r g p (sets r known_at (1 ∷ last ∷ (ring_place_in r + p.n) ∷ (kept_in r + k) ∷ [])) g'
few_went r g p room quiet {last} {k} el ek eg = record {
  none_fires = omega (arith, fire_le (as_masks (lines_in r)) (previous_in (known_in r) (previous_sample_in r)) (samples_in p), list_length (sample_in p) 0 p.n, ltb-false _ p.n quiet);
  numbers_are = λ i. sets r known_at (1 ∷ el i ∷ (ring_place_in r + p.n) ∷ kept i ∷ []);
  ring_is = eg ∙ copy_end g p.bytes.now (ring_place_in r * p.unitsize) 0 (p.n * p.unitsize) (omega (arith, p.held.room)) ∙ one_run p.unitsize (pre_in r) p.n g (ring_place_in r) p.bytes.now (omega (arith, room.ahead)) room.slots p.held.room;
}
  where
    kept : kept_in r + k ≡ min (pre_in r) (kept_in r + p.n)
    kept = omega (arith, room.kept_most)

module _ (r : List ℕ) (lent : Lent) (g b : List ℕ) (w : Waiting r lent (length g)) (inside : ring_place_in r < pre_in r) where
  abbrev c : Recorder
  c = recorder_of (feeder_from r)

  abbrev u : ℕ
  u = unit_in r

  -- ---- as it waits
  no_mark : mark_in (marked_in r) (mark_place_in r) ≡ None
  no_mark = ap (λ (x : ℕ). mark_in x (mark_place_in r)) w.unmarked

  store_is : c.store ≡ record { unit = u; capacity = capacity_in r; len = 0; mark = None }
  store_is = λ i. record { unit = u; capacity = capacity_in r; len = w.len i; mark = no_mark i }

  armed_is : c.armed ≡ rule.waiting (as_masks (lines_in r))
  armed_is = ap (λ (x : ℕ). armed_as (armed_in x (lines_in r))) w.waits

  -- ---- no row refuses it
  sound : SoundRecorder c lent (length g)
  sound = record {
    store = subst (λ (st : Store). Sound st lent) (sym store_is) w.store;
    mark = λ k e. absurd (never k (sym (ap (λ (st : Store). st.mark) store_is) ∙ e));
    limit_most = w.limit_most;
    pre_most = w.pre_most;
    kept_most = w.kept_most;
    place_inside = omega (arith, inside);
    len_limit = λ h. omega (arith, w.len);
    ring = w.slots;
  }
    where
      never : (k : ℕ) → ◌≡◌ {A = Option ℕ} None (Some k) → ⊥
      never k e = let z : ◌≡◌ {A = ℕ} 0 1 = cc in omega arith

  free : recorder_refusal c lent (length g) ≡ 0
  free = sound_recorder c lent (length g) sound

  -- ---- the numbers that it leaves as they are
  same_2 : sets r len_at (c.store.len ∷ mark_flag c.store.mark ∷ mark_place c.store.mark ∷ []) ≡ r
  same_2 =
      ap (λ (st : Store). sets r len_at (st.len ∷ mark_flag st.mark ∷ mark_place st.mark ∷ [])) store_is
      ∙ (λ i. sets r len_at (sym w.len i ∷ sym w.unmarked i ∷ sym w.mark i ∷ []))
      ∙ ap (λ (x : List ℕ). set (set x marked_at (marked_in r)) mark_at (mark_place_in r)) (set-get_or r len_at 0)
      ∙ ap (λ (x : List ℕ). set x mark_at (mark_place_in r)) (set-get_or r marked_at 0)
      ∙ set-get_or r mark_at 0

  same_7 : sets r waits_at (waits_number c.armed ∷ []) ≡ r
  same_7 =
      ap (λ (a : rule.Armed). sets r waits_at (waits_number a ∷ [])) armed_is
      ∙ ap (λ (x : ℕ). set r waits_at x) (sym w.waits)
      ∙ set-get_or r waits_at 0

  -- ---- all its samples, of which none fires
  module _ (p : Samples) (of_unit : p.unitsize ≡ u) (of_bytes : p.bytes.now ≡ b) (whole : p.n ≡ sample_count u b) (some_samples : 1 ≤ p.n) (ahead : p.n < pre_in r - ring_place_in r) where
    abbrev n : ℕ
    n = sample_count u b

    samples_are : samples_in p ≡ samples_of u b
    samples_are = λ i. units (of_unit i) (whole i) (of_bytes i)

    none_fires : fire_of r p ≡ p.n → rule.first_fire (as_masks (lines_in r)) c.previous (samples_of u b) ≡ n
    none_fires e = ap (rule.first_fire (as_masks (lines_in r)) c.previous) (sym samples_are) ∙ e ∙ whole

    count : length (samples_of u b) ≡ p.n
    count = list_length (sample_of u b) 0 n ∙ sym whole

    module _ {new g' : List ℕ} (d : FewWent r g p new g') where
      ring_is : g' ≡ ring_bytes u (pre_in r) g (ring_place_in r) n b
      ring_is = d.ring_is ∙ (λ i. ring_bytes (of_unit i) (pre_in r) g (ring_place_in r) (whole i) (of_bytes i))

      past_rows : (s : List ℕ) → left_by c lent s g b ≡ record { reply = going_on; recorder = waited_of r b; samples = s; ring = g' }
      unfolding left_by push_bytes
      past_rows s =
          rw (eq-eqb (recorder_refusal c lent (length g)) 0 free)
          (ap (λ (a : rule.Armed). taken_bytes a c s g b) armed_is
          ∙ ap (firing_bytes c s g b n) (none_fires d.none_fires)
          ∙ rw (le-ltb n n (omega arith)) (ap (λ (x : List ℕ). record { reply = going_on; recorder = waited_of r b; samples = s; ring = x }) (sym ring_is)))

      numbers : new ≡ pushed_numbers (waited_of r b) r
      numbers =
          d.numbers_are
          ∙ (λ i. sets r known_at (mark_flag (previous i) ∷ mark_place (previous i) ∷ place i ∷ kept i ∷ []))
          ∙ ap (λ (x : List ℕ). put x) (sym (ap (λ (x : List ℕ). sets x waits_at (waits_number c.armed ∷ [])) same_2 ∙ same_7))
        where
          previous : Some (sample_in p (p.n - 1)) ≡ rule.last_of c.previous (samples_of u b)
          previous = last_some (sample_in p) c.previous p.n some_samples ∙ ap (rule.last_of c.previous) samples_are

          place : ring_place_in r + p.n ≡ place_after (pre_in r) (ring_place_in r) (length (samples_of u b))
          place = place_ahead (pre_in r) (ring_place_in r) p.n (omega (arith, inside)) ahead ∙ ap (place_after (pre_in r) (ring_place_in r)) (sym count)

          kept : min (pre_in r) (kept_in r + p.n) ≡ min (pre_in r) (kept_in r + length (samples_of u b))
          kept = ap (λ (k : ℕ). min (pre_in r) (kept_in r + k)) (sym count)

          put : List ℕ → List ℕ
          put x =
              sets x known_at
              (mark_flag (rule.last_of c.previous (samples_of u b)) ∷ mark_place (rule.last_of c.previous (samples_of u b)) ∷ place_after (pre_in r) (ring_place_in r) (length (samples_of u b)) ∷ min (pre_in r) (kept_in r + length (samples_of u b)) ∷ [])

      went : ShortWent r lent g b new g'
      went = record { left_is = λ s. left_is c lent s g b ∙ past_rows s; numbers_are = numbers }

    pub short_is : (new g' : List ℕ) (t : Bool) → FewAfter t r g p new g' → ShortAfter t r lent g b new g'
    short_is new g' true d = went d
    short_is new g' false d = d
