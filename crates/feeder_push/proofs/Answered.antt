-- Each way through a push is a case of the contract: rows 1 and 2, an unarmed recorder, one that fires, one that waits.
use mathlib.Core.Path.{◌≡◌, refl, sym, ap, ◌∙◌, subst, subst₂}
use mathlib.Core.List.{List, ◌++◌}
use Prim.Native.Nat.{ℕ, ◌+◌, ◌-◌, ◌*◌, ◌≤◌, ◌<◌}
use Rattle.std.specs.Prelude.{Option, None, Some, Result, Ok, Err}
use native.Mathlib.Nat.{zero-mul, zero-min, sub_self, zero-sub}
use native.Mathlib.Omega.{arith}
use borrow.Author.Tests.{eq-eqb, ne_eqb, lt-ltb, le-ltb}
use lib.ListN.{length, drop}
use Rattle.rules.specs.Ring.{kept_bytes, ring_bytes}
use Rattle.rules.specs.Push.{fired_by, waited_for, wanted, passed, left_of}
use Rattle.rules.specs.Sample.{sample_of, sample_count}
use Rattle.rules.specs.Trigger.{first_fire}
use Rattle.rules.specs.Selection.{refused, going_on}
use Rattle.rules.specs.Refusal.{Recorder, Lent, recorder_refusal}
use Rattle.rules.proofs.Refusal.{SoundRecorder}
use Rattle.answer.specs.Answered.{number}
use Rattle.answer.specs.declared.Refusal.{Refusal}
use Rattle.answer.proofs.Answered.{number_least}
use Rattle.store.specs.Stored.{LevelsAfter}
use Rattle.store.proofs.Levels.{levels_none}
use Rattle.store.proofs.Fits.{sound_room}
use Rattle.terms.specs.declared.Masks.{Masks}
use Rattle.terms.specs.Terms.{as_masks}
use Rattle.feeder_scan.specs.declared.samples.Samples.{Samples}
use Rattle.feeder_ring.specs.Room.{RingRoom}
use Rattle.feeder_run.specs.Run.{RunRoom, Takes}
use Rattle.feeder_lists.specs.Bytes.{units}
use Rattle.feeder_lists.specs.Push.{store_bytes, firing_bytes, taken_bytes, push_bytes, left_by}
use Rattle.feeder_lists.proofs.Left.{left_is}
use Rattle.node.specs.declared.Memory.{Memory}
use Rattle.capture.specs.Record.{lent_of, lent_in}
use Rattle.feeder.specs.declared.Feeder.{Feeder}
use Rattle.feeder.specs.Record.{armed_as, recorder_of}
use Rattle.feeder.proofs.Rows.{recorder_sound}
use Rattle.feeder_push.specs.declared.Pushed.{Pushed}
use Rattle.feeder_push.specs.declared.Pushed.TheVariants.{GoingOn}
use Rattle.feeder_push.specs.Push.{Pushes}
use Rattle.feeder_push.specs.Inner.{Answers, Stores}
use Rattle.feeder_push.proofs.Left.{stores_is}

-- of the ring nothing, and all of the push
nothing_kept : (u pre : ℕ) (g : List ℕ) (place : ℕ) (b : List ℕ) → kept_bytes u pre g place 0 ++ drop (0 * u) b ≡ b
nothing_kept u pre g place b = rw (zero-sub place, zero-mul u, zero-min place, zero-mul u) refl

-- what rows 1 and 2 say of memory, known to be this
pub rows_of : (f : Feeder) (g : List ℕ) {n : ℕ} {m m' : Memory} → n ≡ recorder_refusal (recorder_of f) (lent_in m) (length g) → m ≡ m' → n ≡ recorder_refusal (recorder_of f) (lent_in m') (length g)
rows_of f g e p = e ∙ ap (λ (m : Memory). recorder_refusal (recorder_of f) (lent_in m) (length g)) p

module _ (f : Feeder) (s : List ℕ) (lv : ℕ → List ℕ) (g b : List ℕ) where
  abbrev c : Recorder
  c = recorder_of f

  abbrev lent : Lent
  lent = lent_of s lv

  abbrev u : ℕ
  u = f.capture.unitsize

  abbrev n : ℕ
  n = sample_count u b

  -- no sample went to the store: no level changed
  levels_stay : LevelsAfter u f.capture.len (f.capture.len - f.capture.len) s lv lv
  levels_stay = levels_none u f.capture.len (f.capture.len - f.capture.len) s lv (sub_self f.capture.len)

  -- rows 1 and 2
  pub pushed_refused : (r : Refusal) → number r ≡ recorder_refusal c lent (length g) → Pushes f b s lv g (Err r) s lv g
  unfolding left_by
  pushed_refused r e = record {
    left_is =
        sym
        (left_is c lent s g b
        ∙ rw (ne_eqb (recorder_refusal c lent (length g)) 0 (λ y. omega (arith, number_least r, e ∙ y))) (ap (λ (x : ℕ). record { reply = refused x; recorder = c; samples = s; ring = g }) (sym e)));
    levels_are = levels_stay;
  }

  -- past rows 1 and 2
  module _ (free : 0 ≡ recorder_refusal c lent (length g)) where
    sound : SoundRecorder c lent (length g)
    sound = recorder_sound c lent (length g) (sym free)

    pub run_room : (p : Samples) → p.unitsize ≡ u → RunRoom f p (length s) lv (length g)
    run_room p e = record {
      unit_is = e;
      room = sound_room c.store s lv (c.store.capacity - c.store.len) sound.store (omega (arith, sound.store.len_most));
      within = record { len_most = sound.store.len_most; limit_most = sound.limit_most; len_limit = sound.len_limit };
      ring = sound.ring;
      place_inside = sound.place_inside;
    }

    pub ring_room : RingRoom u f.pre f.place (length g)
    ring_room = record { place_in = sound.place_inside; slots = sound.ring }

    pushed_is : left_of c lent s g b ≡ push_bytes c s g b
    unfolding left_by
    pushed_is = left_is c lent s g b ∙ rw (eq-eqb (recorder_refusal c lent (length g)) 0 (sym free))

    -- ---- unarmed: nothing of the ring, and all of the push
    pub pushed_unarmed : f.masks ≡ None → {t : Option ℕ} {s' : List ℕ} (lv' : ℕ → List ℕ)
        → Takes f (0 + (n - 0)) (kept_bytes u f.pre g f.place 0 ++ drop (0 * u) b) s lv t s' lv' → {r : Result Pushed Refusal} → Answers c t r → Pushes f b s lv g r s' lv' g
    unfolding push_bytes
    pushed_unarmed is {t} {s'} lv' d {r} a = record {
      left_is = stored.left_is g ∙ sym (pushed_is ∙ unarmed_is);
      levels_are = stored.levels_are;
    }
      where
        unarmed_is : push_bytes c s g b ≡ store_bytes c c s g n b
        unarmed_is = ap (λ (m : Option Masks). taken_bytes (armed_as m) c s g b) is

        all : 0 + (n - 0) ≡ n
        all = omega arith

        stored : Stores f c n b s lv r s' lv'
        stored =
            stores_is f c.store.mark (ap armed_as is) c.previous c.place c.kept n b s lv r s' lv' t
            (subst₂ (λ (k : ℕ) (x : List ℕ). Takes f k x s lv t s' lv') all (nothing_kept u f.pre g f.place b) d) a

    -- ---- armed; i is the first sample that fires
    module _ {m : Masks} (is : f.masks ≡ Some m) {i : ℕ} (first : i ≡ first_fire (as_masks m) f.prev (units u n b)) where
      armed_is : push_bytes c s g b ≡ firing_bytes c s g b n i
      unfolding push_bytes
      armed_is = ap (λ (x : Option Masks). taken_bytes (armed_as x) c s g b) is ∙ ap (firing_bytes c s g b n) (sym first)

      pub pushed_fired : i < n → {s' : List ℕ} (lv' : ℕ → List ℕ) {r : Result Pushed Refusal}
          → Stores f (fired_by c (sample_of u b i) i) (wanted c i + (n - passed c i)) (kept_bytes u f.pre g f.place (wanted c i) ++ drop (passed c i * u) b) s lv r s' lv' → Pushes f b s lv g r s' lv' g
      pushed_fired h lv' d = record {
        left_is = d.left_is g ∙ sym (pushed_is ∙ armed_is ∙ rw (lt-ltb i n h));
        levels_are = d.levels_are;
      }

      pub pushed_waited : n ≤ i → {w : Feeder} {g' : List ℕ} → recorder_of w ≡ waited_for c (units u n b) → g' ≡ ring_bytes u c.pre g c.place n b → Pushes f b s lv g (Ok (GoingOn w)) s lv g'
      pushed_waited h er eg = record {
        left_is = (λ j. record { reply = going_on; recorder = er j; samples = s; ring = eg j }) ∙ sym (pushed_is ∙ armed_is ∙ rw (le-ltb i n h));
        levels_are = subst (λ (k : ℕ). LevelsAfter u f.capture.len (k - f.capture.len) s lv lv) (sym (ap (λ (x : Recorder). x.store.len) er)) levels_stay;
      }
