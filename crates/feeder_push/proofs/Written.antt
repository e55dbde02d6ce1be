-- What a push leaves in the store, over its contract's equations: what it was, with new samples behind it, and what the nodes that are written depend on.
use Prim.Native.Nat.{ℕ, ◌+◌, ◌-◌, ◌*◌, ◌/◌, ◌≤◌, ◌<◌}
use mathlib.Core.Path.{◌≡◌, refl, sym, ap, ◌∙◌, subst, subst⁻¹}
use mathlib.Core.Bool.{Bool, cond}
use mathlib.Core.List.{List}
use native.Mathlib.Decide.{ℕ_discrete}
use native.Mathlib.Omega.{arith}
use lib.ListN.{length}
use Rattle.std.specs.Prelude.{Result}
use borrow.Author.Tests.{eq-eqb, ne_eqb}
use Rattle.rules.specs.Push.{Left}
use Rattle.rules.specs.Refusal.{recorder_refusal}
use Rattle.rules.specs.Node.{span, top_level}
use Rattle.rules.specs.Sample.{sample_of}
use Rattle.rules.specs.Selection.{refused}
use Rattle.rules.proofs.Refusal.{SoundRecorder}
use Rattle.feeder_lists.specs.Push.{push_bytes, left_by}
use Rattle.feeder_lists.proofs.Left.{left_is}
use Rattle.feeder_lists.proofs.Push.{sound_ready}
use Rattle.feeder_lists.proofs.Grows.{Grows, push_grows}
use Rattle.node.specs.Memory.{node_in, Right, RightAt}
use Rattle.rebuild.specs.Rebuild.{level_after}
use Rattle.rebuild.specs.Room.{Roomy}
use Rattle.rebuild.proofs.Right.{length_after, after_right}
use Rattle.store.proofs.Fits.{sound_room}
use Rattle.store.proofs.Written.{SameNew, written_alike}
use Rattle.capture.specs.Record.{store_of, lent_of}
use Rattle.feeder.specs.declared.Feeder.{Feeder}
use Rattle.feeder.specs.Record.{recorder_of}
use Rattle.feeder.proofs.Rows.{recorder_sound, sound_recorder}
use Rattle.answer.specs.declared.Refusal.{Refusal}
use Rattle.feeder_push.specs.declared.Pushed.{Pushed}
use Rattle.feeder_push.specs.Push.{reply_as, feeder_in, Pushes}

-- one push
module _ {f : Feeder} {b s : List ℕ} {lv : ℕ → List ℕ} {g : List ℕ} {v : Result Pushed Refusal} {s' : List ℕ} {lv' : ℕ → List ℕ} {g' : List ℕ} (fit : Pushes f b s lv g v s' lv' g') where
  -- how many samples join the stored ones
  abbrev pub joined : ℕ
  joined = (feeder_in f v).capture.len - f.capture.len

  abbrev after : Left
  after = record { reply = reply_as v; recorder = recorder_of (feeder_in f v); samples = s'; ring = g' }

  abbrev number : ℕ
  number = recorder_refusal (recorder_of f) (lent_of s lv) (length g)

  abbrev left_by_lem : Bool → Left
  left_by_lem t = cond t (push_bytes (recorder_of f) s g b) (record { reply = refused number; recorder = recorder_of f; samples = s; ring = g })

  -- ---- where rows 1 and 2 refuse nothing
  module _ (sound : SoundRecorder (recorder_of f) (lent_of s lv) (length g)) where
    pub one_push : after ≡ push_bytes (recorder_of f) s g b
    unfolding left_by
    one_push = fit.left_is ∙ left_is (recorder_of f) (lent_of s lv) s g b ∙ ap left_by_lem (eq-eqb number 0 (sound_recorder (recorder_of f) (lent_of s lv) (length g) sound))

    pub grows : Grows (recorder_of f) (recorder_of (feeder_in f v)) s s'
    grows = subst⁻¹ (λ (x : Left). Grows (recorder_of f) x.recorder s x.samples) one_push (push_grows (recorder_of f) s g b (sound_ready (recorder_of f) (lent_of s lv) s g refl sound))

    end_is : f.capture.len + joined ≡ (feeder_in f v).capture.len
    end_is = omega (arith, grows.len)

    nodes_room : Roomy (f.capture.len + joined) lv
    nodes_room = (sound_room (store_of f.capture) s lv joined sound.store (omega (arith, end_is, grows.room))).nodes

  -- ---- whether they do or not
  same_len : (number ≡ 0 → ⊥) → (feeder_in f v).capture.len ≡ f.capture.len
  unfolding left_by
  same_len z = ap (λ (x : Left). x.recorder.store.len) (fit.left_is ∙ left_is (recorder_of f) (lent_of s lv) s g b ∙ ap left_by_lem (ne_eqb number 0 z))

  accepted : number ≡ 0 → SoundRecorder (recorder_of f) (lent_of s lv) (length g)
  accepted = recorder_sound (recorder_of f) (lent_of s lv) (length g)

  pub end_of : f.capture.len + joined ≡ (feeder_in f v).capture.len
  end_of = pick (ℕ_discrete number 0)
    where
      pick : Dec (number ≡ 0) → f.capture.len + joined ≡ (feeder_in f v).capture.len
      pick (yes e) = end_is (accepted e)
      pick (no e) = omega (arith, same_len e)

  pub has_room : (joined ≡ 0 → ⊥) → Roomy (f.capture.len + joined) lv
  has_room some = pick (ℕ_discrete number 0)
    where
      pick : Dec (number ≡ 0) → Roomy (f.capture.len + joined) lv
      pick (yes e) = nodes_room (accepted e)
      pick (no e) = absurd (some (omega (arith, same_len e)))

  pub level_lengths : (l : ℕ) → 1 ≤ l → l ≤ top_level → length (lv' l) ≡ length (lv l)
  level_lengths l p q = ap length (fit.levels_are l p q) ∙ length_after (sample_of f.capture.unitsize s') (lv l) f.capture.len joined l

  -- right levels stay right
  pub right_stays : SoundRecorder (recorder_of f) (lent_of s lv) (length g) → Right (sample_of f.capture.unitsize s) f.capture.len lv
      → Right (sample_of (feeder_in f v).capture.unitsize s') (feeder_in f v).capture.len lv'
  right_stays sound right l p q =
      subst⁻¹ (λ (x : List ℕ). RightAt (sample_of (feeder_in f v).capture.unitsize s') (feeder_in f v).capture.len (λ _. x) l) (fit.levels_are l p q)
      (subst⁻¹ (λ (u : ℕ). RightAt (sample_of u s') (feeder_in f v).capture.len made l) (grows sound).unit
      (subst (λ (k : ℕ). RightAt (sample_of f.capture.unitsize s') k made l) end_of
      (after_right (sample_of f.capture.unitsize s) (sample_of f.capture.unitsize s') lv f.capture.len joined (λ _. nodes_room sound) (λ i h. sym ((grows sound).old i h)) right l p q)))
    where
      made : ℕ → List ℕ
      made k = level_after (sample_of f.capture.unitsize s') (lv k) f.capture.len joined k

-- ---- what the written nodes depend on
-- 02, CR 2: "over any lent memory the first-level nodes that append or push writes depend on len, that node and the samples it now stores, and on none stored before".
-- It holds of every level. Two pushes on any two recorders and memories, of the same len, whose unfinished nodes of a level and new samples are the same: each node of that level that covers
-- a new sample is the same after them.
module _ {f : Feeder} {b s : List ℕ} {lv : ℕ → List ℕ} {g : List ℕ} {v : Result Pushed Refusal} {s' : List ℕ} {lv' : ℕ → List ℕ} {g' : List ℕ} (one : Pushes f b s lv g v s' lv' g')
    {h : Feeder} {c t : List ℕ} {kv : ℕ → List ℕ} {r : List ℕ} {w : Result Pushed Refusal} {t' : List ℕ} {kv' : ℕ → List ℕ} {r' : List ℕ} (two : Pushes h c t kv r w t' kv' r')
    (same_start : f.capture.len ≡ h.capture.len) (same_count : joined one ≡ joined two) (l : ℕ) (low : 1 ≤ l) (high : l ≤ top_level)
    (same : SameNew f.capture.len (joined one) l (lv l) (kv l) (sample_of f.capture.unitsize s') (sample_of h.capture.unitsize t')) where
  pub new_alone : (j : ℕ) → f.capture.len / span l ≤ j → j * span l < f.capture.len + joined one → node_in (lv' l) j ≡ node_in (kv' l) j
  new_alone =
      written_alike f.capture.len (joined one) l (sample_of f.capture.unitsize s') (sample_of h.capture.unitsize t') (lv l) (kv l) same (λ z j k. has_room one z l j low high k)
      (λ z j k. has_room two (λ e. z (same_count ∙ e)) l j low high (omega (arith, same_start, same_count)))
      h.capture.len (joined two) same_start same_count (lv' l) (kv' l) (one.levels_are l low high) (two.levels_are l low high)
