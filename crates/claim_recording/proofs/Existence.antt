-- Recordings exist: start may give a fresh recorder whenever no row refuses, and on any record, memory and bytes there is something that push may answer and leave.
use mathlib.Core.Path.{◌≡◌, refl, sym, ap, ◌∙◌, subst⁻¹}
use mathlib.Core.Bool.{Bool, true, false, cond}
use mathlib.Core.List.{List, [], ◌∷◌}
use mathlib.Core.Logic.{inl, inr}
use Rattle.std.specs.Prelude.{Option, None, Some, Result, Ok, Err}
use Prim.Native.Nat.{ℕ, ◌+◌, ◌-◌}
use native.Mathlib.Omega.{arith}
use lib.Dec.{eqb}
use lib.ListN.{length}
use borrow.Author.Tests.{eq-eqb, ne_eqb}
use Rattle.rules.specs.Sample.{sample_of}
use Rattle.rules.specs.Trigger.{Armed, unarmed, waiting}
use Rattle.rules.specs.Selection.{Reply, refused, going_on, complete, reply_of}
use Rattle.rules.specs.Refusal.{Recorder, Lent, recorder_rows, room_row}
use Rattle.rules.specs.Answer.{unless, given}
use Rattle.rules.specs.Push.{Left, plan, push_refusal, pushed, left_of}
use Rattle.rules.specs.Start.{begun}
use Rattle.answer.specs.declared.Refusal.{Refusal}
use Rattle.answer.specs.declared.Refusal.TheVariants.{Record, Memory as Lacking, Full}
use Rattle.answer.proofs.Answered.{number_least}
use Rattle.claim_alike.proofs.Rows.{Told, first_told}
use Rattle.rebuild.specs.Rebuild.{level_after}
use Rattle.capture.specs.Record.{lent_of}
use Rattle.terms.specs.declared.Masks.{Masks}
use Rattle.feeder.specs.declared.Feeder.{Feeder}
use Rattle.feeder.specs.Record.{armed_as, recorder_of}
use Rattle.feeder_push.specs.declared.Pushed.{Pushed}
use Rattle.feeder_push.specs.declared.Pushed.TheVariants.{GoingOn, Complete}
use Rattle.feeder_push.specs.Push.{reply_as, feeder_in}
use Rattle.claim_captures.specs.Words.{levels}
use Rattle.claim_captures.proofs.Answers.{anywhere, somewhere, four_levels}
use Rattle.claim_recording.specs.Claim.{Memory, settings, MayPush, Pushing, Existence}
use Rattle.claim_recording.specs.Claim.Pushing.{stop, step}

-- ---- the code's record for each of 01's
abbrev masks_for : Armed → Option Masks
masks_for unarmed = None
masks_for (waiting m) = Some (record { high = m.high; low = m.low; rising = m.rising; falling = m.falling; edge = m.edge })

abbrev feeder_for : Recorder → Feeder
feeder_for c = record {
  capture = record { unitsize = c.store.unit; capacity = c.store.capacity; len = c.store.len; trigger = c.store.mark };
  limit = c.limit;
  pre = c.pre;
  masks = masks_for c.armed;
  prev = c.previous;
  place = c.place;
  kept = c.kept;
}

masks_are : (a : Armed) → armed_as (masks_for a) ≡ a
masks_are unarmed = refl
masks_are (waiting m) = refl

recorder_is : (c : Recorder) → recorder_of (feeder_for c) ≡ c
recorder_is c = λ i. record { store = c.store; limit = c.limit; pre = c.pre; armed = masks_are c.armed i; previous = c.previous; place = c.place; kept = c.kept }

-- and no other
masks_back : (x : Option Masks) → masks_for (armed_as x) ≡ x
masks_back None = refl
masks_back (Some m) = refl

feeder_back : (f : Feeder) → feeder_for (recorder_of f) ≡ f
feeder_back f = λ i. record { capture = f.capture; limit = f.limit; pre = f.pre; masks = masks_back f.masks i; prev = f.prev; place = f.place; kept = f.kept }

feeder_same : (f g : Feeder) → recorder_of f ≡ recorder_of g → f ≡ g
feeder_same f g e = sym (feeder_back f) ∙ ap feeder_for e ∙ feeder_back g

-- ---- the answer of a push that leaves f as the record g
module _ (f g : Feeder) where
  abbrev Answer : Reply → Type 0
  Answer x = (v : Result Pushed Refusal) × (reply_as v ≡ x) × (feeder_in f v ≡ g)

  taken : (a : Armed) (limit len : ℕ) → Answer (reply_of a limit len)
  taken (waiting m) limit len = (Ok (GoingOn g), refl, refl)
  taken unarmed limit len = go (eqb limit 0) (eqb len limit)
    where
      go : (x y : Bool) → Answer (cond x going_on (cond y complete going_on))
      go true y = (Ok (GoingOn g), refl, refl)
      go false true = (Ok (Complete g), refl, refl)
      go false false = (Ok (GoingOn g), refl, refl)

  -- a refusal is its row's, and leaves the record
  pub pushed_for : (lent : Lent) (s ring bytes : List ℕ) → recorder_of g ≡ (left_of (recorder_of f) lent s ring bytes).recorder
      → (v : Result Pushed Refusal) × (reply_as v ≡ (left_of (recorder_of f) lent s ring bytes).reply) × (feeder_in f v ≡ g)
  unfolding left_of
  pushed_for lent s ring bytes e =
      go (first_told (recorder_rows (recorder_of f) lent (length ring) (room_row (recorder_of f).store (plan (recorder_of f) ring bytes).count ∷ [])) ((Record, refl), ((Lacking, refl), ((Full, refl), tt))))
    where
      number : ℕ
      number = push_refusal (recorder_of f) lent ring bytes

      left : Bool → Left
      left t = cond t (pushed f.capture.len s (plan (recorder_of f) ring bytes)) (record { reply = refused number; recorder = recorder_of f; samples = s; ring = ring })

      go : Told number → Answer (left (eqb number 0)).reply
      go (inl z) =
          let same : left (eqb number 0) ≡ left true = ap left (eq-eqb number 0 z) in
          subst⁻¹ Answer (ap (λ (l : Left). l.reply) same) (taken (plan (recorder_of f) ring bytes).recorder.armed (plan (recorder_of f) ring bytes).recorder.limit (f.capture.len + (plan (recorder_of f) ring bytes).count))
      go (inr r) =
          let same : left (eqb number 0) ≡ left false = ap left (ne_eqb number 0 (λ z. omega (arith, number_least r.0, r.1, z))) in
          (Err r.0, ap refused r.1 ∙ ap (λ (l : Left). l.reply) (sym same), feeder_same f g (ap (λ (l : Left). l.recorder) (sym same) ∙ sym e))

-- ---- one push
module _ (f : Feeder) (m : Memory) (bytes : List ℕ) where
  abbrev left : Left
  left = left_of (recorder_of f) (lent_of m.store.samples (levels m.store)) m.store.samples m.ring bytes

  told : (v : Result Pushed Refusal) × (reply_as v ≡ left.reply) × (feeder_in f v ≡ feeder_for left.recorder)
  told = pushed_for f (feeder_for left.recorder) (lent_of m.store.samples (levels m.store)) m.store.samples m.ring bytes (recorder_is left.recorder)

  abbrev answer : Result Pushed Refusal
  answer = told.0

  abbrev level : ℕ → List ℕ
  level l = level_after (sample_of f.capture.unitsize left.samples) (levels m.store l) f.capture.len ((feeder_in f answer).capture.len - f.capture.len) l

  abbrev after : Memory
  after = record { store = record { samples = left.samples; l1 = level 1; l2 = level 2; l3 = level 3; l4 = level 4 }; ring = left.ring }

  may_push : MayPush f m bytes answer after
  may_push = (
    ([], ([], ([], ([], ([], ([], ([], tt))))))),
    somewhere,
    anywhere,
    anywhere,
    record {
      left_is = λ i. record { reply = told.1 i; recorder = (ap recorder_of told.2 ∙ recorder_is left.recorder) i; samples = left.samples; ring = left.ring };
      levels_are = four_levels level;
    },
  )

-- ---- a list
record Pushes (f : Feeder) (m : Memory) (pushes : List (List ℕ)) : Type 0 where
  replies : List Reply
  feeder : Feeder
  memory : Memory
  are : Pushing f m pushes replies feeder memory

pushes_for : (pushes : List (List ℕ)) (f : Feeder) (m : Memory) → Pushes f m pushes
pushes_for [] f m = record { replies = []; feeder = f; memory = m; are = stop }
pushes_for (b ∷ bs) f m =
    let rest = pushes_for bs (feeder_in f (answer f m b)) (after f m b) in
    record { replies = reply_as (answer f m b) ∷ rest.replies; feeder = rest.feeder; memory = rest.memory; are = step (may_push f m b) rest.are }

pub existence : Existence
existence g m ok pushes are = record {
  recording = record {
    setup = g;
    before = m;
    fresh = feeder_for (begun (settings g)).recorder;
    was_cut = (begun (settings g)).was_cut;
    started = ap given fresh_is ∙ sym (ap (λ (n : ℕ). unless n (begun (settings g))) ok);
    pushes = pushes;
    are_bytes = are;
    replies = done.replies;
    feeder = done.feeder;
    memory = done.memory;
    pushed = done.are;
  };
  setup_is = refl;
  before_is = refl;
  pushes_are = refl;
}
  where
    done : Pushes (feeder_for (begun (settings g)).recorder) m pushes
    done = pushes_for pushes (feeder_for (begun (settings g)).recorder) m

    fresh_is : record { recorder = recorder_of (feeder_for (begun (settings g)).recorder); was_cut = (begun (settings g)).was_cut } ≡ begun (settings g)
    fresh_is = λ i. record { recorder = recorder_is (begun (settings g)).recorder i; was_cut = (begun (settings g)).was_cut }
