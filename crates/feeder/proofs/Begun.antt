-- A recorder's start: each of its answers is the definition's; over a list of terms the definition is 01's; and a fresh recorder is within the bounds that a push asks.
use mathlib.Core.Path.{◌≡◌, refl, sym, ap, ◌∙◌, subst}
use mathlib.Core.Bool.{Bool, true, false, cond, or-true}
use mathlib.Core.Logic.{◌⊎◌, inl, inr}
use mathlib.Core.List.{List, [], ◌∷◌}
use Rattle.std.specs.Prelude.{None, Ok}
use Prim.Native.Nat.{ℕ, zero, suc, ◌*◌, ◌≤◌, ◌<◌}
use native.Mathlib.Omega.{arith}
use lib.Dec.{ltb, leb}
use borrow.Author.Tests.{ltb-false, lt-ltb, le-ltb, leb-false, le-leb, lt-leb}
use Rattle.rules.specs.Start.{Begun, begun, start_rule}
use Rattle.rules.specs.Sample.{unit_of}
use Rattle.rules.specs.Pretrigger as rule
use Rattle.rules.specs.Trigger as trigger
use Rattle.rules.specs.Selection.{Settings, pre_of}
use Rattle.rules.specs.Refusal.{Store, Lent, Row, first_of, store_refusal, fresh, ring_need, wish_wrong, number_wrong, start_refusal, start_rows, settings_rows, pre_row}
use Rattle.rules.specs.Answer.{refused, given, unless}
use Rattle.rules.proofs.Refusal.{neither, SoundRecorder}
use Rattle.answer.specs.declared.Refusal.{Refusal}
use Rattle.answer.specs.Answered.{number}
use Rattle.answer.proofs.Answered.{number_least, stops}
use Rattle.capture.proofs.Answer.{unless_given, stopped, rows_refuse}
use Rattle.terms.specs.declared.Terms.{Terms}
use Rattle.terms.specs.declared.TriggerTerm.{TriggerTerm}
use Rattle.terms.specs.Terms.{terms_of, armed_by}
use Rattle.terms.proofs.Fold.{terms_wrong, terms_armed}
use Rattle.feeder.specs.declared.Pretrigger.{Pretrigger}
use Rattle.feeder.specs.declared.Fresh.{Fresh}
use Rattle.feeder.specs.Record.{wish_of, recorder_of}
use Rattle.feeder.specs.Start.{fresh_of, begun_of, started_of, answer_of, start_of, settings_of, Workable}
use Rattle.feeder.proofs.Rows.{Numbered, all_passed, rows_then, store_passed}

-- ---- refusals as answers
-- where a row holds, the record does not matter
unless_same : (n : ℕ) (a b : Begun) → (n ≡ 0 → a ≡ b) → unless n a ≡ unless n b
unless_same zero a b h = ap given (h refl)
unless_same (suc n) a b h = refl

-- ---- rows 1 to 6: 1 or 2 comes before the others
pub settings_shut : (st : Store) (lent : Lent) (limit : ℕ) (wrong : Bool) (wish : rule.Pretrigger) (rate : ℕ) (r : Refusal) → number r ≡ store_refusal st lent → number r ≡ first_of (settings_rows st lent limit wrong wish rate [])
settings_shut st lent limit wrong wish rate r e = rows_refuse st lent four e (λ z. omega (arith, number_least r))
  where
    four : List Row
    four =
        record { number = 3; holds = wrong }
        ∷ record { number = 4; holds = ltb st.capacity limit }
        ∷ record { number = 5; holds = wish_wrong wish limit }
        ∷ record { number = 6; holds = number_wrong wish rate }
        ∷ []

-- ---- the call; st is its store, as the code makes it
module _ (channels capacity limit : ℕ) (terms : Terms) (wish : Pretrigger) (rate : ℕ) (lent : Lent) (ring : ℕ) {st : Store} (is : st ≡ fresh channels capacity) where
  abbrev rows : List Row
  rows = settings_rows st lent limit terms.wrong (wish_of wish) rate []

  start_is : (k : rule.Pre) → k ≡ rule.pre_for (wish_of wish) limit rate st.unit → answer_of st lent limit terms (wish_of wish) rate k ring ≡ start_of channels capacity limit terms wish rate lent ring
  unfolding start_of
  start_is k e =
      ap (λ (x : rule.Pre). answer_of st lent limit terms (wish_of wish) rate x ring) e
      ∙ ap (λ (s : Store). answer_of s lent limit terms (wish_of wish) rate (rule.pre_for (wish_of wish) limit rate s.unit) ring) is

  numbered : Numbered rows
  numbered = (omega arith, (omega arith, (omega arith, (omega arith, (omega arith, (omega arith, tt))))))

  -- one of the rows 1 to 6
  pub start_stops : (r : Refusal) → number r ≡ first_of rows → refused (number r) ≡ start_of channels capacity limit terms wish rate lent ring
  start_stops r told =
      let kept = rule.pre_for (wish_of wish) limit rate st.unit in
      let least = number_least r in
      stops r _ (fresh_of st.unit st.capacity limit (armed_by terms) kept) (told ∙ sym (stopped rows (pre_row st kept.samples ring ∷ []) (λ z. omega (arith, told ∙ z))))
      ∙ start_is kept refl

  module _ (none_holds : 0 ≡ first_of rows) where
    pub workable : Workable (wish_of wish) limit rate st.unit
    workable =
        let passed = all_passed rows numbered (sym none_holds) in
        let sound = (store_passed st lent passed.0 passed.1.0).0 in
        let l = ltb-false st.capacity limit passed.1.1.1.0 in
        record { limit_most = omega (arith, sound.capacity_most); number = passed.1.1.1.1.1.0; unit_least = sound.unit_size.least }

    module _ {k : rule.Pre} (kept : k ≡ rule.pre_for (wish_of wish) limit rate st.unit) where
      by : (b : Bool) → (pre_row st k.samples ring).holds ≡ b → unless (cond b 7 0) (fresh_of st.unit st.capacity limit (armed_by terms) k) ≡ start_of channels capacity limit terms wish rate lent ring
      by b e =
          ap (λ (x : ℕ). unless x (fresh_of st.unit st.capacity limit (armed_by terms) k))
          (ap (λ (x : Bool). cond {A = ℕ} x 7 0) (sym e) ∙ sym (rows_then rows (pre_row st k.samples ring ∷ []) numbered (sym none_holds)))
          ∙ start_is k kept

      -- row 7
      pub no_room : (st.capacity ≤ k.samples) ⊎ (ring < k.samples * st.unit) → refused 7 ≡ start_of channels capacity limit terms wish rate lent ring
      no_room (inl h) = by true (rw (le-leb st.capacity k.samples h))
      no_room (inr h) = by true (rw (lt-ltb ring (k.samples * st.unit) h) (or-true (leb st.capacity k.samples)))

      abbrev begun_with : Store → trigger.Armed → Begun
      begun_with s a = record {
        recorder = record { store = s; limit = limit; pre = k.samples; armed = a; previous = None; place = 0; kept = 0 };
        was_cut = k.was_cut;
      }

      pub accepted : k.samples < st.capacity → k.samples * st.unit ≤ ring → (a : trigger.Armed) → a ≡ armed_by terms → given (begun_with st a) ≡ start_of channels capacity limit terms wish rate lent ring
      accepted h g a e =
          ap (λ (s : Store). given (begun_with s a)) is
          ∙ sym (ap (λ (s : Store). given (fresh_of s.unit s.capacity limit a k)) is)
          ∙ ap (λ (x : trigger.Armed). given (fresh_of st.unit st.capacity limit x k)) e
          ∙ by false (rw (lt-leb st.capacity k.samples h, le-ltb ring (k.samples * st.unit) g))

-- ---- over a list of terms, start is 01's
seven : (st : Settings) (lent : Lent) (ring : ℕ) → Numbered (start_rows st lent ring)
seven st lent ring = (omega arith, (omega arith, (omega arith, (omega arith, (omega arith, (omega arith, (omega arith, tt)))))))

module _ (channels capacity limit : ℕ) (list : List TriggerTerm) (wish : Pretrigger) (rate : ℕ) (lent : Lent) (ring : ℕ) where
  abbrev st : Settings
  st = settings_of channels capacity limit list wish rate

  abbrev made : trigger.Armed → Begun
  made armed = fresh_of (unit_of channels) capacity limit armed (rule.pre_for (wish_of wish) limit rate (unit_of channels))

  armed_same : start_refusal st lent ring ≡ 0 → made (armed_by (terms_of list)) ≡ begun st
  armed_same e = ap made (terms_armed list (all_passed (start_rows st lent ring) (seven st lent ring) e).1.1.0)

  pub start_rule_lem : start_of channels capacity limit (terms_of list) wish rate lent ring ≡ start_rule st lent ring
  unfolding start_of
  start_rule_lem =
      ap (λ (w : Bool). unless (first_of (settings_rows (fresh channels capacity) lent limit w (wish_of wish) rate (pre_row (fresh channels capacity) (pre_of st) ring ∷ []))) (made (armed_by (terms_of list)))) (terms_wrong list)
      ∙ unless_same (start_refusal st lent ring) (made (armed_by (terms_of list))) (begun st) armed_same

-- ---- a fresh recorder
-- where start refuses nothing, its record and the lent memory are within the bounds that a push asks
pub begun_sound : (st : Settings) (lent : Lent) (ring : ℕ) → start_refusal st lent ring ≡ 0 → SoundRecorder (begun st).recorder lent ring
begun_sound st lent ring e =
    let t = all_passed (start_rows st lent ring) (seven st lent ring) e in
    let p = store_passed (fresh st.channels st.capacity) lent t.0 t.1.0 in
    let t7 = (neither (leb st.capacity (pre_of st)) (ltb ring (ring_need (pre_of st) (unit_of st.channels)))).0 t.1.1.1.1.1.1.0 in
    record {
      store = p.0;
      mark = p.1;
      limit_most = ltb-false st.capacity st.limit t.1.1.1.0;
      pre_most = leb-false st.capacity (pre_of st) t7.0;
      kept_most = omega arith;
      place_inside = omega arith;
      len_limit = λ h. omega arith;
      ring = ltb-false ring (ring_need (pre_of st) (unit_of st.channels)) t7.1;
    }

-- the record that the call gives
pub fresh_sound : (st : Settings) (lent : Lent) (ring : ℕ) (x : Fresh) → started_of (Ok x) ≡ start_rule st lent ring → SoundRecorder (recorder_of x.feeder) lent ring
fresh_sound st lent ring x e =
    let t = unless_given (begun st) (start_refusal st lent ring) (begun_of x) (sym e) in
    subst (λ (b : Begun). SoundRecorder b.recorder lent ring) t.1 (begun_sound st lent ring t.0)
