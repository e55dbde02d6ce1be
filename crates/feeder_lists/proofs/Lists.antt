-- Lists of pushes over a record and its memory: from what start gives, with memory that holds anything, they leave 01's run, mark and answers, and never meet rows 1 and 2.
use mathlib.Core.Path.{◌≡◌, refl, sym, ap, ap₂, ◌∙◌, subst⁻¹}
use mathlib.Core.List.{List, [], ◌∷◌}
use Rattle.std.specs.Prelude.{None}
use Rattle.rules.proofs.Options.{none-ne-some}
use Prim.Native.Nat.{ℕ, ◌*◌, ◌≤◌, ◌<◌}
use native.Mathlib.Omega.{arith}
use lib.ListN.{length}
use Rattle.rules.specs.Push.{Left}
use Rattle.rules.specs.Start.{fresh_recorder}
use Rattle.rules.specs.Sample.{UnitSize, samples_of}
use Rattle.rules.specs.Selection.{Settings, rule_of, Rule, accepted, run_of, mark_of, Reply, replies_of}
use Rattle.rules.specs.Refusal.{start_refusal, Lent}
use Rattle.rules.proofs.Selection.{run_limit, mark_in_run}
use Rattle.rules.proofs.Start.{SoundStart, start_passed, pre_below}
use Rattle.rules.proofs.Refusal.{Sound, SoundRecorder}
use Rattle.feeder_lists.specs.Bytes.{units}
use Rattle.feeder_lists.specs.Step.{State, Done, step, steps, replies, fresh}
use Rattle.feeder_lists.specs.Push.{push_on, pushes_bytes, replies_bytes, started_with}
use Rattle.feeder_lists.proofs.Bytes.{units_length, units_none}
use Rattle.feeder_lists.proofs.Selects.{Holds, all_hold, fresh_holds, Selects, selects}
use Rattle.feeder_lists.proofs.Push.{rule_in, stands_in, carried, push_carried, step_rule, GoesOn, push_goes}

module _ (r : Rule) (a z : ℕ) where
  one_carried : (l : Left) (b : List ℕ) → GoesOn r a z l → carried (push_on l b) ≡ step r (stands_in l) (samples_of r.unit b)
  one_carried l b ok =
      push_carried l.recorder l.samples l.ring b ok.ready
      ∙ step_rule (rule_in l.recorder) r (stands_in l) (samples_of l.recorder.store.unit b) ok.capacity ok.limit ok.pre
      ∙ ap (λ (u : ℕ). step r (stands_in l) (samples_of u b)) ok.unit

  one_goes : (l : Left) (b : List ℕ) → GoesOn r a z l → GoesOn r a z (push_on l b)
  one_goes l b ok = push_goes r a z l.recorder l.samples l.ring b ok

  pub all_go : (pushes : List (List ℕ)) (l : Left) → GoesOn r a z l → GoesOn r a z (pushes_bytes l pushes)
  unfolding pushes_bytes
  all_go [] l ok = ok
  all_go (b ∷ bs) l ok = all_go bs (push_on l b) (one_goes l b ok)

  pushes_carried : (pushes : List (List ℕ)) (l : Left) → GoesOn r a z l → stands_in (pushes_bytes l pushes) ≡ steps r (stands_in l) pushes
  unfolding pushes_bytes steps
  pushes_carried [] l ok = refl
  pushes_carried (b ∷ bs) l ok = pushes_carried bs (push_on l b) (one_goes l b ok) ∙ ap (λ (d : Done). steps r d.state bs) (one_carried l b ok)

  replies_carried : (pushes : List (List ℕ)) (l : Left) → GoesOn r a z l → replies_bytes l pushes ≡ replies r (stands_in l) pushes
  unfolding replies_bytes replies
  replies_carried [] l ok = refl
  replies_carried (b ∷ bs) l ok =
      ap₂ (λ (x : Reply) (more : List Reply). x ∷ more)
      (ap (λ (d : Done). d.reply) (one_carried l b ok))
      (replies_carried bs (push_on l b) (one_goes l b ok) ∙ ap (λ (d : Done). replies r d.state bs) (one_carried l b ok))

-- ---- the claim
pub record Recorded (r : Rule) (pushes : List (List ℕ)) (l : Left) (said : List Reply) : Type 0 where
  pub samples : units r.unit l.recorder.store.len l.samples ≡ run_of r pushes
  pub len : l.recorder.store.len ≡ length (run_of r pushes)
  pub mark : l.recorder.store.mark ≡ mark_of r pushes
  pub replies : said ≡ replies_of r pushes

module _ (r : Rule) (s g : List ℕ) (hs : r.capacity * r.unit ≤ length s) (hg : r.pre * r.unit ≤ length g) where
  pub start_goes : GoesOn r (length s) (length g) (started_with r s g)
  start_goes = record {
    unit = refl;
    capacity = refl;
    limit = refl;
    pre = refl;
    samples_length = refl;
    ring_length = refl;
    ready = record { len = omega arith; samples = hs; place = omega arith; kept = omega arith; ring = hg };
  }

  -- the ring's samples at the start
  abbrev memory : List ℕ
  memory = units r.unit r.pre g

  abbrev last : List (List ℕ) → Left
  last pushes = pushes_bytes (started_with r s g) pushes

  from_fresh : stands_in (started_with r s g) ≡ fresh r memory
  from_fresh = ap (λ (y : List ℕ). record { armed = r.armed; previous = None; ring = memory; place = 0; kept = 0; stored = y; mark = None }) (units_none r.unit s)

  carry : (pushes : List (List ℕ)) → stands_in (last pushes) ≡ steps r (fresh r memory) pushes
  carry pushes = pushes_carried r (length s) (length g) pushes (started_with r s g) start_goes ∙ ap (λ (x : State). steps r x pushes) from_fresh

  enough : r.pre ≤ length memory
  enough = rw units_length (omega arith)

  -- the record and the ring stand as the invariant says of the accepted samples
  pub held : (pushes : List (List ℕ)) → Holds r memory (accepted r pushes) (stands_in (last pushes))
  held pushes = subst⁻¹ (λ (x : State). Holds r memory (accepted r pushes) x) (carry pushes) (all_hold r memory enough pushes [] (fresh r memory) (fresh_holds r memory))

  pub recorded : (pushes : List (List ℕ)) → Recorded r pushes (last pushes) (replies_bytes (started_with r s g) pushes)
  recorded pushes = record {
    samples = run_is;
    len = sym (units_length r.unit _ _) ∙ ap length run_is;
    mark = ap (λ (x : State). x.mark) (carry pushes) ∙ done.mark;
    replies = replies_carried r (length s) (length g) pushes (started_with r s g) start_goes ∙ ap (λ (x : State). replies r x pushes) from_fresh ∙ done.replies;
  }
    where
      done : Selects r pushes (steps r (fresh r memory) pushes) (replies r (fresh r memory) pushes)
      done = selects r memory enough pushes

      run_is : units r.unit (last pushes).recorder.store.len (last pushes).samples ≡ run_of r pushes
      run_is =
          ap (λ (u : ℕ). units u (last pushes).recorder.store.len (last pushes).samples) (sym (all_go r (length s) (length g) pushes (started_with r s g) start_goes).unit)
          ∙ ap (λ (x : State). x.stored) (carry pushes)
          ∙ done.run

-- ---- rows 1 and 2 again
-- the bounds that the record and the memory had at the start hold after any list; pre is below a limit, so that the mark stays inside the run
pub list_sound : (r : Rule) (s g : List ℕ) (lent : Lent) → lent.samples ≡ length s → SoundRecorder (fresh_recorder r) lent (length g) → (0 < r.limit → r.pre < r.limit)
    → (pushes : List (List ℕ)) → SoundRecorder (pushes_bytes (started_with r s g) pushes).recorder lent (length (pushes_bytes (started_with r s g) pushes).ring)
list_sound r s g lent e start below pushes = record {
  store = store_sound;
  mark = λ k q. omega (arith, made.len, mark_in_run r (accepted r pushes) below k (sym made.mark ∙ q));
  limit_most = omega (arith, ok, start.limit_most);
  pre_most = omega (arith, ok, start.pre_most);
  kept_most = ok.ready.kept;
  place_inside = ok.ready.place;
  len_limit = λ h. omega (arith, ok.limit, made.len, run_limit r (accepted r pushes) (omega (arith, ok.limit)));
  ring = ok.ready.ring;
}
  where
    hs : r.capacity * r.unit ≤ length s
    hs = omega (arith, start.store.samples)

    last : Left
    last = pushes_bytes (started_with r s g) pushes

    ok : GoesOn r (length s) (length g) last
    ok = all_go r (length s) (length g) pushes (started_with r s g) (start_goes r s g hs start.ring)

    made : Recorded r pushes last (replies_bytes (started_with r s g) pushes)
    made = recorded r s g hs start.ring pushes

    store_sound : Sound last.recorder.store lent
    store_sound = record {
      unit_size = subst⁻¹ UnitSize ok.unit start.store.unit_size;
      capacity_least = omega (arith, ok.capacity, start.store.capacity_least);
      capacity_most = omega (arith, ok.capacity, start.store.capacity_most);
      len_most = ok.ready.len;
      samples = omega (arith, ok.ready.samples, ok.samples_length, e);
      level = λ l p q. rw ok.capacity (start.store.level l p q);
    }

-- ---- from a start that no row refuses
module _ (st : Settings) (s g : List ℕ) (lent : Lent) (e : lent.samples ≡ length s) (ok : start_refusal st lent (length g) ≡ 0) where
  start : SoundStart st lent (length g)
  start = (start_passed st lent (length g)).0 ok

  pub start_sound : SoundRecorder (fresh_recorder (rule_of st)) lent (length g)
  start_sound = record {
    store = start.store;
    mark = λ k q. absurd (none-ne-some k q);
    limit_most = start.limit_most;
    pre_most = start.pre_most;
    kept_most = omega arith;
    place_inside = omega arith;
    len_limit = λ h. omega arith;
    ring = start.ring;
  }

  -- each push of a list finds a record and memory that rows 1 and 2 let pass
  pub start_list_sound : (pushes : List (List ℕ)) → SoundRecorder (pushes_bytes (started_with (rule_of st) s g) pushes).recorder lent (length (pushes_bytes (started_with (rule_of st) s g) pushes).ring)
  start_list_sound = list_sound (rule_of st) s g lent e start_sound (pre_below st lent (length g) start)

  pub start_recorded : (pushes : List (List ℕ)) → Recorded (rule_of st) pushes (pushes_bytes (started_with (rule_of st) s g) pushes) (replies_bytes (started_with (rule_of st) s g) pushes)
  start_recorded = recorded (rule_of st) s g (omega (arith, start.store.samples)) start.ring
