-- One push as the code takes it is the rule's: rows 1 and 2 first, row 8 where samples go to the store. A push that only waits never gets 8.
use mathlib.Core.Path.{◌≡◌, refl, ap, ap₂, ◌∙◌}
use mathlib.Core.Bool.{Bool, true, false, cond, ◌||◌}
use mathlib.Core.List.{List, []}
use Prim.Native.Nat.{ℕ, ◌+◌, ◌*◌, ◌-◌, ◌≤◌, ◌<◌}
use native.Mathlib.Nat.{add-zero}
use native.Mathlib.Decide.{dec_lt}
use native.Mathlib.Omega.{arith}
use lib.Dec.{ltb, leb, eqb}
use borrow.Author.Tests.{lt-ltb, le-ltb, le-leb, lt-leb}
use lib.ListN.{length, take, take-append-drop}
use lib.Seq.{take-nil}
use Rattle.rules.specs.Sample.{sample_of, sample_count, samples_of}
use Rattle.rules.specs.Trigger.{Masks, Armed, unarmed, waiting, first_fire}
use Rattle.rules.specs.Selection.{refused, going_on, reply_of}
use Rattle.rules.specs.Refusal.{Lent, Recorder, recorder_wrong, lent_short, ring_short}
use Rattle.rules.specs.Ring.{written}
use Rattle.rules.specs.Push.{Left, Plan, with_len, fired_by, waited_for, wanted, passed, fire_plan, wait_plan, plan_for, plan, pushed, left_of}
use Rattle.rules.proofs.Refusal.{recorder_passed}
use Rattle.feeder_lists.specs.Push.{store_bytes, taken_bytes, push_bytes, left_by}

-- what is left where a row refuses
abbrev refused_left : Recorder → List ℕ → List ℕ → ℕ → Left
refused_left c s g n = record { reply = refused n; recorder = c; samples = s; ring = g }

-- row 8 as a test of room
room_test : (capacity n : ℕ) (x : Left) (f : ℕ → Left) → cond (eqb (cond (ltb capacity n) 8 0) 0) x (f (cond (ltb capacity n) 8 0)) ≡ cond (leb n capacity) x (f 8)
room_test capacity n x f = go (dec_lt capacity n)
  where
    go : Dec (capacity < n) → cond (eqb (cond (ltb capacity n) 8 0) 0) x (f (cond (ltb capacity n) 8 0)) ≡ cond (leb n capacity) x (f 8)
    go (yes h) = rw (lt-ltb capacity n h, lt-leb n capacity h)
    go (no h) = rw (le-ltb capacity n (omega arith), le-leb n capacity (omega arith))

module _ (c : Recorder) (s g b : List ℕ) (len_most : c.store.len ≤ c.store.capacity) where
  -- a plan, with its row 8
  abbrev roomed : Plan → Left
  roomed p = cond (leb (c.store.len + p.count) c.store.capacity) (pushed c.store.len s p) (refused_left c s g 8)

  -- a push that only waits stores nothing
  untouched : written s (c.store.len * c.store.unit) (take (0 * c.store.unit) []) ≡ s
  untouched = ap (λ (x : List ℕ). written s (c.store.len * c.store.unit) x) (take-nil (0 * c.store.unit)) ∙ take-append-drop (c.store.len * c.store.unit) s

  waits_is : (m : Masks) → c.armed ≡ waiting m → roomed (wait_plan c g b) ≡ record { reply = going_on; recorder = waited_for c (samples_of c.store.unit b); samples = s; ring = (wait_plan c g b).ring }
  waits_is m e =
      ap (λ (t : Bool). cond t (pushed c.store.len s (wait_plan c g b)) (refused_left c s g 8)) (le-leb (c.store.len + 0) c.store.capacity (omega arith))
      ∙ ap (λ (a : Armed). record { reply = reply_of a c.limit (c.store.len + 0); recorder = with_len (waited_for c p) (c.store.len + 0); samples = written s (c.store.len * c.store.unit) (take (0 * c.store.unit) []); ring = (wait_plan c g b).ring }) e
      ∙ ap₂ (λ (n : ℕ) (y : List ℕ). record { reply = going_on; recorder = with_len (waited_for c p) n; samples = y; ring = (wait_plan c g b).ring }) (add-zero c.store.len) untouched
    where
      p : List ℕ
      p = samples_of c.store.unit b

  planned_is : (a : Armed) → c.armed ≡ a → roomed (plan_for a c g b) ≡ taken_bytes a c s g b
  unfolding store_bytes
  planned_is unarmed e = refl
  planned_is (waiting m) e = go (ltb i n)
    where
      i : ℕ
      i = first_fire m c.previous (samples_of c.store.unit b)

      n : ℕ
      n = sample_count c.store.unit b

      go : (t : Bool) → roomed (cond t (fire_plan c g b i) (wait_plan c g b)) ≡ cond t (store_bytes c (fired_by c (sample_of c.store.unit b i) i) s g (wanted c i + (n - passed c i)) (fire_plan c g b i).bytes) (record { reply = going_on; recorder = waited_for c (samples_of c.store.unit b); samples = s; ring = (wait_plan c g b).ring })
      go true = refl
      go false = waits_is m e

  -- past rows 1 and 2
  push_is : cond (eqb (cond (ltb c.store.capacity (c.store.len + (plan c g b).count)) 8 0) 0) (pushed c.store.len s (plan c g b)) (refused_left c s g (cond (ltb c.store.capacity (c.store.len + (plan c g b).count)) 8 0)) ≡ push_bytes c s g b
  unfolding plan push_bytes
  push_is = room_test c.store.capacity (c.store.len + (plan c g b).count) (pushed c.store.len s (plan c g b)) (refused_left c s g) ∙ planned_is c.armed refl

pub left_is : (c : Recorder) (lent : Lent) (s g b : List ℕ) → left_of c lent s g b ≡ left_by c lent s g b
unfolding left_of left_by
left_is c lent s g b = go (recorder_wrong c) (lent_short c.store lent || ring_short c (length g)) (λ e. ((recorder_passed c lent (length g) []).0 e).0.store.len_most)
  where
    room : ℕ
    room = cond (ltb c.store.capacity (c.store.len + (plan c g b).count)) 8 0

    go : (x y : Bool) → (cond {A = ℕ} x 1 (cond y 2 0) ≡ 0 → c.store.len ≤ c.store.capacity)
        → cond (eqb (cond x 1 (cond y 2 room)) 0) (pushed c.store.len s (plan c g b)) (refused_left c s g (cond x 1 (cond y 2 room)))
        ≡ cond (eqb (cond x 1 (cond y 2 0)) 0) (push_bytes c s g b) (refused_left c s g (cond x 1 (cond y 2 0)))
    go true y h = refl
    go false true h = refl
    go false false h = push_is c s g b (h refl)
