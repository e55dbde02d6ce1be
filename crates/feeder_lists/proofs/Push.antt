-- A push over a record and its memory leaves the samples that the step over samples leaves, for any unit, and what it leaves can be pushed to again.
use mathlib.Core.Path.{◌≡◌, refl, sym, ap, ap₂, ◌∙◌}
use mathlib.Core.Bool.{Bool, true, false, cond}
use mathlib.Core.List.{List, ◌++◌}
use Prim.Native.Nat.{ℕ, ◌+◌, ◌*◌, ◌-◌, ◌≤◌, ◌<◌, max}
use native.Mathlib.Nat.{add-mul, mul-le-mul_right, div-mul-le_self}
use native.Mathlib.Omega.{arith}
use lib.Dec.{ltb, leb}
use borrow.Author.Tests.{leb-true, ltb-true}
use lib.ListN.{length, take, drop, length-drop, length-append}
use lib.Seq.{length-take-le}
use Rattle.rules.specs.Ring.{written, ring_bytes, kept_bytes}
use Rattle.rules.specs.Push.{room_for, Left, with_len, fired_by, waited_for, wanted, passed}
use Rattle.rules.specs.Sample.{sample_of, sample_count, samples_of}
use Rattle.rules.specs.Trigger.{Armed, unarmed, waiting, first_fire}
use Rattle.rules.specs.Selection.{Rule, refused, going_on, reply_of}
use Rattle.rules.specs.Refusal.{Recorder, Lent}
use Rattle.rules.proofs.Sample.{samples_at}
use Rattle.rules.proofs.Refusal.{SoundRecorder}
use Rattle.feeder_lists.specs.Bytes.{units}
use Rattle.feeder_lists.specs.Step.{State, Done, with_more, storing, fired, head_of, waited, firing, taken, step}
use Rattle.feeder_lists.specs.Push.{storable, store_bytes, firing_bytes, taken_bytes, push_bytes}
use Rattle.feeder_lists.proofs.Ring.{Turns, turns_all}
use Rattle.feeder_lists.proofs.Slots.{firing_parts}
use Rattle.feeder_lists.proofs.Bytes.{joined_length, units_length, units_take, units_take_bytes, units_append, units_joined, units_drop, ring_bytes_lem, ring_bytes_length, kept_size, kept_read}
use Rattle.feeder_lists.proofs.Selects.{room_le}

-- ---- what a record and its memory stand for
abbrev pub rule_in : Recorder → Rule
rule_in c = record { unit = c.store.unit; capacity = c.store.capacity; limit = c.limit; pre = c.pre; armed = c.armed }

abbrev unit_in : Recorder → ℕ
unit_in c = c.store.unit

-- a record with the samples of its ring and of its store
abbrev standing : Recorder → List ℕ → List ℕ → State
standing c ring stored = record { armed = c.armed; previous = c.previous; ring = ring; place = c.place; kept = c.kept; stored = stored; mark = c.store.mark }

abbrev pub stands : Recorder → List ℕ → List ℕ → State
stands c s g = standing c (units (unit_in c) c.pre g) (units (unit_in c) c.store.len s)

abbrev pub stands_in : Left → State
stands_in l = stands l.recorder l.samples l.ring

abbrev pub carried : Left → Done
carried l = record { reply = l.reply; state = stands_in l }

-- what a push asks of a record and its memory
pub record Ready (c : Recorder) (s g : List ℕ) : Type 0 where
  pub len : c.store.len ≤ c.store.capacity
  pub samples : c.store.capacity * c.store.unit ≤ length s
  pub place : c.place < max c.pre 1
  pub kept : c.kept ≤ c.pre
  pub ring : c.pre * c.store.unit ≤ length g

-- rows 1 and 2 see to it
pub sound_ready : (c : Recorder) (lent : Lent) (s g : List ℕ) → lent.samples ≡ length s → SoundRecorder c lent (length g) → Ready c s g
sound_ready c lent s g e h = record { len = h.store.len_most; samples = omega (arith, h.store.samples); place = h.place_inside; kept = h.kept_most; ring = h.ring }

-- ---- to the store
abbrev stored_left : Recorder → List ℕ → List ℕ → ℕ → List ℕ → Left
stored_left c s g k x = record { reply = reply_of c.armed c.limit (c.store.len + k); recorder = with_len c (c.store.len + k); samples = written s (c.store.len * c.store.unit) (take (k * c.store.unit) x); ring = g }

abbrev refused_left : Recorder → List ℕ → List ℕ → Left
refused_left back s g = record { reply = refused 8; recorder = back; samples = s; ring = g }

abbrev stored_done : Recorder → State → ℕ → List ℕ → Done
stored_done c s k xs = record { reply = reply_of s.armed c.limit (c.store.len + k); state = with_more s (take k xs) }

module _ (back c : Recorder) (s g : List ℕ) (n : ℕ) (x : List ℕ) (room : c.store.capacity * unit_in c ≤ length s) (bytes : n * unit_in c ≤ length x) where
  stored_carried : (k : ℕ) → k ≤ n → c.store.len + k ≤ c.store.capacity → carried (stored_left c s g k x) ≡ stored_done c (stands c s g) k (units (unit_in c) n x)
  stored_carried k h f = ap (λ (y : List ℕ). record { reply = reply_of c.armed c.limit (c.store.len + k); state = standing c (units (unit_in c) c.pre g) y }) in_store
    where
      inside : c.store.len * unit_in c ≤ length s
      inside = omega (arith, room, mul-le-mul_right (unit_in c) f)

      size : length (take (k * unit_in c) x) ≡ k * unit_in c
      size = length-take-le (k * unit_in c) x (omega (arith, bytes, mul-le-mul_right (unit_in c) h))

      in_store : units (unit_in c) (c.store.len + k) (written s (c.store.len * unit_in c) (take (k * unit_in c) x)) ≡ units (unit_in c) c.store.len s ++ take k (units (unit_in c) n x)
      in_store =
          units_joined (unit_in c) c.store.len k s (take (k * unit_in c) x) _ inside size
          ∙ ap (λ (y : List ℕ). units (unit_in c) c.store.len s ++ y) (units_take_bytes (unit_in c) k x (k * unit_in c) (omega arith) ∙ sym (units_take (unit_in c) k n x h))

  store_carried : carried (store_bytes back c s g n x) ≡ storing (rule_in c) (stands back s g) (stands c s g) (units (unit_in c) n x)
  unfolding store_bytes storing
  store_carried = rw (units_length (unit_in c) c.store.len s, units_length (unit_in c) n x) (go (leb (c.store.len + storable c n) c.store.capacity) refl)
    where
      go : (t : Bool) → leb (c.store.len + storable c n) c.store.capacity ≡ t
          → carried (cond t (stored_left c s g (storable c n) x) (refused_left back s g))
          ≡ cond t (stored_done c (stands c s g) (storable c n) (units (unit_in c) n x)) (record { reply = refused 8; state = stands back s g })
      go true e = stored_carried (storable c n) (room_le c.limit c.store.len n) (leb-true _ _ e)
      go false e = refl

-- storing goes by the limit and the capacity alone
storing_rule : (q r : Rule) (back s : State) (xs : List ℕ) → q.limit ≡ r.limit → q.capacity ≡ r.capacity → storing q back s xs ≡ storing r back s xs
unfolding storing
storing_rule q r back s xs e f =
    ap₂ (λ (limit capacity : ℕ). cond (leb (length s.stored + room_for limit (length s.stored) (length xs)) capacity)
    (record { reply = reply_of s.armed limit (length s.stored + room_for limit (length s.stored) (length xs)); state = with_more s (take (room_for limit (length s.stored) (length xs)) xs) })
    (record { reply = refused 8; state = back })) e f

-- ---- an armed push
module _ (c : Recorder) (s g b : List ℕ) (ok : Ready c s g) where
  abbrev u : ℕ
  u = unit_in c

  abbrev n : ℕ
  n = sample_count u b

  abbrev p : List ℕ
  p = samples_of u b

  abbrev before : State
  before = stands c s g

  -- the bytes that a push that fires at i hands to the store
  abbrev handed : ℕ → List ℕ
  handed i = kept_bytes u c.pre g c.place (wanted c i) ++ drop (passed c i * u) b

  module _ (i : ℕ) (h : i < n) where
    sized : length (kept_bytes u c.pre g c.place (wanted c i)) ≡ wanted c i * u
    sized = kept_size u c.pre g c.place (wanted c i) ok.place (omega (arith, ok.kept)) ok.ring

    split : passed c i + (n - passed c i) ≡ n
    split = omega arith

    -- as samples, they are the head and the rest of the push
    handed_read : units u (wanted c i + (n - passed c i)) (handed i) ≡ head_of (rule_in c) before p i ++ drop i p
    handed_read =
        units_append u (wanted c i) (n - passed c i) (kept_bytes u c.pre g c.place (wanted c i)) (drop (passed c i * u) b) sized
        ∙ ap₂ (λ (y z : List ℕ). y ++ z) (kept_read u c.pre g c.place (wanted c i) ok.place (omega (arith, ok.kept)) ok.ring) (sym (units_drop u (passed c i) n b (omega arith)))
        ∙ sym (firing_parts c.pre (units u c.pre g) c.place c.kept (record { place_in = ok.place; kept_in = ok.kept; room = rw units_length (omega arith) }) p i (rw units_length (omega arith)))

    enough : (wanted c i + (n - passed c i)) * u ≤ length (handed i)
    enough =
        rw (length-append (kept_bytes u c.pre g c.place (wanted c i)) (drop (passed c i * u) b), sized, length-drop (passed c i * u) b)
        (omega (arith, add-mul (wanted c i) (n - passed c i) u, sym (add-mul (passed c i) (n - passed c i) u) ∙ ap (λ (k : ℕ). k * u) split, div-mul-le_self (length b) u))

    fired_carried : carried (store_bytes c (fired_by c (sample_of u b i) i) s g (wanted c i + (n - passed c i)) (handed i)) ≡ storing (rule_in c) before (fired (rule_in c) before p i) (head_of (rule_in c) before p i ++ drop i p)
    fired_carried =
        store_carried c (fired_by c (sample_of u b i) i) s g (wanted c i + (n - passed c i)) (handed i) ok.samples enough
        ∙ storing_rule (rule_in (fired_by c (sample_of u b i) i)) (rule_in c) before (stands (fired_by c (sample_of u b i) i) s g) (units u (wanted c i + (n - passed c i)) (handed i)) refl refl
        ∙ ap₂ (λ (x : ℕ) (y : List ℕ). storing (rule_in c) before (stands (fired_by c x i) s g) y) (sym (samples_at u b i h)) handed_read

  waited_carried : carried (record { reply = going_on; recorder = waited_for c p; samples = s; ring = ring_bytes u c.pre g c.place n b }) ≡ record { reply = going_on; state = waited (rule_in c) before p }
  waited_carried =
      ap (λ (y : List ℕ). record { reply = going_on; state = standing (waited_for c p) y (units u c.store.len s) })
      (ring_bytes_lem u c.pre n g c.place b ok.place ok.ring (div-mul-le_self (length b) u))

  armed_carried : (i : ℕ) → carried (firing_bytes c s g b n i) ≡ firing (rule_in c) before p i
  armed_carried i =
      go (ltb i n) refl
      ∙ ap (λ (k : ℕ). cond (ltb i k) (storing (rule_in c) before (fired (rule_in c) before p i) (head_of (rule_in c) before p i ++ drop i p)) (record { reply = going_on; state = waited (rule_in c) before p })) (sym (units_length u n b))
    where
      go : (t : Bool) → ltb i n ≡ t
          → carried (cond t (store_bytes c (fired_by c (sample_of u b i) i) s g (wanted c i + (n - passed c i)) (handed i)) (record { reply = going_on; recorder = waited_for c p; samples = s; ring = ring_bytes u c.pre g c.place n b }))
          ≡ cond t (storing (rule_in c) before (fired (rule_in c) before p i) (head_of (rule_in c) before p i ++ drop i p)) (record { reply = going_on; state = waited (rule_in c) before p })
      go true e = fired_carried i (ltb-true _ _ e)
      go false e = waited_carried

  -- the samples of what a push leaves are the step over samples
  pub push_carried : carried (push_bytes c s g b) ≡ step (rule_in c) before (samples_of u b)
  unfolding push_bytes step
  push_carried = go c.armed
    where
      go : (a : Armed) → carried (taken_bytes a c s g b) ≡ taken a (rule_in c) before (samples_of u b)
      go unarmed = store_carried c c s g n b ok.samples (div-mul-le_self (length b) u)
      go (waiting m) = armed_carried (first_fire m c.previous p)

-- a step goes by the limit, the capacity and pre alone
abbrev ruled : Rule → ℕ → ℕ → ℕ → Rule
ruled r capacity limit pre = record { unit = r.unit; capacity = capacity; limit = limit; pre = pre; armed = r.armed }

pub step_rule : (q r : Rule) (s : State) (p : List ℕ) → q.capacity ≡ r.capacity → q.limit ≡ r.limit → q.pre ≡ r.pre → step q s p ≡ step r s p
unfolding step
step_rule q r s p ec el ep =
    go s.armed
    ∙ ap (λ (x : ℕ). taken s.armed (ruled r x q.limit q.pre) s p) ec
    ∙ ap₂ (λ (x y : ℕ). taken s.armed (ruled r r.capacity x y) s p) el ep
  where
    same : Rule
    same = ruled r q.capacity q.limit q.pre

    go : (a : Armed) → taken a q s p ≡ taken a same s p
    go unarmed = storing_rule q same s s p refl refl
    go (waiting m) =
        ap (λ (d : Done). cond (ltb (first_fire m s.previous p) (length p)) d (record { reply = going_on; state = waited q s p }))
        (storing_rule q same s (fired q s p (first_fire m s.previous p)) (head_of q s p (first_fire m s.previous p) ++ drop (first_fire m s.previous p) p) refl refl)

-- ---- what a push leaves can be pushed to again, by the same rule; `a` and `z` are the lengths of the memory
pub record Goes (r : Rule) (a z : ℕ) (c : Recorder) (s g : List ℕ) : Type 0 where
  pub unit : c.store.unit ≡ r.unit
  pub capacity : c.store.capacity ≡ r.capacity
  pub limit : c.limit ≡ r.limit
  pub pre : c.pre ≡ r.pre
  pub samples_length : length s ≡ a
  pub ring_length : length g ≡ z
  pub ready : Ready c s g

abbrev pub GoesOn : Rule → ℕ → ℕ → Left → Type 0
GoesOn r a z l = Goes r a z l.recorder l.samples l.ring

store_goes : (r : Rule) (a z : ℕ) (back c : Recorder) (s g : List ℕ) (n : ℕ) (x : List ℕ) → n * unit_in c ≤ length x → Goes r a z back s g → Goes r a z c s g → GoesOn r a z (store_bytes back c s g n x)
unfolding store_bytes
store_goes r a z back c s g n x bytes b ok = go (leb (c.store.len + k) c.store.capacity) refl
  where
    u : ℕ
    u = unit_in c

    k : ℕ
    k = storable c n

    go : (t : Bool) → leb (c.store.len + k) c.store.capacity ≡ t → GoesOn r a z (cond t (stored_left c s g k x) (refused_left back s g))
    go true e = record {
      unit = ok.unit;
      capacity = ok.capacity;
      limit = ok.limit;
      pre = ok.pre;
      samples_length = joined_length s (c.store.len * u) (take (k * u) x) inside ∙ ok.samples_length;
      ring_length = ok.ring_length;
      ready = record { len = has_room; samples = rw (joined_length s (c.store.len * u) (take (k * u) x) inside) ok.ready.samples; place = ok.ready.place; kept = ok.ready.kept; ring = ok.ready.ring };
    }
      where
        has_room : c.store.len + k ≤ c.store.capacity
        has_room = leb-true _ _ e

        size : length (take (k * u) x) ≡ k * u
        size = length-take-le (k * u) x (omega (arith, bytes, mul-le-mul_right u (room_le c.limit c.store.len n)))

        inside : c.store.len * u + length (take (k * u) x) ≤ length s
        inside = rw size (omega (arith, ok.ready.samples, add-mul c.store.len k u, mul-le-mul_right u has_room))
    go false e = b

module _ (r : Rule) (a z : ℕ) (c : Recorder) (s g b : List ℕ) (ok : Goes r a z c s g) where
  fired_goes : (x i : ℕ) → Goes r a z (fired_by c x i) s g
  fired_goes x i = record {
    unit = ok.unit;
    capacity = ok.capacity;
    limit = ok.limit;
    pre = ok.pre;
    samples_length = ok.samples_length;
    ring_length = ok.ring_length;
    ready = record { len = ok.ready.len; samples = ok.ready.samples; place = omega arith; kept = omega arith; ring = ok.ready.ring };
  }

  waited_goes : Goes r a z (waited_for c (samples_of (unit_in c) b)) s (ring_bytes (unit_in c) c.pre g c.place (sample_count (unit_in c) b) b)
  waited_goes = record {
    unit = ok.unit;
    capacity = ok.capacity;
    limit = ok.limit;
    pre = ok.pre;
    samples_length = ok.samples_length;
    ring_length = same ∙ ok.ring_length;
    ready = record {
      len = ok.ready.len;
      samples = ok.ready.samples;
      place = (turns_all c.pre (samples_of (unit_in c) b) (units (unit_in c) c.pre g) c.place c.kept turns).place_in;
      kept = omega arith;
      ring = rw same ok.ready.ring;
    };
  }
    where
      same : length (ring_bytes (unit_in c) c.pre g c.place (sample_count (unit_in c) b) b) ≡ length g
      same = ring_bytes_length (unit_in c) c.pre (sample_count (unit_in c) b) g c.place b ok.ready.place ok.ready.ring (div-mul-le_self (length b) (unit_in c))

      turns : Turns c.pre (units (unit_in c) c.pre g) c.place c.kept
      turns = record { place_in = ok.ready.place; kept_in = ok.ready.kept; room = rw units_length (omega arith) }

  pub push_goes : GoesOn r a z (push_bytes c s g b)
  unfolding push_bytes
  push_goes = go c.armed
    where
      armed : (i : ℕ) (t : Bool) → ltb i (sample_count (unit_in c) b) ≡ t → GoesOn r a z (cond t
          (store_bytes c (fired_by c (sample_of (unit_in c) b i) i) s g (wanted c i + (sample_count (unit_in c) b - passed c i)) (handed c s g b ok.ready i))
          (record { reply = going_on; recorder = waited_for c (samples_of (unit_in c) b); samples = s; ring = ring_bytes (unit_in c) c.pre g c.place (sample_count (unit_in c) b) b }))
      armed i true e = store_goes r a z c (fired_by c (sample_of (unit_in c) b i) i) s g _ _ (enough c s g b ok.ready i (ltb-true _ _ e)) ok (fired_goes _ i)
      armed i false e = waited_goes

      go : (x : Armed) → GoesOn r a z (taken_bytes x c s g b)
      go unarmed = store_goes r a z c c s g (sample_count (unit_in c) b) b (div-mul-le_self (length b) (unit_in c)) ok ok
      go (waiting m) = armed (first_fire m c.previous (samples_of (unit_in c) b)) (ltb (first_fire m c.previous (samples_of (unit_in c) b)) (sample_count (unit_in c) b)) refl
