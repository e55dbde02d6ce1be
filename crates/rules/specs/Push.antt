-- One push on a recorder and its memory, for any unit: the samples that it is to store, its refusals, its answer, and what it leaves.
-- 01: Selection and recorder; Where each number is checked, 1, 2 and 8.
use Rattle.std.specs.Prelude.{cond, List, [], ◌∷◌, ◌++◌, ℕ, ◌+◌, ◌-◌, ◌*◌, min, ltb, eqb, length, take, drop}
use Rattle.std.specs.Prelude.{Some}
use Rattle.rules.specs.Sample.{sample_of, sample_count, samples_of}
use Rattle.rules.specs.Trigger.{Armed, unarmed, waiting, first_fire, last_of}
use Rattle.rules.specs.Selection.{Reply, refused, reply_of}
use Rattle.rules.specs.Refusal.{Lent, Recorder, first_of, recorder_rows, room_row}
use Rattle.rules.specs.Ring.{written, place_after, ring_bytes, kept_bytes}

-- "Limit above 0 keeps the run's first limit samples.": how many of n samples it leaves room for behind len
abbrev pub room_for : ℕ → ℕ → ℕ → ℕ
room_for limit len n = cond (eqb limit 0) n (min n (limit - len))

-- ---- the record
abbrev pub with_len : Recorder → ℕ → Recorder
with_len c n = record {
  store = record { unit = c.store.unit; capacity = c.store.capacity; len = n; mark = c.store.mark };
  limit = c.limit;
  pre = c.pre;
  armed = c.armed;
  previous = c.previous;
  place = c.place;
  kept = c.kept;
}

-- fired by v, sample i of the push. "Firing keeps the firing sample as the previous one and sets kept count and ring place to 0";
-- "the mark is min(T, pre)"
abbrev pub fired_by : Recorder → ℕ → ℕ → Recorder
fired_by c v i = record {
  store = record { unit = c.store.unit; capacity = c.store.capacity; len = c.store.len; mark = Some (min c.pre (c.kept + i)) };
  limit = c.limit;
  pre = c.pre;
  armed = unarmed;
  previous = Some v;
  place = 0;
  kept = 0;
}

-- samples p went to the ring: "kept count (at most pre)" (01, Records)
abbrev pub waited_for : Recorder → List ℕ → Recorder
waited_for c p = record {
  store = c.store;
  limit = c.limit;
  pre = c.pre;
  armed = c.armed;
  previous = last_of c.previous p;
  place = place_after c.pre c.place (length p);
  kept = min c.pre (c.kept + length p);
}

-- ---- what a push of bytes b does to a record c and a ring g, unless a row refuses it
pub record Plan : Type 0 where
  -- the samples that it is to store: how many, and bytes that begin with theirs
  pub count : ℕ
  pub bytes : List ℕ
  -- the record that it leaves, but for its store's len
  pub recorder : Recorder
  pub ring : List ℕ

-- "a push on an unarmed recorder goes straight to the store"; "unarmed pushes change none of the three"
abbrev pub store_plan : Recorder → List ℕ → List ℕ → Plan
store_plan c g b = record {
  count = room_for c.limit c.store.len (sample_count c.store.unit b);
  bytes = b;
  recorder = c;
  ring = g;
}

-- "the run starts at T − min(T, pre)": of the ring's samples those that are still wanted where sample i of the push fires, and how many of
-- its own are passed over
abbrev pub wanted : Recorder → ℕ → ℕ
wanted c i = min c.kept (c.pre - i)

abbrev pub passed : Recorder → ℕ → ℕ
passed c i = i - c.pre

-- it fires at its sample i. "The firing push and later ones write nothing in the ring"
abbrev pub fire_plan : Recorder → List ℕ → List ℕ → ℕ → Plan
fire_plan c g b i = record {
  count = room_for c.limit c.store.len (wanted c i + (sample_count c.store.unit b - passed c i));
  bytes = kept_bytes c.store.unit c.pre g c.place (wanted c i) ++ drop (passed c i * c.store.unit) b;
  recorder = fired_by c (sample_of c.store.unit b i) i;
  ring = g;
}

-- none of its samples fires: all go to the ring
abbrev pub wait_plan : Recorder → List ℕ → List ℕ → Plan
wait_plan c g b = record {
  count = 0;
  bytes = [];
  recorder = waited_for c (samples_of c.store.unit b);
  ring = ring_bytes c.store.unit c.pre g c.place (sample_count c.store.unit b) b;
}

abbrev pub armed_plan : Recorder → List ℕ → List ℕ → ℕ → Plan
armed_plan c g b i = cond (ltb i (sample_count c.store.unit b)) (fire_plan c g b i) (wait_plan c g b)

abbrev pub plan_for : Armed → Recorder → List ℕ → List ℕ → Plan
plan_for unarmed c g b = store_plan c g b
plan_for (waiting m) c g b = armed_plan c g b (first_fire m c.previous (samples_of c.store.unit b))

unfoldable pub plan : Recorder → List ℕ → List ℕ → Plan
plan c g b = plan_for c.armed c g b

-- ---- 1, 2 and 8: "len plus the samples to store > capacity"
abbrev pub push_refusal : Recorder → Lent → List ℕ → List ℕ → ℕ
push_refusal c lent g b = first_of (recorder_rows c lent (length g) (room_row c.store (plan c g b).count ∷ []))

-- ---- the answer, and what is left of the record, of sample memory s and of the ring
pub record Left : Type 0 where
  pub reply : Reply
  pub recorder : Recorder
  pub samples : List ℕ
  pub ring : List ℕ

-- a push behind len stored samples that no row refuses
abbrev pub pushed : ℕ → List ℕ → Plan → Left
pushed len s p = record {
  reply = reply_of p.recorder.armed p.recorder.limit (len + p.count);
  recorder = with_len p.recorder (len + p.count);
  samples = written s (len * p.recorder.store.unit) (take (p.count * p.recorder.store.unit) p.bytes);
  ring = p.ring;
}

-- "A refusal returns its number, the record as given .., all memory unchanged."
unfoldable pub left_of : Recorder → Lent → List ℕ → List ℕ → List ℕ → Left
left_of c lent s g b =
    cond (eqb (push_refusal c lent g b) 0)
    (pushed c.store.len s (plan c g b))
    (record { reply = refused (push_refusal c lent g b); recorder = c; samples = s; ring = g })
