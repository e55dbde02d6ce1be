-- One push as the code takes it: rows 1 and 2, then the store's own test of row 8 where samples go there. It is the rule's (proofs/Left).
use Rattle.std.specs.Prelude.{cond, List, [], ◌∷◌, ◌++◌, ℕ, ◌+◌, ◌-◌, ◌*◌, ltb, leb, eqb, length, take, drop}
use Rattle.rules.specs.Sample.{sample_of, sample_count, samples_of}
use Rattle.rules.specs.Trigger.{Armed, unarmed, waiting, first_fire}
use Rattle.rules.specs.Selection.{Rule, Reply, refused, going_on, reply_of}
use Rattle.rules.specs.Refusal.{Lent, Recorder, recorder_refusal}
use Rattle.rules.specs.Start.{fresh_recorder}
use Rattle.rules.specs.Ring.{written, ring_bytes, kept_bytes}
use Rattle.rules.specs.Push.{Left, room_for, with_len, fired_by, waited_for, wanted, passed}

-- ---- to the store
-- how many of n samples the limit leaves room for
abbrev pub storable : Recorder → ℕ → ℕ
storable c n = room_for c.limit c.store.len n

-- the first of n samples go to the store, x their bytes; where they have no room the answer is 8, and `back` is left
unfoldable pub store_bytes : Recorder → Recorder → List ℕ → List ℕ → ℕ → List ℕ → Left
store_bytes back c s g n x =
    cond (leb (c.store.len + storable c n) c.store.capacity)
    (record {
      reply = reply_of c.armed c.limit (c.store.len + storable c n);
      recorder = with_len c (c.store.len + storable c n);
      samples = written s (c.store.len * c.store.unit) (take (storable c n * c.store.unit) x);
      ring = g;
    })
    (record { reply = refused 8; recorder = back; samples = s; ring = g })

-- ---- an armed recorder
-- a push b of n samples, i its first firing place: two parts of the ring and one part of the push go to the store
abbrev pub firing_bytes : Recorder → List ℕ → List ℕ → List ℕ → ℕ → ℕ → Left
firing_bytes c s g b n i =
    cond (ltb i n)
    (store_bytes c (fired_by c (sample_of c.store.unit b i) i) s g
    (wanted c i + (n - passed c i))
    (kept_bytes c.store.unit c.pre g c.place (wanted c i) ++ drop (passed c i * c.store.unit) b))
    (record {
      reply = going_on;
      recorder = waited_for c (samples_of c.store.unit b);
      samples = s;
      ring = ring_bytes c.store.unit c.pre g c.place n b;
    })

abbrev pub taken_bytes : Armed → Recorder → List ℕ → List ℕ → List ℕ → Left
taken_bytes unarmed c s g b = store_bytes c c s g (sample_count c.store.unit b) b
taken_bytes (waiting m) c s g b = firing_bytes c s g b (sample_count c.store.unit b) (first_fire m c.previous (samples_of c.store.unit b))

-- a push of bytes b on the record c, with the sample memory s and the ring's memory g
unfoldable pub push_bytes : Recorder → List ℕ → List ℕ → List ℕ → Left
push_bytes c s g b = taken_bytes c.armed c s g b

-- rows 1 and 2 leave everything as it was given
unfoldable pub left_by : Recorder → Lent → List ℕ → List ℕ → List ℕ → Left
left_by c lent s g b =
    cond (eqb (recorder_refusal c lent (length g)) 0)
    (push_bytes c s g b)
    (record { reply = refused (recorder_refusal c lent (length g)); recorder = c; samples = s; ring = g })

-- ---- lists of pushes
abbrev pub push_on : Left → List ℕ → Left
push_on l b = push_bytes l.recorder l.samples l.ring b

unfoldable pub pushes_bytes : Left → List (List ℕ) → Left
pushes_bytes l [] = l
pushes_bytes l (b ∷ bs) = pushes_bytes (push_on l b) bs

unfoldable pub replies_bytes : Left → List (List ℕ) → List Reply
replies_bytes l [] = []
replies_bytes l (b ∷ bs) = (push_on l b).reply ∷ replies_bytes (push_on l b) bs

-- what start gives, with sample memory s and a ring g; the answer is not looked at
abbrev pub started_with : Rule → List ℕ → List ℕ → Left
started_with r s g = record { reply = going_on; recorder = fresh_recorder r; samples = s; ring = g }
