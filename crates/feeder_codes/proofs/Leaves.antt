-- What a push leaves of a recorder: what it may change, and that a refusal changes nothing.
use mathlib.Core.Path.{◌≡◌, refl, subst⁻¹}
use mathlib.Core.Bool.{Bool, true, false, cond}
use mathlib.Core.List.{List, ◌++◌}
use mathlib.Core.Logic.{◌⊎◌, inl, inr}
use Prim.Native.Nat.{ℕ, ◌+◌, ◌-◌, ◌*◌, ◌<◌}
use native.Mathlib.Omega.{arith}
use borrow.Author.Tests.{eqb-true}
use lib.Dec.{ltb, leb, eqb}
use lib.ListN.{length, take, drop}
use Rattle.rules.specs.Sample.{sample_of, sample_count, samples_of}
use Rattle.rules.specs.SampleBytes.{Bytes}
use Rattle.rules.specs.Trigger.{Armed, unarmed, waiting, first_fire}
use Rattle.rules.specs.Selection.{Reply, refused, going_on, complete, reply_of}
use Rattle.rules.specs.Refusal.{Lent, Recorder, recorder_refusal}
use Rattle.rules.specs.Ring.{kept_bytes, ring_bytes, written}
use Rattle.rules.specs.Push.{Left, with_len, fired_by, waited_for, wanted, passed, left_of}
use Rattle.feeder_lists.specs.Push.{storable, store_bytes, firing_bytes, taken_bytes, push_bytes, left_by}
use Rattle.feeder.proofs.Rows.{recorder_sound}
use Rattle.feeder_lists.proofs.Left.{left_is}
use Rattle.feeder_numbers.proofs.ReadBack.{Follows}
use Rattle.feeder_codes.proofs.Narrow.{NarrowSample, some_narrow, last_narrow, sample_narrow}

pub record Leaves (c : Recorder) (l : Left) : Type 0 where
  pub follows : Follows c l.recorder
  pub stays : (n : ℕ) → l.reply ≡ refused n → l.recorder ≡ c

-- going on and complete are no refusal
not_refused : (x : Reply) → (x ≡ going_on) ⊎ (x ≡ complete) → (n : ℕ) → x ≡ refused n → ⊥
not_refused x (inl e) n d = let z : ◌≡◌ {A = ℕ} 0 1 = cc in omega arith
not_refused x (inr e) n d = let z : ◌≡◌ {A = ℕ} 0 1 = cc in omega arith

reply_is : (a : Armed) (limit len : ℕ) → (reply_of a limit len ≡ going_on) ⊎ (reply_of a limit len ≡ complete)
reply_is unarmed limit len = go (eqb limit 0) (eqb len limit)
  where
    go : (x y : Bool) → (cond x going_on (cond y complete going_on) ≡ going_on) ⊎ (cond x going_on (cond y complete going_on) ≡ complete)
    go true y = inl refl
    go false true = inr refl
    go false false = inl refl
reply_is (waiting m) limit len = inl refl

module _ (c : Recorder) (previous : NarrowSample c.previous) where
  same : Follows c c
  same = record { unit = refl; capacity = refl; limit = refl; pre = refl; armed = inr refl; previous = previous }

  module _ (s g : List ℕ) where
    stored : (d : Recorder) (n : ℕ) (x : List ℕ) → Follows c d → Leaves c (store_bytes c d s g n x)
    unfolding store_bytes
    stored d n x f = go (leb (d.store.len + storable d n) d.store.capacity)
      where
        done : Left
        done = record {
          reply = reply_of d.armed d.limit (d.store.len + storable d n);
          recorder = with_len d (d.store.len + storable d n);
          samples = written s (d.store.len * d.store.unit) (take (storable d n * d.store.unit) x);
          ring = g;
        }

        go : (b : Bool) → Leaves c (cond b done (record { reply = refused 8; recorder = c; samples = s; ring = g }))
        go true = record {
          follows = record { unit = f.unit; capacity = f.capacity; limit = f.limit; pre = f.pre; armed = f.armed; previous = f.previous };
          stays = λ k e. absurd (not_refused _ (reply_is d.armed d.limit (d.store.len + storable d n)) k e);
        }
        go false = record { follows = same; stays = λ n e. refl }

    module _ (b : List ℕ) (narrow : (i : ℕ) → sample_of c.store.unit b i < 65536) where
      abbrev n : ℕ
      n = sample_count c.store.unit b

      fired : (i : ℕ) → Leaves c (firing_bytes c s g b n i)
      fired i = go (ltb i n)
        where
          rest : Left
          rest = record {
            reply = going_on;
            recorder = waited_for c (samples_of c.store.unit b);
            samples = s;
            ring = ring_bytes c.store.unit c.pre g c.place n b;
          }

          go : (t : Bool) → Leaves c (cond t
              (store_bytes c (fired_by c (sample_of c.store.unit b i) i) s g
              (wanted c i + (n - passed c i))
              (kept_bytes c.store.unit c.pre g c.place (wanted c i) ++ drop (passed c i * c.store.unit) b))
              rest)
          go true = stored (fired_by c (sample_of c.store.unit b i) i) _ _ (record { unit = refl; capacity = refl; limit = refl; pre = refl; armed = inl refl; previous = some_narrow (sample_of c.store.unit b i) (narrow i) })
          go false = record {
            follows = record { unit = refl; capacity = refl; limit = refl; pre = refl; armed = inr refl; previous = last_narrow (sample_of c.store.unit b) narrow n 0 c.previous previous };
            stays = λ k e. absurd (not_refused going_on (inl refl) k e);
          }

      pushed : Leaves c (push_bytes c s g b)
      unfolding push_bytes
      pushed = go c.armed
        where
          go : (a : Armed) → Leaves c (taken_bytes a c s g b)
          go unarmed = stored c n b same
          go (waiting m) = fired (first_fire m c.previous (samples_of c.store.unit b))

    by_leaves : (lent : Lent) (b : List ℕ) → Bytes b → Leaves c (left_by c lent s g b)
    unfolding left_by
    by_leaves lent b h = go (eqb (recorder_refusal c lent (length g)) 0) refl
      where
        go : (t : Bool) → eqb (recorder_refusal c lent (length g)) 0 ≡ t
            → Leaves c (cond t (push_bytes c s g b) (record { reply = refused (recorder_refusal c lent (length g)); recorder = c; samples = s; ring = g }))
        go true e = pushed b (sample_narrow c.store.unit b (recorder_sound c lent (length g) (eqb-true (recorder_refusal c lent (length g)) 0 e)).store.unit_size.most h)
        go false e = record { follows = same; stays = λ n d. refl }

    pub push_leaves : (lent : Lent) (b : List ℕ) → Bytes b → Leaves c (left_of c lent s g b)
    push_leaves lent b h = subst⁻¹ (Leaves c) (left_is c lent s g b) (by_leaves lent b h)
