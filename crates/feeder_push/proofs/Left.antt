-- What is left once samples went to the store, or had no room there.
use mathlib.Core.Path.{◌≡◌, refl, sym, ap, ◌∙◌, subst}
use mathlib.Core.Bool.{Bool, true, false, cond}
use Rattle.std.specs.Prelude.{Option, None, Some, Result}
use Rattle.answer.specs.declared.Refusal.{Refusal}
use mathlib.Core.List.{List, ◌++◌, append_assoc}
use Prim.Native.Nat.{ℕ, ◌+◌, ◌-◌, ◌*◌, ◌≤◌}
use native.Mathlib.Nat.{sub_self}
use native.Mathlib.Omega.{arith}
use lib.Dec.{leb}
use lib.ListN.{length, take, drop}
use lib.Seq.{paste, drop-drop, length-take-le}
use Rattle.rules.specs.Trigger.{Armed, unarmed}
use Rattle.rules.specs.Refusal.{Recorder}
use Rattle.store.specs.Stored.{LevelsAfter}
use Rattle.store.proofs.Levels.{levels_none}
use Rattle.store.proofs.Stored.{none_samples, none_levels}
use Rattle.feeder_run.specs.Run.{Takes}
use Rattle.rules.specs.Ring.{written}
use Rattle.rules.specs.Selection.{reply_of}
use Rattle.feeder_lists.specs.Push.{storable, store_bytes}
use Rattle.feeder.specs.declared.Feeder.{Feeder}
use Rattle.feeder.specs.Record.{recorder_of}
use Rattle.feeder_push.specs.declared.Pushed.{Pushed}
use Rattle.feeder_push.specs.Push.{reply_as, feeder_in}
use Rattle.feeder_push.specs.Inner.{Answers, Stores}

-- ---- which case it was
not_some : (b : Bool) (m : ℕ) → None ≡ cond b (Some m) None → b ≡ false
not_some true m e = absurd (let z : ◌≡◌ {A = ℕ} 0 1 = cc in omega arith)
not_some false m e = refl

is_some : (b : Bool) (m k : ℕ) → Some k ≡ cond b (Some m) None → (b ≡ true) × (m ≡ k)
is_some true m k e = (refl, cc)
is_some false m k e = absurd (let z : ◌≡◌ {A = ℕ} 0 1 = cc in omega arith)

-- ---- the bytes of k samples, in the other form
paste_joined : (s : List ℕ) (at : ℕ) (x : List ℕ) (k : ℕ) → k ≤ length x → paste s at x k ≡ written s at (take k x)
paste_joined s at x k h =
    ap (λ (z : List ℕ). take at s ++ take k x ++ z) (sym (drop-drop k at s) ∙ ap (λ (j : ℕ). drop j (drop at s)) (sym (length-take-le k x h)))
    ∙ append_assoc (take at s) (take k x) (drop (length (take k x)) (drop at s))

-- the recorder with another mark and state
abbrev pub like : Recorder → Option ℕ → Armed → Option ℕ → ℕ → ℕ → Recorder
like c mark armed previous place kept = record {
  store = record { unit = c.store.unit; capacity = c.store.capacity; len = c.store.len; mark = mark };
  limit = c.limit;
  pre = c.pre;
  armed = armed;
  previous = previous;
  place = place;
  kept = kept;
}

-- samples go to the store of f, which is unarmed by then
module _ (f : Feeder) (mark : Option ℕ) {armed : Armed} (fired : armed ≡ unarmed) (previous : Option ℕ) (place kept : ℕ) (n : ℕ) (x s : List ℕ) (lv : ℕ → List ℕ) (r : Result Pushed Refusal) (s' : List ℕ) (lv' : ℕ → List ℕ) where
  abbrev c : Recorder
  c = like (recorder_of f) mark armed previous place kept

  stores_none : Takes f n x s lv None s' lv' → Answers c None r → Stores f c n x s lv r s' lv'
  unfolding store_bytes
  stores_none d a = record {
    left_is = λ g. rw (not_some (leb (c.store.len + storable c n) c.store.capacity) (storable c n) d.taken_is) (λ i. record { reply = a.reply_is i; recorder = a.recorder_is f i; samples = none_samples d.memory refl i; ring = g });
    levels_are = λ l p q. none_levels d.memory refl l p q ∙ levels_none c.store.unit c.store.len ((feeder_in f r).capture.len - c.store.len) s' lv none_more l p q;
  }
    where
      none_more : (feeder_in f r).capture.len - c.store.len ≡ 0
      none_more = ap (λ (z : Recorder). z.store.len - c.store.len) (a.recorder_is f) ∙ sub_self c.store.len

  stores_some : (k : ℕ) → Takes f n x s lv (Some k) s' lv' → Answers c (Some k) r → Stores f c n x s lv r s' lv'
  unfolding store_bytes
  stores_some k d a = record {
    left_is = λ g. rw (which.0, which.1) (λ i. record { reply = reply_left i; recorder = a.recorder_is f i; samples = samples_left i; ring = g });
    levels_are = subst (λ (m : ℕ). LevelsAfter c.store.unit c.store.len m s' lv lv') more d.memory.levels_are;
  }
    where
      which : (leb (c.store.len + storable c n) c.store.capacity ≡ true) × (storable c n ≡ k)
      which = is_some (leb (c.store.len + storable c n) c.store.capacity) (storable c n) k d.taken_is

      samples_left : s' ≡ written s (c.store.len * c.store.unit) (take (k * c.store.unit) x)
      samples_left = d.memory.samples_are ∙ paste_joined s (c.store.len * c.store.unit) x (k * c.store.unit) d.enough

      reply_left : reply_as r ≡ reply_of c.armed c.limit (c.store.len + k)
      reply_left = a.reply_is ∙ ap (λ (z : Armed). reply_of z c.limit (c.store.len + k)) (sym fired)

      len_left : (feeder_in f r).capture.len ≡ c.store.len + k
      len_left = ap (λ (z : Recorder). z.store.len) (a.recorder_is f)

      more : k ≡ (feeder_in f r).capture.len - c.store.len
      more = omega (arith, len_left)

  pub stores_is : (t : Option ℕ) → Takes f n x s lv t s' lv' → Answers c t r → Stores f c n x s lv r s' lv'
  stores_is None d a = stores_none d a
  stores_is (Some k) d a = stores_some k d a
