-- Laws of an armed recorder: what a push that fires takes, and what one that does not leaves.
use mathlib.Core.Path.{◌≡◌, refl, sym, ap, ◌∙◌, subst, subst₂}
use Rattle.std.specs.Prelude.{Option, Some, Result}
use mathlib.Core.List.{List, ◌++◌}
use Prim.Native.Nat.{ℕ, ◌+◌, ◌-◌, ◌*◌, min}
use native.Mathlib.Omega.{arith}
use lib.ListN.{length, drop}
use Rattle.rules.specs.Trigger.{last_of}
use Rattle.rules.specs.Refusal.{Recorder}
use Rattle.rules.specs.Ring.{place_after, kept_bytes}
use Rattle.rules.specs.Push.{fired_by, waited_for, wanted, passed}
use Rattle.feeder_lists.proofs.Bytes.{units_length}
use Rattle.answer.specs.declared.Refusal.{Refusal}
use Rattle.feeder.specs.declared.Feeder.{Feeder}
use Rattle.feeder.specs.Record.{recorder_of}
use Rattle.feeder_scan.specs.Scan.{sample_in, samples_in}
use Rattle.feeder_scan.specs.declared.samples.Samples.{Samples}
use Rattle.feeder_run.specs.Run.{Takes}
use Rattle.feeder_push.specs.declared.Pushed.{Pushed}
use Rattle.feeder_push.specs.Inner.{Answers, Stores}
use Rattle.feeder_push.proofs.Left.{like, stores_is}

-- ---- a push that fires at i
module _ (f : Feeder) (p : Samples) (s : List ℕ) (lv : ℕ → List ℕ) (g : List ℕ) (i : ℕ) {j w : ℕ} (ej : j ≡ min i f.pre) (ew : w ≡ min f.kept (f.pre - j)) where
  abbrev c : Recorder
  c = recorder_of f

  wanted_so : w ≡ wanted c i
  wanted_so = omega arith

  passed_so : i - j ≡ passed c i
  passed_so = omega arith

  -- p samples of the ring, and the push's but for d
  abbrev Took : ℕ → ℕ → Option ℕ → List ℕ → (ℕ → List ℕ) → Type 0
  Took k d t s' lv' = Takes f (k + (p.n - d)) (kept_bytes f.capture.unitsize f.pre g f.place k ++ drop (d * f.capture.unitsize) p.bytes.now) s lv t s' lv'

  pub fire_done : {t : Option ℕ} {s' : List ℕ} (lv' : ℕ → List ℕ) → Took w (i - j) t s' lv' → {k : Recorder} {v : ℕ} → k ≡ fired_by c v i → v ≡ sample_in p i → {r : Result Pushed Refusal} → Answers k t r
      → Stores f (fired_by c (sample_in p i) i) (wanted c i + (p.n - passed c i)) (kept_bytes f.capture.unitsize f.pre g f.place (wanted c i) ++ drop (passed c i * f.capture.unitsize) p.bytes.now) s lv r s' lv'
  fire_done {t} {s'} lv' took {k} {v} ek ev {r} a =
      stores_is f (Some (min f.pre (f.kept + i))) refl (Some (sample_in p i)) 0 0 (wanted c i + (p.n - passed c i)) (kept_bytes f.capture.unitsize f.pre g f.place (wanted c i) ++ drop (passed c i * f.capture.unitsize) p.bytes.now) s lv r s' lv' t
      (subst₂ (λ (p q : ℕ). Took p q t s' lv') wanted_so passed_so took)
      (subst (λ (x : Recorder). Answers x t r) (ek ∙ ap (λ (x : ℕ). fired_by c x i) ev) a)

-- ---- a push that does not fire
pub waited_is : (c : Recorder) (p : Samples) {previous : Option ℕ} {place kept : ℕ} → previous ≡ last_of c.previous (samples_in p) → place ≡ place_after c.pre c.place p.n
    → kept ≡ min c.pre (c.kept + p.n) → like c c.store.mark c.armed previous place kept ≡ waited_for c (samples_in p)
waited_is c p {previous} {place} {kept} eq ep ek = λ j. like c c.store.mark c.armed (eq j) (place_is j) (kept_is j)
  where
    count : p.n ≡ length (samples_in p)
    count = sym (units_length p.unitsize p.n p.bytes.now)

    place_is : place ≡ place_after c.pre c.place (length (samples_in p))
    place_is = ep ∙ ap (place_after c.pre c.place) count

    kept_is : kept ≡ min c.pre (c.kept + length (samples_in p))
    kept_is = ek ∙ ap (λ (k : ℕ). min c.pre (c.kept + k)) count
