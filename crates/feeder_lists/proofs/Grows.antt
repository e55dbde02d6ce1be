-- A push only adds to the store: the stored samples stay, whatever the push does.
use mathlib.Core.Path.{◌≡◌, refl, sym, ap, ◌∙◌}
use mathlib.Core.Bool.{Bool, true, false, cond}
use mathlib.Core.List.{List, [], ◌++◌, append-nil}
use Prim.Native.Nat.{ℕ, ◌≤◌, ◌<◌}
use native.Mathlib.Omega.{arith}
use lib.Dec.{ltb, leb}
use lib.ListN.{length, drop, get_or, length-append, get_or-append}
use Rattle.rules.specs.Sample.{sample_of, samples_of}
use Rattle.rules.specs.Trigger.{Armed, unarmed, waiting, first_fire}
use Rattle.rules.specs.Selection.{Rule, refused, going_on, reply_of}
use Rattle.rules.specs.Refusal.{Recorder}
use Rattle.feeder_lists.specs.Bytes.{units}
use Rattle.feeder_lists.specs.Step.{State, Done, with_more, more_of, len_with, storing, fired, head_of, waited, taken, step}
use Rattle.feeder_lists.specs.Push.{push_bytes}
use Rattle.feeder_lists.proofs.Bytes.{units_length, units_at}
use Rattle.feeder_lists.proofs.Push.{rule_in, stands, Ready, push_carried, Goes, push_goes}

-- what is stored, and more
abbrev More : List ℕ → List ℕ → Type 0
More before after = (ys : List ℕ) × (after ≡ before ++ ys)

storing_more : (r : Rule) (back s : State) (xs : List ℕ) → back.stored ≡ s.stored → More s.stored (storing r back s xs).state.stored
unfolding storing
storing_more r back s xs e = go (leb (len_with r (length s.stored) (length xs)) r.capacity)
  where
    go : (t : Bool) → More s.stored (cond {A = Done} t (record { reply = reply_of s.armed r.limit (len_with r (length s.stored) (length xs)); state = with_more s (more_of r s xs) }) (record { reply = refused 8; state = back })).state.stored
    go true = (more_of r s xs, refl)
    go false = ([], e ∙ sym (append-nil s.stored))

step_more : (r : Rule) (s : State) (p : List ℕ) → More s.stored (step r s p).state.stored
unfolding step
step_more r s p = go s.armed
  where
    armed : (i : ℕ) (t : Bool) → More s.stored (cond {A = Done} t (storing r s (fired r s p i) (head_of r s p i ++ drop i p)) (record { reply = going_on; state = waited r s p })).state.stored
    armed i true = storing_more r s (fired r s p i) (head_of r s p i ++ drop i p) refl
    armed i false = ([], sym (append-nil s.stored))

    go : (a : Armed) → More s.stored (taken a r s p).state.stored
    go unarmed = storing_more r s s p refl
    go (waiting m) = armed (first_fire m s.previous p) (ltb (first_fire m s.previous p) (length p))

-- samples of bytes, of which the first n are the first n of others
module _ (u : ℕ) (n n' : ℕ) (s s' : List ℕ) (more : More (units u n s) (units u n' s')) where
  longer : n ≤ n'
  longer = omega (arith, sym (units_length u n' s') ∙ ap length more.1 ∙ length-append (units u n s) more.0, units_length u n s)

  first_same : (i : ℕ) → i < n → sample_of u s' i ≡ sample_of u s i
  first_same i h =
      sym (units_at u n' s' i (omega (arith, longer)))
      ∙ ap (λ (x : List ℕ). get_or x i 0) more.1
      ∙ get_or-append (units u n s) more.0 0 i (omega (arith, units_length u n s))
      ∙ units_at u n s i h

pub record Grows (c c' : Recorder) (s s' : List ℕ) : Type 0 where
  pub unit : c'.store.unit ≡ c.store.unit
  pub len : c.store.len ≤ c'.store.len
  pub room : c'.store.len ≤ c.store.capacity
  pub old : (i : ℕ) → i < c.store.len → sample_of c.store.unit s' i ≡ sample_of c.store.unit s i

pub push_grows : (c : Recorder) (s g b : List ℕ) → Ready c s g → Grows c (push_bytes c s g b).recorder s (push_bytes c s g b).samples
push_grows c s g b ok = record {
  unit = goes.unit;
  len = longer c.store.unit c.store.len len' s s' more;
  room = omega (arith, goes.ready.len, goes.capacity);
  old = first_same c.store.unit c.store.len len' s s' more;
}
  where
    s' : List ℕ
    s' = (push_bytes c s g b).samples

    len' : ℕ
    len' = (push_bytes c s g b).recorder.store.len

    goes : Goes (rule_in c) (length s) (length g) (push_bytes c s g b).recorder s' (push_bytes c s g b).ring
    goes = push_goes (rule_in c) (length s) (length g) c s g b (record { unit = refl; capacity = refl; limit = refl; pre = refl; samples_length = refl; ring_length = refl; ready = ok })

    stored : units c.store.unit len' s' ≡ (step (rule_in c) (stands c s g) (samples_of c.store.unit b)).state.stored
    stored = ap (λ (u : ℕ). units u len' s') (sym goes.unit) ∙ ap (λ (d : Done). d.state.stored) (push_carried c s g b ok)

    more : More (units c.store.unit c.store.len s) (units c.store.unit len' s')
    more = let m = step_more (rule_in c) (stands c s g) (samples_of c.store.unit b) in (m.0, stored ∙ m.1)
