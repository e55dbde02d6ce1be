-- Next is the smallest place after a place at which a test holds, previous the largest up to it, and each is none exactly when there is none.
use Prim.Native.Nat.{ℕ, zero, suc, ◌+◌, ◌-◌, ◌≤◌, ◌<◌, min}
use mathlib.Core.Path.{◌≡◌, refl, sym, ap, ◌∙◌}
use mathlib.Core.Bool.{Bool, true, false, cond}
use mathlib.Core.Logic.{◌↔◌}
use Rattle.std.specs.Prelude.{None, Some}
use native.Mathlib.Nat.{not-suc-le-zero, zero-lt-suc, add-zero, zero-add, suc-add}
use native.Mathlib.Omega.{arith}
use Rattle.rules.specs.Search.{seek, higher, lower, next_at, previous_at}
use Rattle.rules.specs.Walk.{or_found}

-- k steps from p
unfoldable pub times : (ℕ → ℕ) → ℕ → ℕ → ℕ
times step zero p = p
times step (suc k) p = times step k (step p)

pub times_zero : (step : ℕ → ℕ) (p : ℕ) → times step 0 p ≡ p
unfolding times
times_zero step p = refl

pub times_add : (step : ℕ → ℕ) (k j p : ℕ) → times step (k + j) p ≡ times step j (times step k p)
unfolding times
times_add step zero j p = ap (λ (n : ℕ). times step n p) (zero-add j)
times_add step (suc k) j p = ap (λ (n : ℕ). times step n p) (suc-add k j) ∙ times_add step k j (step p)

pub times_up : (k p : ℕ) → times higher k p ≡ p + k
unfolding times
times_up zero p = sym (add-zero p)
times_up (suc k) p = times_up k (p + 1) ∙ omega arith

pub times_down : (k p : ℕ) → times lower k p ≡ p - k
unfolding times
times_down zero p = omega arith
times_down (suc k) p = times_down k (p - 1) ∙ omega arith

-- ---- seek
-- the first of n places at which the test holds
pub record First (step : ℕ → ℕ) (test : ℕ → Bool) (p n i : ℕ) : Type 0 where
  pub at : ℕ
  pub below : at < n
  pub is : i ≡ times step at p
  pub holds : test i ≡ true
  pub before : (j : ℕ) → j < at → test (times step j p) ≡ false

module _ (step : ℕ → ℕ) (test : ℕ → Bool) where
  pub seek_some : (p n i : ℕ) → seek step test p n ≡ Some i → First step test p n i
  unfolding seek times
  seek_some p zero i e = let z : ◌≡◌ {A = ℕ} 0 1 = cc in absurd (omega arith)
  seek_some p (suc n) i e = go (test p) refl (seek_some (step p) n i) e
    where
      go : (b : Bool) → test p ≡ b → (seek step test (step p) n ≡ Some i → First step test (step p) n i) → cond b (Some p) (seek step test (step p) n) ≡ Some i → First step test p (suc n) i
      go true t ih e' = let y : i ≡ p = cc in record { at = 0; below = zero-lt-suc n; is = y; holds = ap test y ∙ t; before = λ j h. absurd (not-suc-le-zero h) }
      go false t ih e' = let f = ih e' in record { at = suc f.at; below = omega (arith, f.below); is = f.is; holds = f.holds; before = first }
        where
          first : (j : ℕ) → j < suc (ih e').at → test (times step j p) ≡ false
          first zero h = t
          first (suc j) h = (ih e').before j (omega arith)

  pub seek_none : (p n : ℕ) → seek step test p n ≡ None → (j : ℕ) → j < n → test (times step j p) ≡ false
  unfolding seek times
  seek_none p zero e j h = absurd (not-suc-le-zero h)
  seek_none p (suc n) e j h = go (test p) refl (seek_none (step p) n) e j h
    where
      go : (b : Bool) → test p ≡ b → (seek step test (step p) n ≡ None → (j : ℕ) → j < n → test (times step j (step p)) ≡ false) → cond b (Some p) (seek step test (step p) n) ≡ None → (j : ℕ) → j < suc n → test (times step j p) ≡ false
      go true t ih e' j h = let z : ◌≡◌ {A = ℕ} 0 1 = cc in absurd (omega arith)
      go false t ih e' zero h = t
      go false t ih e' (suc j) h = ih e' j (omega arith)

  -- places at which the test fails are passed
  pub seek_skip : (p k n : ℕ) → ((j : ℕ) → j < k → test (times step j p) ≡ false) → seek step test p (k + n) ≡ seek step test (times step k p) n
  unfolding seek times
  seek_skip p zero n h = ap (seek step test p) (zero-add n)
  seek_skip p (suc k) n h =
      ap (seek step test p) (suc-add k n)
      ∙ ap (λ (b : Bool). cond b (Some p) (seek step test (step p) (k + n))) (h 0 (zero-lt-suc k))
      ∙ seek_skip (step p) k n (λ j l. h (suc j) (omega arith))

  -- a place at which it holds is the find
  pub seek_here : (p n : ℕ) → test p ≡ true → 0 < n → seek step test p n ≡ Some p
  unfolding seek
  seek_here p zero t h = absurd (not-suc-le-zero h)
  seek_here p (suc n) t h = ap (λ (b : Bool). cond b (Some p) (seek step test (step p) n)) t

  pub none_seek : (p n : ℕ) → ((j : ℕ) → j < n → test (times step j p) ≡ false) → seek step test p n ≡ None
  unfolding seek
  none_seek p n h = ap (seek step test p) (sym (add-zero n)) ∙ seek_skip p n 0 h

  -- k places, and then n more
  pub seek_append : (p k n : ℕ) → seek step test p (k + n) ≡ or_found (seek step test p k) (seek step test (times step k p) n)
  unfolding seek times
  seek_append p zero n = ap (seek step test p) (zero-add n)
  seek_append p (suc k) n = ap (seek step test p) (suc-add k n) ∙ go (test p) (seek_append (step p) k n)
    where
      go : (b : Bool) → seek step test (step p) (k + n) ≡ or_found (seek step test (step p) k) (seek step test (times step k (step p)) n)
          → cond b (Some p) (seek step test (step p) (k + n)) ≡ or_found (cond b (Some p) (seek step test (step p) k)) (seek step test (times step k (step p)) n)
      go true ih = refl
      go false ih = ih

-- ---- next and previous, at which any test holds: of next and previous it is `changed`
module _ (test : ℕ → Bool) (len from : ℕ) where
  -- "smallest i with from < i < len"
  pub record Smallest (i : ℕ) : Type 0 where
    pub after : from < i
    pub below : i < len
    pub holds : test i ≡ true
    pub least : (j : ℕ) → from < j → j < i → test j ≡ false

  pub next_some : (i : ℕ) → next_at test len from ≡ Some i → Smallest i
  next_some i e = record {
    after = omega (arith, place);
    below = omega (arith, place, f.below);
    holds = f.holds;
    least = λ j a b. ap test (sym (times_up (j - (from + 1)) (from + 1) ∙ omega arith)) ∙ f.before (j - (from + 1)) (omega (arith, place));
  }
    where
      f : First higher test (from + 1) (len - (from + 1)) i
      f = seek_some higher test (from + 1) (len - (from + 1)) i e

      place : i ≡ from + 1 + f.at
      place = f.is ∙ times_up f.at (from + 1)

  pub next_none : (next_at test len from ≡ None) ↔ ((j : ℕ) → from < j → j < len → test j ≡ false)
  next_none = (
    λ e j a b. ap test (sym (times_up (j - (from + 1)) (from + 1) ∙ omega arith)) ∙ seek_none higher test (from + 1) (len - (from + 1)) e (j - (from + 1)) (omega arith),
    λ h. none_seek higher test (from + 1) (len - (from + 1)) (λ j a. h (times higher j (from + 1)) (omega (arith, times_up j (from + 1))) (omega (arith, times_up j (from + 1)))),
  )

  -- "largest such i with 1 ≤ i ≤ from"
  pub record Largest (i : ℕ) : Type 0 where
    pub above : 1 ≤ i
    pub upto : i ≤ from
    pub below : i < len
    pub holds : test i ≡ true
    pub most : (j : ℕ) → i < j → j ≤ from → j < len → test j ≡ false

  pub previous_some : (i : ℕ) → previous_at test len from ≡ Some i → Largest i
  previous_some i e = record {
    above = omega (arith, place, f.below);
    upto = omega (arith, place, f.below);
    below = omega (arith, place, f.below);
    holds = f.holds;
    most = λ j a b c. ap test (sym (times_down (min from (len - 1) - j) (min from (len - 1)) ∙ omega arith)) ∙ f.before (min from (len - 1) - j) (omega (arith, place, f.below));
  }
    where
      f : First lower test (min from (len - 1)) (min from (len - 1)) i
      f = seek_some lower test (min from (len - 1)) (min from (len - 1)) i e

      place : i ≡ min from (len - 1) - f.at
      place = f.is ∙ times_down f.at (min from (len - 1))

  pub previous_none : (previous_at test len from ≡ None) ↔ ((j : ℕ) → 1 ≤ j → j ≤ from → j < len → test j ≡ false)
  previous_none = (
    λ e j a b c.
        ap test (sym (times_down (min from (len - 1) - j) (min from (len - 1)) ∙ omega arith))
        ∙ seek_none lower test (min from (len - 1)) (min from (len - 1)) e (min from (len - 1) - j) (omega arith),
    λ h. none_seek lower test (min from (len - 1)) (min from (len - 1)) (λ j a. h (times lower j (min from (len - 1))) (omega (arith, times_down j (min from (len - 1)))) (omega (arith, times_down j (min from (len - 1)))) (omega (arith, times_down j (min from (len - 1))))),
  )
