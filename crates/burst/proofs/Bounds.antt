-- What a burst reads at most, over any memory, so that no sum of its counts leaves 64 bits: a search reads few nodes, and each jump of an end goes
-- further out and stays below the most samples, so that an end makes no more of them than there are places.
use Prim.Native.Nat.{ℕ, zero, suc, ◌+◌, ◌-◌, ◌*◌, ◌≤◌, ◌<◌, min, zero-le}
use mathlib.Core.Path.{◌≡◌, refl}
use mathlib.Core.Bool.{Bool, true, false, cond}
use Rattle.std.specs.Prelude.{Option, None, Some}
use native.Mathlib.Omega.{arith}
use borrow.Author.Tests.{ltb-true}
use Rattle.rules.specs.Burst.{onward, jump_steps}
use Rattle.rules.specs.Refusal.{most_samples}
use Rattle.rules.specs.Walk.{Walked, all_levels}
use Rattle.rules.proofs.Steps.{next_steps, previous_steps}
use Rattle.capture.specs.declared.stored.Stored.{Stored}
use Rattle.capture.specs.Stored.{reader_in}
use Rattle.search.proofs.Within.{next_within, previous_within}
use Rattle.burst.specs.Answer.{back_in, fore_in, reach_of, further_of, most_search, most_end}

record Bounded (search : ℕ → Walked) : Type 0 where
  few : (from : ℕ) → (search from).steps ≤ most_search
  inside : (from i : ℕ) → (search from).found ≡ Some i → i < most_samples

-- ---- an end
-- how far it can still go out
abbrev room : Bool → ℕ → ℕ
room true p = min p most_samples
room false p = most_samples - p

room_most : (start : Bool) (p : ℕ) → room start p ≤ most_samples
room_most true p = omega arith
room_most false p = omega arith

goes_out : (start : Bool) (p e : ℕ) → e < most_samples → further_of start p e ≡ true → room start e < room start p
goes_out true p e h f = omega (arith, ltb-true e p f)
goes_out false p e h f = omega (arith, ltb-true p e f)

module _ (reach : ℕ → Walked) (b : Bounded reach) (start : Bool) where
  room_read : (budget p : ℕ) → jump_steps reach (further_of start) budget p ≤ most_search * (room start p + 1)
  unfolding jump_steps
  room_read zero p = zero-le
  room_read (suc budget) p = go (reach p).found refl (room_read budget)
    where
      rest : ℕ → ℕ
      rest = jump_steps reach (further_of start) budget

      go : (o : Option ℕ) → (reach p).found ≡ o → ((e : ℕ) → rest e ≤ most_search * (room start e + 1)) → (reach p).steps + onward (further_of start) p o rest ≤ most_search * (room start p + 1)
      go None r ih = omega (arith, b.few p)
      go (Some e) r ih = by (further_of start p e) refl
        where
          by : (t : Bool) → further_of start p e ≡ t → (reach p).steps + cond t (rest e) 0 ≤ most_search * (room start p + 1)
          by true f = omega (arith, b.few p, ih e, goes_out start p e (b.inside p e r) f)
          by false f = omega (arith, b.few p)

-- ---- the searches of what is stored
module _ (s : Stored) (mask : ℕ) where
  pub previous_few : (from : ℕ) → (back_in s mask from).steps ≤ most_search
  previous_few from = omega (arith, s.backed.most, previous_steps all_levels (reader_in s) s.len mask from)

  pub next_few : (from : ℕ) → (fore_in s mask from).steps ≤ most_search
  next_few from = omega (arith, s.backed.most, next_steps all_levels (reader_in s) s.len mask from)

  backs : Bounded (back_in s mask)
  backs = record { few = previous_few; inside = λ from i e. omega (arith, s.backed.most, (previous_within all_levels (reader_in s) s.len mask from i e).below) }

  fores : Bounded (fore_in s mask)
  fores = record { few = next_few; inside = λ from i e. omega (arith, s.backed.most, (next_within all_levels (reader_in s) s.len mask from i e).below) }

  reaches : (gap : ℕ) (start : Bool) → Bounded (reach_of (back_in s mask) (fore_in s mask) gap start)
  reaches gap true = record { few = λ p. next_few _; inside = λ p. fores.inside _ }
  reaches gap false = record { few = λ p. previous_few _; inside = λ p. backs.inside _ }

  pub end_read : (gap : ℕ) (start : Bool) (budget p : ℕ) → jump_steps (reach_of (back_in s mask) (fore_in s mask) gap start) (further_of start) budget p ≤ most_end
  end_read gap start budget p = omega (arith, room_read (reach_of (back_in s mask) (fore_in s mask) gap start) (reaches gap start) start budget p, room_most start p)
