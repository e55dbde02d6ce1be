-- What the service's searches find is stored, so that a mill can count it.
use Prim.Native.Nat.{ℕ, ◌<◌}
use mathlib.Core.Path.{◌≡◌, sym, ap, ◌∙◌}
use Rattle.std.specs.Prelude.{Some}
use Rattle.rules.specs.Burst.{places, bursted_by}
use Rattle.rules.specs.Walk as walk
use Rattle.rules.specs.Walk.{Walked, all_levels}
use Rattle.answer.specs.Answered.{counted_of}
use Rattle.answer.specs.declared.Counted.{Counted}
use Rattle.capture.specs.declared.stored.Stored.{Stored}
use Rattle.capture.specs.Stored.{reader_in}
use Rattle.search.proofs.Within.{next_within, previous_within}
use Rattle.burst.specs.declared.Burst.{Burst}
use Rattle.burst.specs.Answer.{bursts_as, as_burst, back_in, fore_in}
use Rattle.burst.proofs.Ends.{burst_ends}
use Rattle.mill_search.specs.Answer.{EachPlace, EachBurst}

module _ (s : Stored) (mask : ℕ) where
  next_below : (x i : ℕ) → (fore_in s mask x).found ≡ Some i → i < s.len
  next_below x i e = (next_within all_levels (reader_in s) s.len mask x i e).below

  previous_below : (x i : ℕ) → (back_in s mask x).found ≡ Some i → i < s.len
  previous_below x i e = (previous_within all_levels (reader_in s) s.len mask x i e).below

  pub next_each : (x : ℕ) (r : Counted ℕ) → counted_of r ≡ fore_in s mask x → EachPlace s.len r
  next_each x r h = record { inside = λ i e. next_below x i (sym (ap (λ (w : Walked). w.found) h) ∙ e) }

  pub previous_each : (x : ℕ) (r : Counted ℕ) → counted_of r ≡ back_in s mask x → EachPlace s.len r
  previous_each x r h = record { inside = λ i e. previous_below x i (sym (ap (λ (w : Walked). w.found) h) ∙ e) }

  pub burst_each : (x gap tolerance budget : ℕ) (r : Counted Burst) → bursts_as r ≡ bursted_by (back_in s mask) (fore_in s mask) s.len x gap tolerance budget → EachBurst s.len r
  burst_each x gap tolerance budget r h = record {
    inside = λ b e.
        let shown : (bursts_as r).found ≡ Some (as_burst b) = ap (λ o. (bursts_as (record { found = o; steps = r.steps })).found) e in
        let t = burst_ends (λ (i : ℕ). i < s.len) (places (back_in s mask)) (places (fore_in s mask)) previous_below next_below s.len x gap tolerance budget (as_burst b) (sym (ap (λ (w : walk.Counted _). w.found) h) ∙ shown) in
        (t.at_first, t.at_last);
  }
