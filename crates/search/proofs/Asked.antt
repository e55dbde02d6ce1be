-- Where a search back starts, and the answers of a capture that is opened.
use Prim.Native.Nat.{ℕ, ◌-◌, min}
use mathlib.Core.Path.{◌≡◌, sym, ap, ◌∙◌}
use mathlib.Core.Bool.{Bool, cond}
use borrow.Author.Tests.{ne_eqb}
use Rattle.rules.specs.Node.{Node}
use Rattle.rules.specs.Answer.{given}
use Rattle.rules.specs.Walk.{Walked, all_levels, nothing, next_walk, previous_from, previous_walk}
use Rattle.node.specs.Memory.{reader_of}
use Rattle.capture.specs.declared.Capture.{Capture}
use Rattle.answer.proofs.Answered.{goes}
use Rattle.node.specs.Lent.{levels_of}
use Rattle.node.specs.declared.Memory.{Memory}
use Rattle.capture.specs.Stored.{reader_in, Opened}
use Rattle.capture.specs.declared.stored.Stored.{Stored}
use Rattle.search.specs.Answer.{next_of, previous_of}

-- ---- what is stored is searched
module _ (has : ℕ → Bool) (reader : ℕ → ℕ → Node) (len mask from : ℕ) where
  pub previous_something : (len ≡ 0 → ⊥) → (p : ℕ) → p ≡ min from (len - 1) → previous_from has reader mask p ≡ previous_walk has reader len mask from
  previous_something h p e =
      ap (previous_from has reader mask) e
      ∙ sym (ap (λ (b : Bool). cond b nothing (previous_from has reader mask (min from (len - 1)))) (ne_eqb len 0 h))

-- ---- what is opened is asked
module _ {c : Capture} {m : Memory} {s : Stored} (o : Opened c m s) (mask from : ℕ) (w : Walked) where
  pub next_open : w ≡ next_walk all_levels (reader_in s) s.len mask from → given w ≡ next_of c m.samples.now (levels_of m.levels) mask from
  unfolding next_of
  next_open e = goes _ _ _ o.passes (e ∙ (λ i. next_walk all_levels (reader_of (o.unit_is i) (o.memory_is i).samples.now (levels_of (o.memory_is i).levels)) (o.len_is i) mask from))

  pub previous_open : w ≡ previous_walk all_levels (reader_in s) s.len mask from → given w ≡ previous_of c m.samples.now (levels_of m.levels) mask from
  unfolding previous_of
  previous_open e = goes _ _ _ o.passes (e ∙ (λ i. previous_walk all_levels (reader_of (o.unit_is i) (o.memory_is i).samples.now (levels_of (o.memory_is i).levels)) (o.len_is i) mask from))
