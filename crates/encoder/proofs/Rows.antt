-- The answer of a call: the row that refuses, or the hops.
use Prim.Native.Nat.{ℕ}
use mathlib.Core.Path.{◌≡◌, ◌∙◌}
use Rattle.rules.specs.Answer.{refused, given}
use Rattle.rules.specs.Encoder.{Turns, encoder_refusal}
use Rattle.answer.specs.Answered.{number}
use Rattle.answer.specs.declared.Refusal.{Refusal}
use Rattle.answer.proofs.Answered.{stops, goes}
use Rattle.node.specs.Lent.{levels_of}
use Rattle.node.specs.declared.Memory.{Memory}
use Rattle.capture.specs.Record.{store_of, lent_in}
use Rattle.capture.specs.declared.Capture.{Capture}
use Rattle.encoder.specs.Hops.{hops_of}
use Rattle.encoder.specs.Replayed.{hops_in, Checked}
use Rattle.encoder.specs.Answer.{turns_for, encoder_of}
use Rattle.encoder.specs.declared.replay.Replay.{Replay}

module _ (c : Capture) (m : Memory) (a b : ℕ) where
  abbrev rows : ℕ
  rows = encoder_refusal (store_of c) (lent_in m) a b

  pub encoder_stops : (e : Refusal) → number e ≡ rows → refused (number e) ≡ encoder_of c m.samples.now (levels_of m.levels) a b
  unfolding encoder_of
  encoder_stops e h = stops e rows (turns_for c m.samples.now (levels_of m.levels) a b) h

  pub encoder_goes : {r : Replay} → Checked c m a b r → (t : Turns) → t ≡ hops_in r → given t ≡ encoder_of c m.samples.now (levels_of m.levels) a b
  unfolding encoder_of
  encoder_goes p t h =
      goes rows (turns_for c m.samples.now (levels_of m.levels) a b) t p.passes
      (h ∙ λ i. hops_of (p.opened.unit_is i) (p.opened.len_is i) (p.opened.memory_is i).samples.now (levels_of (p.opened.memory_is i).levels) (p.a_is i) (p.b_is i))
