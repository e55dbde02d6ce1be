-- Two lines that rows 1, 2 and 14 let pass, and what they do, over memory's own nodes. 02: CR 6.
use Rattle.std.specs.Prelude.{◌≡◌, ℕ, Result, Ok, Err}
use Rattle.rules.specs.Encoder.{Turns, pair_mask, encoder_refusal}
use Rattle.answer.specs.Answered.{number}
use Rattle.answer.specs.declared.Refusal.{Refusal}
use Rattle.node.specs.Lent.{levels_of}
use Rattle.node.specs.declared.Memory.{Memory}
use Rattle.capture.specs.Record.{store_of, lent_in}
use Rattle.capture.specs.Stored.{Opened}
use Rattle.capture.specs.declared.Capture.{Capture}
use Rattle.encoder.specs.Hops.{onward_in, hops_of}
use Rattle.encoder.specs.declared.replay.Replay.{Replay}

-- how far nodes are quiet
abbrev pub onward_from : Replay → ℕ → ℕ
onward_from r = onward_in r.stored.unitsize r.stored.len r.stored.memory.samples.now (levels_of r.stored.memory.levels) (pair_mask r.a r.b)

-- what the lines do
abbrev pub hops_in : Replay → Turns
hops_in r = hops_of r.stored.unitsize r.stored.len r.stored.memory.samples.now (levels_of r.stored.memory.levels) r.a r.b

-- no row refuses, and this is what was asked
pub record Checked (c : Capture) (m : Memory) (a b : ℕ) (r : Replay) : Type 0 where
  pub passes : encoder_refusal (store_of c) (lent_in m) a b ≡ 0
  pub opened : Opened c m r.stored
  pub a_is : r.a ≡ a
  pub b_is : r.b ≡ b

-- or the first that does
abbrev pub Checks : Capture → Memory → ℕ → ℕ → Result Replay Refusal → Type 0
Checks c m a b (Ok r) = Checked c m a b r
Checks c m a b (Err e) = number e ≡ encoder_refusal (store_of c) (lent_in m) a b
