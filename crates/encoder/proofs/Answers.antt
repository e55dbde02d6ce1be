-- What `encoder` promises, on right levels: 02's replay of the run. Over the call's own contract, for any memory that it was lent.
use Prim.Native.Nat.{ℕ, suc, ◌+◌, ◌-◌, ◌/◌, ◌≤◌, ◌<◌}
use mathlib.Core.Path.{◌≡◌, refl, ap, ◌∙◌}
use mathlib.Core.List.{List}
use native.Mathlib.Omega.{arith}
use contract.Lifetimes.{Lfts}
use Rattle.rules.specs.Sample.{sample_of}
use Rattle.rules.specs.Node.{chunk, chunk_end, top_level}
use Rattle.rules.specs.Answer.{unless}
use Rattle.rules.specs.Encoder as rule
use Rattle.rules.specs.Encoder.{encoder, pair_mask, encoder_refusal}
use Rattle.answer.specs.declared.Refusal.{Refusal}
use Rattle.node.specs.Memory.{Right}
use Rattle.node.specs.Lent.{levels_of}
use Rattle.node.specs.declared.Memory.{Memory}
use Rattle.std.specs.Prelude.{Result}
use Rattle.pass.proofs.Right.{Reached, pass_reaches}
use Rattle.capture.specs.declared.Capture.{Capture}
use Rattle.capture.specs.Record.{store_of, lent_in}
use Rattle.encoder.specs.declared.Turns.{Turns}
use Rattle.encoder.specs.Hops.{onward_in, hops_of}
use Rattle.encoder.specs.Answer.{encoded_of, encoder_of}
use Rattle.encoder.proofs.Stretch.{chunk_inside, hops_right}
use Rattle.encoder.proofs.encoder.Reads as reads

-- the hops over right levels
pub turns_right : (unit len : ℕ) (samples : List ℕ) (levels : ℕ → List ℕ) (a b : ℕ) → Right (sample_of unit samples) len levels → hops_of unit len samples levels a b ≡ encoder (sample_of unit samples) len a b
unfolding hops_of
turns_right unit len samples levels a b right =
    hops_right unit (sample_of unit samples) len a b (onward_in unit len samples levels (pair_mask a b)) (record { least = λ p h l. (reached p h l).least; most = λ p h l. omega (arith, (reached p h l).most); still = λ p h l. (reached p h l).quiet_at })
  where
    reached : (p : ℕ) → 1 ≤ p → p < len → Reached unit samples levels len right (chunk_end len (p / chunk)) (pair_mask a b) p (onward_in unit len samples levels (pair_mask a b) p)
    reached p h l = pass_reaches unit samples levels len right (chunk_end len (p / chunk)) (pair_mask a b) (omega arith) (suc (chunk_end len (p / chunk) - p + top_level)) p top_level (sample_of unit samples (p - 1)) h (omega (arith, chunk_inside len p l)) (omega arith) refl

module _ (κs : Lfts 1) (c : Capture) (memory : Memory) (a b : ℕ) (r : Result Turns Refusal) where
  abbrev s : ℕ → ℕ
  s = sample_of c.unitsize memory.samples.now

  pub encoder_right : reads.Post κs (c, (memory, (a, (b, tt)))) r (c, (memory, (a, (b, tt))))
      → Right s c.len (levels_of memory.levels)
      → encoded_of r ≡ unless (encoder_refusal (store_of c) (lent_in memory) a b) (encoder s c.len a b)
  unfolding encoder_of
  encoder_right promised right = promised ∙ ap (unless {A = rule.Turns} (encoder_refusal (store_of c) (lent_in memory) a b)) (turns_right c.unitsize c.len memory.samples.now (levels_of memory.levels) a b right)
