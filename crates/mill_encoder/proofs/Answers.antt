-- What a mill's `encoder` promises, on right levels: 02's replay of the run. Over the call's own contract, for any memory that it was lent.
use Prim.Native.Nat.{ℕ}
use mathlib.Core.Path.{◌≡◌, ap, ◌∙◌}
use Rattle.std.specs.Prelude.{Result}
use contract.Lifetimes.{Lfts}
use Rattle.rules.specs.Sample.{sample_of}
use Rattle.rules.specs.Answer.{unless}
use Rattle.rules.specs.Encoder as rule
use Rattle.rules.specs.Encoder.{encoder}
use Rattle.rules.specs.Mill.{mill_encoder_refusal}
use Rattle.answer.specs.declared.Refusal.{Refusal}
use Rattle.node.specs.Memory.{Right}
use Rattle.node.specs.Lent.{levels_of}
use Rattle.node.specs.declared.Memory.{Memory}
use Rattle.capture.specs.declared.Capture.{Capture}
use Rattle.capture.specs.Record.{store_of, lent_in}
use Rattle.encoder.specs.declared.Turns.{Turns}
use Rattle.encoder.specs.Answer.{encoded_of}
use Rattle.encoder.proofs.Answers.{turns_right}
use Rattle.mill_encoder.specs.Answer.{encoder_of}
use Rattle.mill_encoder.proofs.encoder.Reads as reads

module _ (κs : Lfts 1) (c : Capture) (memory : Memory) (grant a b : ℕ) (r : Result Turns Refusal) where
  abbrev s : ℕ → ℕ
  s = sample_of c.unitsize memory.samples.now

  pub encoder_right : reads.Post κs (c, (memory, (grant, (a, (b, tt))))) r (c, (memory, (grant, (a, (b, tt)))))
      → Right s c.len (levels_of memory.levels)
      → encoded_of r ≡ unless (mill_encoder_refusal (store_of c) (lent_in memory) grant a b) (encoder s c.len a b)
  unfolding encoder_of
  encoder_right promised right = promised ∙ ap (unless {A = rule.Turns} (mill_encoder_refusal (store_of c) (lent_in memory) grant a b)) (turns_right c.unitsize c.len memory.samples.now (levels_of memory.levels) a b right)
