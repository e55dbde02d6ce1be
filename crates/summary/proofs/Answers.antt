-- What `summary` promises, on right levels: 01's summary. Over the call's own contract, for any memory that it was lent.
use Prim.Native.Nat.{ℕ}
use mathlib.Core.Path.{◌≡◌, ap, ◌∙◌}
use Rattle.std.specs.Prelude.{Option, Result}
use contract.Lifetimes.{Lfts}
use Rattle.rules.specs.Sample.{sample_of}
use Rattle.rules.specs.Node as rule
use Rattle.rules.specs.Search.{summary}
use Rattle.rules.specs.Answer.{unless}
use Rattle.rules.specs.Refusal.{store_refusal}
use Rattle.answer.specs.declared.Refusal.{Refusal}
use Rattle.node.specs.Memory.{Right}
use Rattle.node.specs.Lent.{levels_of}
use Rattle.node.specs.declared.Node.{Node}
use Rattle.node.specs.declared.Memory.{Memory}
use Rattle.capture.specs.declared.Capture.{Capture}
use Rattle.capture.specs.Record.{store_of, lent_in}
use Rattle.summary.specs.Summary.{summed_of}
use Rattle.summary.proofs.Laws.{summary_is}
use Rattle.summary.proofs.summary.Reads as reads

module _ (κs : Lfts 1) (c : Capture) (memory : Memory) (a b : ℕ) (r : Result (Option Node) Refusal) where
  pub summary_right : reads.Post κs (c, (memory, (a, (b, tt)))) r (c, (memory, (a, (b, tt))))
      → Right (sample_of c.unitsize memory.samples.now) c.len (levels_of memory.levels)
      → summed_of r ≡ unless (store_refusal (store_of c) (lent_in memory)) (summary (sample_of c.unitsize memory.samples.now) c.len a b)
  summary_right promised right = promised ∙ ap (unless {A = Option rule.Node} (store_refusal (store_of c) (lent_in memory))) (summary_is (levels_of memory.levels) (sample_of c.unitsize memory.samples.now) c.len right a b)
