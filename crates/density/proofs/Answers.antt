-- What `density` promises, on right levels: 02's number of changes. Over the call's own contract, for any memory that it was lent.
use Prim.Native.Nat.{ℕ, ◌≤◌}
use mathlib.Core.Path.{◌≡◌, ap, ◌∙◌}
use Rattle.std.specs.Prelude.{Result}
use contract.Lifetimes.{Lfts}
use Rattle.rules.specs.Sample.{sample_of}
use Rattle.rules.specs.Node.{most_count}
use Rattle.rules.specs.Search.{count_in, density}
use Rattle.rules.specs.Answer.{unless}
use Rattle.rules.specs.Refusal.{store_refusal}
use Rattle.rules.proofs.Density.{summary_count}
use Rattle.answer.specs.declared.Refusal.{Refusal}
use Rattle.node.specs.Memory.{Right}
use Rattle.node.specs.Lent.{levels_of}
use Rattle.node.specs.declared.Memory.{Memory}
use Rattle.capture.specs.declared.Capture.{Capture}
use Rattle.capture.specs.Record.{store_of, lent_in}
use Rattle.summary.proofs.Laws.{summary_is}
use Rattle.density.specs.Density.{changes_of}
use Rattle.density.proofs.density.Reads as reads

module _ (κs : Lfts 1) (c : Capture) (memory : Memory) (a b : ℕ) (r : Result ℕ Refusal) where
  abbrev s : ℕ → ℕ
  s = sample_of c.unitsize memory.samples.now

  pub density_right : reads.Post κs (c, (memory, (a, (b, tt)))) r (c, (memory, (a, (b, tt))))
      → Right s c.len (levels_of memory.levels)
      → c.len ≤ most_count
      → changes_of r ≡ unless (store_refusal (store_of c) (lent_in memory)) (density s c.len a b)
  density_right promised right few =
      promised ∙ ap (unless {A = ℕ} (store_refusal (store_of c) (lent_in memory))) (ap count_in (summary_is (levels_of memory.levels) s c.len right a b) ∙ summary_count s c.len a b few)
