-- What a mill's `summary` promises, on right levels: the granted lines of 01's summary. Over the call's own contract, for any memory that it was lent.
-- The other calls read no level: their contracts are the rules themselves.
use Prim.Native.Nat.{ℕ}
use mathlib.Core.Path.{◌≡◌, ap, ◌∙◌}
use Rattle.std.specs.Prelude.{Option, Result}
use lib.IntN.{ℤ}
use contract.Lifetimes.{Lfts}
use Rattle.rules.specs.Sample.{sample_of}
use Rattle.rules.specs.Node.{Node}
use Rattle.rules.specs.Search.{summary, cut_summary}
use Rattle.rules.specs.Answer.{unless}
use Rattle.rules.specs.Mill.{place_at, mill_summary_refusal}
use Rattle.answer.specs.declared.Refusal.{Refusal}
use Rattle.node.specs.Memory.{Right}
use Rattle.node.specs.Lent.{levels_of}
use Rattle.node.specs.declared.Memory.{Memory}
use Rattle.capture.specs.declared.Capture.{Capture}
use Rattle.capture.specs.Record.{store_of, lent_in}
use Rattle.summary.proofs.Laws.{summary_is}
use Rattle.mill.specs.Reader.{origin_in}
use Rattle.mill_read.specs.declared.Lines.{Lines}
use Rattle.mill_read.specs.Read.{shown_of}
use Rattle.mill_read.proofs.summary.Reads as reads

module _ (κs : Lfts 1) (c : Capture) (memory : Memory) (grant : ℕ) (a b : ℤ) (r : Result (Option Lines) Refusal) where
  abbrev s : ℕ → ℕ
  s = sample_of c.unitsize memory.samples.now

  abbrev rows : ℕ
  rows = mill_summary_refusal (store_of c) (lent_in memory) a b

  pub summary_right : reads.Post κs (c, (memory, (grant, (a, (b, tt))))) r (c, (memory, (grant, (a, (b, tt)))))
      → Right s c.len (levels_of memory.levels)
      → shown_of r ≡ unless rows (cut_summary grant (summary s c.len (place_at (origin_in c) a) (place_at (origin_in c) b)))
  summary_right promised right =
      promised ∙ ap (λ (x : Option Node). unless rows (cut_summary grant x)) (summary_is (levels_of memory.levels) s c.len right (place_at (origin_in c) a) (place_at (origin_in c) b))
