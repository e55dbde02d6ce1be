-- What `whole` promises: yes exactly when the levels are right. Over the call's own contract, for any memory that it was lent.
use Prim.Native.Nat.{ℕ}
use mathlib.Core.Path.{◌≡◌, refl, ap, ◌∙◌}
use mathlib.Core.Logic.{◌↔◌}
use Rattle.std.specs.Prelude.{Option, None, Some, Result, Ok, Err}
use native.Mathlib.Omega.{arith}
use contract.Lifetimes.{Lfts}
use Rattle.rules.specs.Wrong as rule
use Rattle.rules.specs.Sample.{sample_of}
use Rattle.rules.specs.Answer.{given, unless}
use Rattle.rules.specs.Refusal.{store_refusal}
use Rattle.answer.specs.declared.Refusal.{Refusal}
use Rattle.node.specs.Memory.{Right}
use Rattle.node.specs.Lent.{levels_of}
use Rattle.node.specs.declared.Memory.{Memory}
use Rattle.capture.specs.declared.Capture.{Capture}
use Rattle.capture.specs.Record.{store_of, lent_in}
use Rattle.whole.specs.declared.NodeAt.{NodeAt}
use Rattle.whole.specs.Wrong.{held_in, checked_of}
use Rattle.whole.proofs.Laws.{right_is}
use Rattle.whole.proofs.whole.Reads as reads

-- an answer is yes exactly when it finds no node
yes_is : (r : Result (Option NodeAt) Refusal) (o : Option rule.NodeAt) → checked_of r ≡ given o → (r ≡ Ok None) ↔ (o ≡ None)
yes_is (Err n) o e = let z : ◌≡◌ {A = ℕ} 0 1 = cc in absurd (omega arith)
yes_is (Ok None) o e = (λ q. cc, λ q. refl)
yes_is (Ok (Some n)) o e = (λ q. let z : ◌≡◌ {A = ℕ} 0 1 = cc in absurd (omega arith), λ q. let z : ◌≡◌ {A = ℕ} 0 1 = cc in absurd (omega arith))

module _ (κs : Lfts 1) (c : Capture) (memory : Memory) (r : Result (Option NodeAt) Refusal) where
  abbrev found : Option rule.NodeAt
  found = rule.whole_answer (sample_of c.unitsize memory.samples.now) c.len (held_in (levels_of memory.levels))

  pub whole_yes : reads.Post κs (c, (memory, tt)) r (c, (memory, tt))
      → store_refusal (store_of c) (lent_in memory) ≡ 0
      → (r ≡ Ok None) ↔ Right (sample_of c.unitsize memory.samples.now) c.len (levels_of memory.levels)
  whole_yes promised z =
      let y = yes_is r found (promised ∙ ap (λ (n : ℕ). unless {A = Option rule.NodeAt} n found) z) in
      let t = right_is (sample_of c.unitsize memory.samples.now) c.len (levels_of memory.levels) in
      (λ q. t.0 (y.0 q), λ q. y.1 (t.1 q))
