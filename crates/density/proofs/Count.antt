-- The count of a summary is the answer, or its refusal.
use Prim.Native.Nat.{ℕ}
use mathlib.Core.Path.{◌≡◌, ap, ◌∙◌}
use Rattle.std.specs.Prelude.{Option, Result}
use Rattle.rules.specs.Node as rule
use Rattle.rules.specs.Search.{count_in}
use Rattle.rules.specs.Answer.{unless, seen}
use Rattle.answer.specs.declared.Refusal.{Refusal}
use Rattle.node.specs.declared.Node.{Node}
use Rattle.capture.proofs.Answer.{seen_unless}
use Rattle.summary.specs.Summary.{summed_of}

pub counts_of : (r : Result (Option Node) Refusal) (n : ℕ) (a : Option rule.Node) → summed_of r ≡ unless n a → seen count_in (summed_of r) ≡ unless n (count_in a)
counts_of r n a e = ap (seen count_in) e ∙ seen_unless count_in a n
