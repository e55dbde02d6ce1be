-- The call's answer as 01's: none is yes, or the first wrong node. 01: Other calls.
use Rattle.std.specs.Prelude.{List, ℕ, Option, Result}
use Rattle.std.specs.Option.{option_map}
use Rattle.rules.specs.Node.{Node}
use Rattle.rules.specs.Answer.{Answer}
use Rattle.rules.specs.Wrong as rule
use Rattle.answer.specs.Answered.{answer_of}
use Rattle.answer.specs.declared.Refusal.{Refusal}
use Rattle.node.specs.Memory.{node_in}
use Rattle.whole.specs.declared.NodeAt.{NodeAt}

-- what memory holds for node j of level l
abbrev pub held_in : (ℕ → List ℕ) → ℕ → ℕ → Node
held_in levels l j = node_in (levels l) j

-- the code's place of a node as 01's
abbrev pub at_as : NodeAt → rule.NodeAt
at_as n = record { level = n.level; number = n.number }

abbrev pub checked_of : Result (Option NodeAt) Refusal → Answer (Option rule.NodeAt)
checked_of r = answer_of (option_map at_as) r
