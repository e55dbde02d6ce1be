-- A chunk's part of sample memory, read by places of the capture, and what a search over it may read.
use Rattle.std.specs.Prelude.{cond, List, ℕ, ◌-◌, ◌/◌, eqb}
use Rattle.rules.specs.Sample.{sample_of}
use Rattle.rules.specs.Node.{Node, leaf, span}
use Rattle.node.specs.Memory.{node_in}
use Rattle.capture.specs.Backed.{Nodes, Bytes}

-- what memory has for the node of level l that starts at place p, where the lent samples start at place base
unfoldable pub reader_from : ℕ → ℕ → List ℕ → (ℕ → List ℕ) → ℕ → ℕ → Node
reader_from base unit part levels l p = cond (eqb l 0) (leaf (sample_of unit part (p - base))) (node_in (levels l) (p / span l))

-- the samples from base to hi, and the nodes below hi, lie in memory
pub record PartBacked (unit base hi : ℕ) (part : List ℕ) (levels : ℕ → List ℕ) : Type 0 where
  pub bytes : Bytes unit (hi - base) part
  pub nodes : Nodes hi levels
