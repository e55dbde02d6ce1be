-- `node::Node::join` meets its contract: the count is the sum of both and their border. Assumes nothing.
use mathlib.Core.Path.{ap, ◌∙◌}
use Prim.Native.Nat.{ℕ, ◌+◌}
use lib.Bits.{bit_or, bit_xor}
use Rattle.rules.specs.Node.{cap_count}
use borrow.Author.Rules.{rules}
use Rattle.node.proofs.Node.join.Statement.{statement}
use Rattle.node.proofs.Node.join.Tie as tie

border-requires : tie.Need-border-requires
border-requires c κs = search rules

added-requires : tie.Need-added-requires
added-requires c κs = search rules

returns : tie.Need-returns
returns c =
    let a = c.args in
    ap (λ (n : ℕ). record { first = a.self.first; last = a.b.last; toggles = bit_or (bit_or a.self.mask a.b.mask) (bit_xor a.self.last a.b.first); count = n })
    (c.added.ensures ∙ ap (λ (x : ℕ). cap_count (a.self.count + a.b.count + x)) c.border.ensures.0)

pub join_spec : {M : Type 1} → statement M
join_spec = tie.close (tie.spec border-requires added-requires returns)
