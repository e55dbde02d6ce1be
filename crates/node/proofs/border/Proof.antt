-- `node::border` meets its contract: 0 where the samples are equal, else 1. Assumes nothing.
use mathlib.Core.Path.{refl}
use native.Mathlib.Omega.{arith}
use borrow.Author.Tests.{eq-eqb, ne_eqb}
use Rattle.node.proofs.border.Statement.{statement}
use Rattle.node.proofs.border.Tie as tie

returns : tie.Need-returns-then-x-y
returns c = let a = c.args in rw (eq-eqb a.x a.y c.if-x-y.true) (refl, omega arith)

returns-2 : tie.Need-returns-else-x-y
returns-2 c = let a = c.args in rw (ne_eqb a.x a.y c.if-x-y.false) (refl, omega arith)

pub border_spec : {M : Type 1} → statement M
border_spec = tie.close (tie.spec returns returns-2)
