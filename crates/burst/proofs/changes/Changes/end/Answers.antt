-- Jump by jump the loop is the definition's, and it reads the nodes of every try.
use Rattle.std.proofs.Common.{arith, sym, ◌∙◌}
use Rattle.burst.proofs.Bounds.{end_read}
use Rattle.burst.proofs.Jumps.{jumping_starts, jumping_read, jumping_none, jumping_near, jumping_on, jumping_spent}
use Rattle.burst.proofs.changes.Changes.end.Goals as goal

pub loop-jumps-init : goal.loop-jumps-init
loop-jumps-init c = jumping_starts _ _ c.args.budget c.args.from

pub overflow_add-read : goal.overflow_add-read
overflow_add-read c =
    let k = c.args.self.now in
    omega (arith, jumping_read c.loop-jumps.invariant c.loop-jumps-test.true c.reach-reach.ensures.reached, end_read k.stored k.mask k.gap c.args.start c.args.budget c.args.from)

pub returns-in_default : goal.returns-in_default
returns-in_default c = jumping_near c.loop-jumps.invariant c.loop-jumps-test.true c.reach-reach.ensures.reached c.in-Some.is (sym c.further.ensures ∙ c.if-further.false)

pub returns-in_default-2 : goal.returns-in_default-2
returns-in_default-2 c = jumping_none c.loop-jumps.invariant c.loop-jumps-test.true c.reach-reach.ensures.reached c.in_default.is

pub loop-jumps-preserved : goal.loop-jumps-preserved
loop-jumps-preserved c = jumping_on c.loop-jumps.invariant c.loop-jumps-test.true c.reach-reach.ensures.reached c.in-Some.is (sym c.further.ensures ∙ c.if-further.true)

pub returns : goal.returns
returns c = jumping_spent c.loop-jumps.invariant c.loop-jumps-test.false
