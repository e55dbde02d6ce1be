-- The bytes so far are the number's.
use Rattle.shelf_block.proofs.Numbers.{holding_starts, holding_on, holding_fails, holding_ends}
use Rattle.shelf_block.proofs.is_number.Goals as goal

pub loop-byte-init : goal.loop-byte-init
loop-byte-init c = holding_starts c.args.value c.args.part.now

pub returns-then-byte-left : goal.returns-then-byte-left
returns-then-byte-left c = holding_fails c.loop-byte.invariant c.loop-byte-test.true c.if-byte-left.true

pub loop-byte-preserved : goal.loop-byte-preserved
loop-byte-preserved c = holding_on c.loop-byte.invariant c.loop-byte-test.true c.if-byte-left.false

pub returns : goal.returns
returns c = holding_ends c.loop-byte.invariant c.loop-byte-test.false
