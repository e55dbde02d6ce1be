-- The blocks so far are done.
use Rattle.std.proofs.Common.{ℕ, ◌-◌, ap, arith}
use Rattle.shelf_stretches.specs.Told.{most_numbers}
use Rattle.shelf_stretches.proofs.Blocks.{loop_starts, block_inside, on_room, next_block, surveyed}
use Rattle.shelf_stretches.proofs.Left.{enough}
use Rattle.shelf_stretches.proofs.survey.Goals as goal

pub loop-i-init : goal.loop-i-init
loop-i-init c = loop_starts c.args.blocks.now.file.now c.args.list.now

pub returns-then-is_settled : goal.returns-then-is_settled
returns-then-is_settled c =
    enough c.args.blocks.now.measured c.loop-i.invariant (omega arith) (ap (λ (k : ℕ). most_numbers c.loop-i.run (k - c.loop-i.i)) c.blocks_for-k.ensures) (c.is_settled.ensures c.if-is_settled.true)

pub overflow_sub-blocks : goal.overflow_sub-blocks
overflow_sub-blocks c = omega (arith, block_inside c.args.blocks.now.measured c.loop-i.invariant (omega arith))

pub step-run-requires : goal.step-run-requires
step-run-requires c = (on_room c.args.blocks.now.measured c.loop-i.invariant (omega arith), omega arith)

pub loop-i-preserved : goal.loop-i-preserved
loop-i-preserved c = next_block c.args.blocks.now.measured c.loop-i.invariant (omega arith) c.is_known.ensures c.min-many.ensures c.step-run.ensures.0 c.step-run.ensures.1

pub returns : goal.returns
returns c = surveyed c.args.blocks.now.measured c.loop-i.invariant (omega arith) c.args.room c.close-last.ensures.0 c.close-last.ensures.1
