-- The stretches so far are done.
use Rattle.std.proofs.Common.{arith}
use Rattle.shelf_salvage.proofs.Blanking.{blanks_start, this_inside, this_small, blanks_on, blanks_end}
use Rattle.shelf_salvage.proofs.blank.Goals as goal

pub loop-i-init : goal.loop-i-init
loop-i-init c = blanks_start c.args.samples.now c.requires

pub overflow_mul-from-in-loop-i : goal.overflow_mul-from-in-loop-i
overflow_mul-from-in-loop-i c = record { fits = omega (arith, this_small c.loop-i.invariant (omega arith)) }

pub overflow_mul-to-in-loop-i : goal.overflow_mul-to-in-loop-i
overflow_mul-to-in-loop-i c = record { fits = omega (arith, this_small c.loop-i.invariant (omega arith)) }

pub overflow_add-to-in-loop-i : goal.overflow_add-to-in-loop-i
overflow_add-to-in-loop-i c = record { fits = omega (arith, this_small c.loop-i.invariant (omega arith)) }

pub slice_bounds-fill-end : goal.slice_bounds-fill-end
slice_bounds-fill-end c = this_inside c.loop-i.invariant (omega arith)

pub loop-i-preserved : goal.loop-i-preserved
loop-i-preserved c = blanks_on c.loop-i.invariant (omega arith) _ (c.fill.ensures.after (λ y e. e))

pub returns : goal.returns
returns c = blanks_end c.loop-i.invariant (omega arith)
