-- One sample more, and the end.
use Rattle.std.proofs.Common.{arith, ◌∙◌}
use Rattle.range.proofs.Scan.{scan_starts, scan_on, scan_few, scan_ends}
use Rattle.range.proofs.raw_count.Goals as goal

pub loop-i-init : goal.loop-i-init
loop-i-init c = scan_starts _ c.args.a c.args.b _ c.requires.some c.get-last.ensures

pub overflow_add-count : goal.overflow_add-count
overflow_add-count c = record { fits = omega (arith, c.border-count.ensures.1, scan_few _ _ _ _ _ _ c.loop-i.invariant, c.ranges) }

pub loop-i-preserved : goal.loop-i-preserved
loop-i-preserved c = scan_on _ _ _ c.loop-i.last c.loop-i.count c.loop-i.i _ _ c.loop-i.invariant c.loop-i-test.true c.get-v.ensures c.border-count.ensures.0

pub returns : goal.returns
returns c = c.capped.ensures ∙ scan_ends _ _ _ c.loop-i.last c.loop-i.count c.loop-i.i c.loop-i.invariant c.loop-i-test.false
