-- What is left after each run.
use Rattle.std.proofs.Common.{arith}
use Rattle.node.specs.Lent.{levels_of}
use Rattle.pass.proofs.Laws.{left_ends, left_past, left_lower, left_stops, run_some, run_reach, run_moves}
use Rattle.pass.proofs.pass.Goals as goal

pub returns-then-t-le1 : goal.returns-then-t-le1
returns-then-t-le1 c =
    let p = c.args.part.now in
    let i = c.loop-pos.invariant in
    let reach = run_reach p.unitsize p.base p.hi p.samples.now (levels_of p.levels) c.args.mask c.loop-pos-test.true c.take-t.ensures in
    (left_stops p.unitsize p.base p.hi p.samples.now (levels_of p.levels) c.args.mask c.loop-pos-test.true c.take-t.ensures i.3 c.if-t.true c.if-t-le1.true, omega (arith, i.0), omega (arith, i.1, reach))

pub loop-pos-preserved-then-t : goal.loop-pos-preserved-then-t
loop-pos-preserved-then-t c =
    let p = c.args.part.now in
    let i = c.loop-pos.invariant in
    let reach = run_reach p.unitsize p.base p.hi p.samples.now (levels_of p.levels) c.args.mask c.loop-pos-test.true c.take-t.ensures in (
      omega (arith, i.0),
      omega (arith, i.1, reach),
      omega (arith, i.2, c.take-t.ensures.best.below),
      left_lower p.unitsize p.base p.hi p.samples.now (levels_of p.levels) c.args.mask c.loop-pos-test.true c.take-t.ensures i.3 c.if-t.true (λ h. omega (arith, h, c.if-t-le1.false)),
    )

pub loop-pos-smaller : goal.loop-pos-smaller
loop-pos-smaller c =
    let p = c.args.part.now in
    let some = run_some p.unitsize p.base p.hi p.samples.now (levels_of p.levels) c.args.mask c.loop-pos-test.true c.take-t.ensures in
    omega (
      arith,
      run_reach p.unitsize p.base p.hi p.samples.now (levels_of p.levels) c.args.mask c.loop-pos-test.true c.take-t.ensures,
      run_moves p.unitsize p.base p.hi p.samples.now (levels_of p.levels) c.args.mask c.loop-pos-test.true c.take-t.ensures (omega (arith, c.if-t.false, some)),
    )

pub loop-pos-preserved : goal.loop-pos-preserved
loop-pos-preserved c =
    let p = c.args.part.now in
    let i = c.loop-pos.invariant in
    let reach = run_reach p.unitsize p.base p.hi p.samples.now (levels_of p.levels) c.args.mask c.loop-pos-test.true c.take-t.ensures in
    (omega (arith, i.0), omega (arith, i.1, reach), i.2, left_past p.unitsize p.base p.hi p.samples.now (levels_of p.levels) c.args.mask c.loop-pos-test.true c.take-t.ensures i.3 (λ h. omega (arith, h, c.if-t.false)))

pub returns : goal.returns
returns c = let i = c.loop-pos.invariant in (left_ends _ _ _ _ _ _ i.3 c.loop-pos-test.false, i.0, i.1)
