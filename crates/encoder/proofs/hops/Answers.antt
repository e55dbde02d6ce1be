-- A stretch more, and nothing left.
use Rattle.std.proofs.Common.{arith}
use Rattle.capture.specs.Stored.{sample_in}
use Rattle.encoder.specs.Replayed.{onward_from}
use Rattle.encoder.proofs.Stretch.{left_on, left_ends}
use Rattle.encoder.proofs.hops.Goals as goal

pub loop-p-preserved : goal.loop-p-preserved
loop-p-preserved c =
    let r = c.args.replay.now in
    record {
      upto = omega arith;
      below = omega arith;
      left = left_on r.stored.unitsize (onward_from r) (sample_in r.stored) r.stored.len r.a r.b c.loop-p.invariant.left c.loop-p-test.true c.resume-i.ensures c.stretch_end-end.ensures.is c.scanned-t.ensures.counts c.quiet_behind-quiet.ensures;
    }

pub returns-clause-counts : goal.returns-clause-counts
returns-clause-counts c = left_ends _ _ _ _ _ _ c.loop-p.invariant.left c.loop-p-test.false
