-- One place more of each run.
use Rattle.std.proofs.Common.{arith}
use native.Mathlib.Nat.{le_antisymm}
use Rattle.rules.specs.Sample.{sample_of}
use Rattle.lines.proofs.Room.{room_least}
use Rattle.range.proofs.Raw.{both_starts, both_on, both_ends}
use Rattle.range.proofs.halves.both_in.Goals as goal

pub loop-k-init : goal.loop-k-init
loop-k-init g c = rw (c.zero-mask.ensures, c.zero-count.ensures) (omega arith, both_starts _ _)

pub plus-requires : goal.plus-requires
plus-requires g c = omega (arith, room_least {u = g.L.Lane.size} g.met.L.Lane.unit.least, c.differs.ensures.1, c.loop-k.invariant.0, c.loop-k-test.true, c.requires.0)

pub plus-count-requires : goal.plus-count-requires
plus-count-requires g c = omega (arith, room_least {u = g.L.Lane.size} g.met.L.Lane.unit.least, c.differs.ensures.1, c.differs-in-loop-k.ensures.1, c.plus.ensures, c.loop-k.invariant.0, c.loop-k-test.true, c.requires.0)

pub loop-k-preserved : goal.loop-k-preserved
loop-k-preserved g c =
    let p = c.loop-k in
    let m = g.L.Lane in
    rw (c.or-mask.ensures, c.or.ensures, c.xor.ensures, c.xor-in-loop-k.ensures, c.plus-count.ensures, c.plus.ensures) (
      omega (arith, p.invariant.0, c.differs.ensures.1, c.differs-in-loop-k.ensures.1),
      both_on (sample_of m.size c.args.part.now) c.args.a p.k (m.value p.mask) (m.value p.count) _ _ _ _ _ _ p.invariant.1 c.at-x.ensures.0 c.at-y.ensures.0 c.at-z.ensures.0 c.at-w.ensures.0 c.differs.ensures.0 c.differs-in-loop-k.ensures.0,
    )

pub returns : goal.returns
returns g c = rw (c.wide-2.ensures) (both_ends _ _ _ _ _ _ _ c.loop-k.invariant.1 (le_antisymm c.loop-k.auto.k-end c.loop-k-test.false) c.wide.ensures)
