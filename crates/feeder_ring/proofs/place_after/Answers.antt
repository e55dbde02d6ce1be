-- Before the ring's end, with no slots, and around.
use Rattle.std.proofs.Common.{sym, arith}
use Rattle.feeder_lists.proofs.Slots.{place_zero}
use Rattle.feeder_ring.proofs.Place.{place_ahead, place_around}
use Rattle.feeder_ring.proofs.place_after.Goals as goal

pub returns-then-n-left : goal.returns-then-n-left
returns-then-n-left c = place_ahead c.args.pre c.args.place c.args.n c.requires c.if-n-left.true

pub returns-then-pre-eq0 : goal.returns-then-pre-eq0
returns-then-pre-eq0 c = sym (place_zero c.args.pre c.args.n c.args.place c.if-pre-eq0.true (omega arith))

pub returns : goal.returns
returns c = place_around c.args.pre c.args.place c.args.n c.requires c.if-n-left.false c.if-pre-eq0.false
