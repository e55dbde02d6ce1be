-- Two copies, for which there is room.
use Rattle.std.proofs.Common.{arith, rules}
use Rattle.feeder_ring.proofs.Runs.{around, around_is}
use Rattle.feeder_ring.proofs.write_around.Goals as goal

pub overflow_sub-k : goal.overflow_sub-k
overflow_sub-k c = let r = around c.args.pushed.now.unitsize c.requires.1 c.requires.2 c.min-m.ensures c.place_after-first.ensures c.requires.0.slots c.args.pushed.now.held.room in omega arith

pub overflow_mul-first : goal.overflow_mul-first
overflow_mul-first c = let r = around c.args.pushed.now.unitsize c.requires.1 c.requires.2 c.min-m.ensures c.place_after-first.ensures c.requires.0.slots c.args.pushed.now.held.room in search rules

pub copy_run-requires : goal.copy_run-requires
copy_run-requires c = let r = around c.args.pushed.now.unitsize c.requires.1 c.requires.2 c.min-m.ensures c.place_after-first.ensures c.requires.0.slots c.args.pushed.now.held.room in (r.end, r.older)

pub overflow_sub-m : goal.overflow_sub-m
overflow_sub-m c = let r = around c.args.pushed.now.unitsize c.requires.1 c.requires.2 c.min-m.ensures c.place_after-first.ensures c.requires.0.slots c.args.pushed.now.held.room in r.reaches

pub copy_run-requires-2 : goal.copy_run-requires-2
copy_run-requires-2 c = let r = around c.args.pushed.now.unitsize c.requires.1 c.requires.2 c.min-m.ensures c.place_after-first.ensures c.requires.0.slots c.args.pushed.now.held.room in (omega arith, r.newer)

pub returns : goal.returns
returns c =
    let a = c.args in
    around_is a.pushed.now.unitsize c.requires.1 c.requires.2 c.min-m.ensures c.place_after-first.ensures
    a.ring.now _ _ a.pushed.now.bytes.now c.requires.0.slots a.pushed.now.held.room c.copy_run.ensures c.copy_run-2.ensures
