-- One run, or no slots.
use Rattle.std.proofs.Common.{sym, ◌∙◌, arith}
use Rattle.feeder_lists.proofs.Bytes.{bytes_none}
use Rattle.feeder_ring.proofs.Runs.{one_run}
use Rattle.feeder_ring.proofs.ring_write.Goals as goal

pub returns-then-n-pre : goal.returns-then-n-pre
returns-then-n-pre c =
    let a = c.args in
    let s = a.pushed.now in
    c.copy_run.ensures ∙ one_run s.unitsize a.pre s.n a.ring.now a.place s.bytes.now (omega arith) c.requires.slots s.held.room

pub returns-else-pre-ne0 : goal.returns-else-pre-ne0
returns-else-pre-ne0 c =
    let a = c.args in
    let s = a.pushed.now in
    sym (bytes_none s.unitsize a.pre s.n a.ring.now a.place s.bytes.now c.if-pre-ne0.false)
