-- What the chunk's part makes is what all samples make.
use Rattle.std.proofs.Common.{refl}
use native.Mathlib.Nat.{le_refl}
use Rattle.store.proofs.Chunks.{turn, part_joins}
use Rattle.store.proofs.join_lowest.Goals as goal

pub returns : goal.returns
returns c =
    let a = c.args in
    part_joins a.unitsize a.len a.top _ c.min-stop.result a.samples.now
    (turn a.unitsize a.len a.top a.samples.now a.l1.now c.requires a.len _ c.min-stop.result (le_refl a.len) c.requires.some refl c.min-stop.ensures)
    a.l1.now _ _ c.join_first.ensures
