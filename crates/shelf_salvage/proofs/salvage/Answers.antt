-- The first row that holds, or what is known of the file.
use Rattle.std.proofs.Common.{ℕ, List}
use Rattle.std.proofs.lemmas.Result.{err_from_is_err_and}
use Rattle.rules.specs.Shelf.{heading_in}
use Rattle.node.specs.Memory.{level_of}
use Rattle.shelf_read.proofs.Taken.{row_of}
use Rattle.shelf_salvage.proofs.Opening.{refuses_store, rooms, listed}
use Rattle.shelf_salvage.proofs.salvage.Goals as goal

pub returns-in_err-c : goal.returns-in_err-c
returns-in_err-c c =
    let a = c.args in
    let seen = row_of a.capacity (heading_in a.file.now) c.in_err-c.ensures c.lent-memory.ensures in
    let lv : ℕ → List ℕ = level_of a.l1.now a.l2.now a.l3.now a.l4.now in
    let p = err_from_is_err_and c.from_residual.result c.from_residual.ensures.1 in
    rw (p.1, p.2) (refuses_store a.capacity a.file.now a.samples.now lv a.stretches.now c.if-capacity_wrong.ensures c.if-not-head_good.ensures c.in_err-c.field-0.0 seen)

pub fill_store-requires : goal.fill_store-requires
fill_store-requires c =
    let a = c.args in
    let seen = row_of a.capacity (heading_in a.file.now) c.in_ok-c.ensures c.lent-memory.ensures in
    let lv : ℕ → List ℕ = level_of a.l1.now a.l2.now a.l3.now a.l4.now in
    let r = rooms a.capacity a.file.now a.samples.now lv a.stretches.now c.if-capacity_wrong.ensures c.if-not-head_good.ensures c.in_ok-c.c seen in
    (r.0, listed a.file.now a.stretches.now _ c.in-Some.ensures, r.1)
