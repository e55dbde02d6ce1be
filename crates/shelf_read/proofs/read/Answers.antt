-- The first row that holds, or the samples taken.
use Rattle.std.proofs.Common.{ℕ, List, sym}
use Rattle.std.proofs.lemmas.Result.{err_from_is_err_and}
use Rattle.rules.proofs.Shelf.{passed}
use Rattle.rules.specs.Shelf.{heading_in}
use Rattle.node.specs.Memory.{level_of}
use Rattle.shelf_read.proofs.Tested.{capacity_right}
use Rattle.shelf_read.proofs.Taken.{row_of, reads_short, takes, reads_done}
use Rattle.shelf_read.proofs.read.Goals as goal

pub store_for-requires : goal.store_for-requires
store_for-requires c = ((capacity_right c.args.capacity (sym c.if-capacity_wrong.ensures)).1, (passed c.args.file.now (sym c.if-not-file_good.ensures)).0)

pub returns-in_err-c : goal.returns-in_err-c
returns-in_err-c c =
    let a = c.args in
    let seen = row_of a.capacity (heading_in a.file.now) c.in_err-c.ensures c.lent-memory.ensures in
    let lv : ℕ → List ℕ = level_of a.l1.now a.l2.now a.l3.now a.l4.now in
    let p = err_from_is_err_and c.from_residual.result c.from_residual.ensures.1 in
    rw (p.1, p.2) (reads_short a.capacity a.file.now a.samples.now lv c.if-capacity_wrong.ensures c.if-not-file_good.ensures c.in_err-c.field-0.0 seen)

pub take_samples-requires : goal.take_samples-requires
take_samples-requires c =
    let a = c.args in
    let seen = row_of a.capacity (heading_in a.file.now) c.in_ok-c.ensures c.lent-memory.ensures in
    let lv : ℕ → List ℕ = level_of a.l1.now a.l2.now a.l3.now a.l4.now in
    takes a.capacity a.file.now a.samples.now lv c.if-capacity_wrong.ensures c.if-not-file_good.ensures c.in_ok-c.c seen

pub returns : goal.returns
returns c =
    let a = c.args in
    let seen = row_of a.capacity (heading_in a.file.now) c.in_ok-c.ensures c.lent-memory.ensures in
    let lv : ℕ → List ℕ = level_of a.l1.now a.l2.now a.l3.now a.l4.now in
    reads_done a.capacity a.file.now a.samples.now lv c.if-capacity_wrong.ensures c.if-not-file_good.ensures c.in_ok-c.c seen c.take_samples.ensures
