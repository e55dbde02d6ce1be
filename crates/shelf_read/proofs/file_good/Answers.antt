-- Block 0, the length, then the other blocks.
use Rattle.std.proofs.Common.{◌∙◌, ap, arith}
use Rattle.rules.specs.Shelf.{bytes_for}
use Rattle.shelf_read.proofs.Tested.{bytes_few, by_blocks}
use Rattle.shelf_read.proofs.Taken.{behind, behind_length}
use Rattle.shelf_read.proofs.file_good.Goals as goal

pub overflow_mul-n : goal.overflow_mul-n
overflow_mul-n c = record { fits = omega (arith, bytes_few c.args.file.now c.if-not-head_good.ensures (ap bytes_for c.heading_in-h.ensures)) }

pub file_size-requires : goal.file_size-requires
file_size-requires c = bytes_few c.args.file.now c.if-not-head_good.ensures (ap bytes_for c.heading_in-h.ensures)

pub blocks_good-requires : goal.blocks_good-requires
blocks_good-requires c = record {
  few = bytes_few c.args.file.now c.if-not-head_good.ensures (ap bytes_for c.heading_in-h.ensures);
  size = omega (arith, behind_length c.args.file.now, c.if-file-file_size.true, c.file_size.ensures);
}

pub returns-then-file-file_size : goal.returns-then-file-file_size
returns-then-file-file_size c =
    by_blocks c.args.file.now c.if-not-head_good.ensures (ap bytes_for c.heading_in-h.ensures) (c.if-file-file_size.true ∙ c.file_size.ensures) (behind c.args.file.now) c.blocks_good.ensures
