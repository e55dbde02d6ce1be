-- Wholly there, and good.
use Rattle.std.proofs.Common.{◌+◌, ◌*◌, length, arith}
use borrow.Author.Tests.{lt-leb}
use Rattle.shelf_stretches.proofs.Known.{torn, whole}
use Rattle.shelf_stretches.proofs.file_blocks.FileBlocks.is_known.Goals as goal

pub returns-then-at-self : goal.returns-then-at-self
returns-then-at-self c = whole c.args.self.now.bytes c.args.i c.args.self.now.file.now (omega arith) c.min-count.ensures c.good.ensures

pub returns-else-at-self : goal.returns-else-at-self
returns-else-at-self c =
    rw (lt-leb ((c.args.i + 1) * 512 + 512) (length c.args.self.now.file.now) c.if-at-self.false) (torn c.args.self.now.bytes c.args.i c.args.self.now.file.now (omega arith))
