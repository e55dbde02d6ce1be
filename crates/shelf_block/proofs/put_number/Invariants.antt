use Rattle.std.proofs.Common.{length}
use Rattle.shelf_block.proofs.Numbers.{Writing}
use Rattle.shelf_block.proofs.put_number.Given as goal

abbrev pub invariant-loop-byte : goal.invariant-loop-byte
invariant-loop-byte l = Writing (length l.fn.part) l.value l.part l.left l.byte-index
