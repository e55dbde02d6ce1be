use Rattle.shelf_block.proofs.Numbers.{Holding}
use Rattle.shelf_block.proofs.is_number.Given as goal

abbrev pub invariant-loop-byte : goal.invariant-loop-byte
invariant-loop-byte l = Holding l.value l.part l.left l.byte-index
