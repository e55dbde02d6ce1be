-- What block 0 says of the samples.
use Rattle.std.proofs.Common.{arith}
use Rattle.shelf_stretches.proofs.Blocks.{measured, unit_some, bytes_few}
use Rattle.shelf_stretches.proofs.file_blocks.FileBlocks.of.Goals as goal

pub overflow_mul-result : goal.overflow_mul-result
overflow_mul-result c = record { fits = omega (arith, bytes_few (measured c.args.file.now c.requires c.heading_in-h.result c.heading_in-h.ensures)) }

pub nonzero_div-result : goal.nonzero_div-result
nonzero_div-result c = unit_some c.args.file.now c.requires c.heading_in-h.result c.heading_in-h.ensures

pub invariant_of-result : goal.invariant_of-result
invariant_of-result c = record { measured = measured c.args.file.now c.requires c.heading_in-h.result c.heading_in-h.ensures }
