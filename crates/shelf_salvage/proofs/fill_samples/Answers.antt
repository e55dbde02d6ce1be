-- The blocks that are there, then zero over the stretches.
use Rattle.std.proofs.Common.{refl, arith}
use Rattle.shelf_head.proofs.Head.{head_room}
use Rattle.shelf_salvage.proofs.Filled.{bytes_small, blank_room, filled_store}
use Rattle.shelf_salvage.proofs.fill_samples.Goals as goal

pub gather_there-requires : goal.gather_there-requires
gather_there-requires c = (head_room c.args.file.now c.requires.0.head, omega (arith, bytes_small c.requires.0), c.requires.0.holds)

pub blank-requires : goal.blank-requires
blank-requires c = blank_room c.requires.0 c.requires.1 c.gather_there.ensures.size

pub returns : goal.returns
returns c = filled_store c.requires.0 c.requires.1 refl c.gather_there.ensures c.blank.ensures
