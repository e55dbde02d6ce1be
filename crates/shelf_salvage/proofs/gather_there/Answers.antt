-- The blocks that are there.
use Rattle.shelf_salvage.proofs.Gathered.{gathers}
use Rattle.shelf_salvage.proofs.gather_there.Goals as goal

pub returns : goal.returns
returns c = gathers c.args.file.now c.args.samples.now c.requires.0 c.requires.1 c.requires.2 c.min-there.ensures c.blocks_for.ensures c.gather.ensures
