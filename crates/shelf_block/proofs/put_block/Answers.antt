-- Fields, payload, check.
use Rattle.shelf_block.proofs.Made.{block_put}
use Rattle.shelf_block.proofs.put_block.Goals as goal

pub returns : goal.returns
returns c = block_put c.args.block.now _ _ _ c.args.number c.args.payload.now c.requires.0 c.put_fields.ensures c.put_payload.ensures c.seal.ensures
