-- One field after the other.
use Rattle.shelf_block.proofs.Made.{fields_put}
use Rattle.shelf_block.proofs.put_fields.Goals as goal

pub returns : goal.returns
returns c = fields_put c.args.block.now _ _ _ c.args.number c.args.count c.requires c.put_at.ensures c.put_at-2.ensures c.put_at-3.ensures
