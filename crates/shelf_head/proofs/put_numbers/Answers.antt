-- Two bytes, then two numbers.
use Rattle.shelf_head.proofs.Head.{numbers_put}
use Rattle.shelf_head.proofs.put_numbers.Goals as goal

pub returns : goal.returns
returns c = numbers_put c.args.head.now _ _ c.args.unit c.args.flag c.args.len c.args.place c.requires c.put_at.ensures c.put_at-2.ensures
