-- What is near is the find of the first chunk.
use Rattle.std.proofs.Common.{arith, refl}
use Rattle.search.proofs.Chunks.{some_there}
use Rattle.search.proofs.Near.{near_next}
use Rattle.search.proofs.next_in.Goals as goal

pub returns-then-is_some : goal.returns-then-is_some
returns-then-is_some c = near_next c.args.stored.now (some_there _ _ c.is_some.ensures c.if-is_some.true) c.args.from (omega arith) refl c.near_in-p.ensures
