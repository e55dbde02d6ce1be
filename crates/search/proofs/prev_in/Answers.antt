-- What is near is the find of the first chunk.
use Rattle.std.proofs.Common.{◌∙◌, arith, refl}
use Rattle.rules.specs.Walk.{all_levels}
use Rattle.capture.specs.Stored.{reader_in}
use Rattle.search.proofs.Asked.{previous_something}
use Rattle.search.proofs.Chunks.{some_there}
use Rattle.search.proofs.Near.{near_previous}
use Rattle.search.proofs.prev_in.Goals as goal

pub returns-then-is_some : goal.returns-then-is_some
returns-then-is_some c =
    let s = c.args.stored.now in
    near_previous s (some_there _ _ c.is_some.ensures c.if-is_some.true) c.min-start.result (omega arith) refl c.near_in-p.ensures
    ∙ previous_something all_levels (reader_in s) s.len c.args.mask c.args.from c.if-stored-eq0.false c.min-start.result c.min-start.ensures

pub returns : goal.returns
returns c =
    let s = c.args.stored.now in
    c.chunks_back.ensures ∙ previous_something all_levels (reader_in s) s.len c.args.mask c.args.from c.if-stored-eq0.false c.min-start.result c.min-start.ensures
