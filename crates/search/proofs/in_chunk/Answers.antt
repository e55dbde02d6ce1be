-- A walk over the chunk's part is one over the whole.
use Rattle.std.proofs.Common.{ℕ, ◌*◌, ap₂, ◌∙◌, arith}
use Rattle.rules.specs.Node.{chunk}
use Rattle.rules.specs.Walk.{walk_from}
use Rattle.node.specs.Lent.{levels_of}
use Rattle.capture.specs.Stored.{reader_in}
use Rattle.find.specs.Way.{way_in}
use Rattle.search.proofs.Part.{stored_value, stored_part, part_way}
use Rattle.search.proofs.in_chunk.Goals as goal

pub invariant_of-part : goal.invariant_of-part
invariant_of-part c = record { backed = stored_part c.args.stored.now (c.args.ci * chunk) c.chunk_end-hi.result (omega arith) (omega arith) }

pub returns : goal.returns
returns c =
    let a = c.args in
    let s = a.stored.now in
    c.find.ensures
    ∙ part_way (a.ci * chunk) c.chunk_end-hi.result s.unitsize s.memory.samples.now (levels_of s.memory.levels) a.back a.mask a.at c.sample-value.result (omega arith) (omega arith)
    ∙ ap₂ (λ (hi x : ℕ). walk_from (way_in a.back (reader_in s) (a.ci * chunk) hi) a.mask a.at x) c.chunk_end-hi.ensures (stored_value s a.seen c.sample-value.result c.sample-value.ensures)
