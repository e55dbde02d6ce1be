-- An empty part past the end, or where the chunk's bytes lie.
use Rattle.std.proofs.Common.{arith}
use Rattle.rules.proofs.Refusal.{sound}
use Rattle.node.specs.Lent.{levels_of}
use Rattle.capture.specs.Record.{store_of}
use Rattle.capture.proofs.Calls.{lies_past, lies_part}
use Rattle.capture.proofs.raw_part.Goals as goal

pub returns-then-div_ceil-chunk : goal.returns-then-div_ceil-chunk
returns-then-div_ceil-chunk c =
    let o = c.in-Ok.ensures in
    lies_past (store_of c.args.c) c.args.memory.samples.now (levels_of c.args.memory.levels) c.args.chunk o.passes (omega (arith, o.len_is, c.div_ceil.ensures, c.if-div_ceil-chunk.true))

pub returns : goal.returns
returns c =
    let o = c.in-Ok.ensures in
    let l = lies_part (store_of c.args.c) c.args.memory.samples.now (levels_of c.args.memory.levels) c.args.chunk (sound _ _ o.passes) c.chunk_end.result o.passes (rw (← o.len_is) c.chunk_end.ensures) (omega (arith, o.len_is, c.div_ceil.ensures, c.if-div_ceil-chunk.false)) in
    rw o.unit_is l
