-- One more part, and the parts to the end.
use Rattle.std.specs.Option.{option_map}
use Rattle.node.specs.Memory.{as_node}
use Rattle.node.specs.Lent.{levels_of}
use Rattle.capture.specs.Stored.{sample_in}
use Rattle.summary.specs.Summary.{step_node, step_end, chunk_node}
use Rattle.summary.proofs.Gather.{gathered_on, gathered_ends}
use Rattle.summary.proofs.chunk_summary.Goals as goal

pub loop-pos-preserved : goal.loop-pos-preserved
loop-pos-preserved c =
    let a = c.args in
    let l = c.loop-pos in
    let f = c.first_piece-q in
    gathered_on (step_node (levels_of a.stored.now.memory.levels) (sample_in a.stored.now)) step_end a.counted a.a a.b (option_map as_node l.acc) l.pos (as_node f.result.node) (as_node c.gathered.result) f.result.end
    l.invariant c.loop-pos-test.true f.ensures.node_is f.ensures.end_is f.ensures.more f.ensures.upto c.gathered.ensures

pub returns : goal.returns
unfolding chunk_node
returns c =
    let a = c.args in
    let l = c.loop-pos in
    gathered_ends (step_node (levels_of a.stored.now.memory.levels) (sample_in a.stored.now)) step_end a.counted a.a a.b l.acc c.unwrap.result l.pos c.unwrap.ensures l.invariant c.loop-pos-test.false
