-- One more chunk, and the chunks to the end.
use Rattle.std.proofs.Common.{ℕ, ap, arith}
use Rattle.std.specs.Option.{option_map}
use Rattle.node.specs.Memory.{as_node}
use Rattle.node.specs.Lent.{levels_of}
use Rattle.node.proofs.Told.{told_on}
use Rattle.capture.specs.Stored.{sample_in}
use Rattle.summary.specs.Summary.{cut_at, chunk_node, by_levels}
use Rattle.summary.proofs.Gather.{gathered_on, gathered_ends}
use Rattle.summary.proofs.by_levels.Goals as goal

pub loop-pos-preserved : goal.loop-pos-preserved
loop-pos-preserved c =
    let a = c.args in
    let l = c.loop-pos in
    let e = c.cut_at-end in
    let t = c.loop-pos-test.true in
    gathered_on (λ (p e : ℕ). chunk_node (levels_of a.stored.now.memory.levels) (sample_in a.stored.now) p (cut_at p e)) cut_at a.counted a.a a.b (option_map as_node l.acc) l.pos (as_node c.chunk_summary.result) (as_node c.gathered.result) e.result
    l.invariant t (told_on a.counted _ _ _ c.chunk_summary.ensures (ap (chunk_node (levels_of a.stored.now.memory.levels) (sample_in a.stored.now) l.pos) e.ensures))
    e.ensures (omega (arith, t, e.ensures)) (omega (arith, e.ensures)) c.gathered.ensures

pub returns : goal.returns
unfolding by_levels
returns c =
    let a = c.args in
    let l = c.loop-pos in
    gathered_ends (λ (p e : ℕ). chunk_node (levels_of a.stored.now.memory.levels) (sample_in a.stored.now) p (cut_at p e)) cut_at a.counted a.a a.b l.acc c.unwrap.result l.pos c.unwrap.ensures l.invariant c.loop-pos-test.false
