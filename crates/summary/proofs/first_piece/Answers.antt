-- At level 0 a run of samples, else a run of nodes, which lie in their level.
use Rattle.std.proofs.Common.{◌∙◌}
use Rattle.node.specs.Memory.{as_node}
use Rattle.node.specs.Lent.{levels_of}
use Rattle.capture.specs.Stored.{sample_in}
use Rattle.summary.proofs.Laws.{part_run, part_level, piece_room}
use Rattle.summary.proofs.first_piece.Goals as goal

pub returns-then-l-eq0 : goal.returns-then-l-eq0
returns-then-l-eq0 c =
    let a = c.args in
    let s = a.stored.now in
    part_run a.pos a.b _ _ _ c.requires.0 c.best_level-l.ensures c.span-s.ensures.0 c.run_end-end.ensures (levels_of s.memory.levels) (sample_in s) a.counted (as_node c.raw_node.result) c.if-l-eq0.true c.raw_node.ensures

pub join_lines-lines-requires : goal.join_lines-lines-requires
join_lines-lines-requires c =
    let a = c.args in
    let s = a.stored.now in
    piece_room a.pos a.b _ _ _ c.requires.0 c.best_level-l.ensures c.span-s.ensures.0 c.run_end-end.ensures (levels_of s.memory.levels) c.if-l-eq0.false s.len c.requires.1 s.backed.most s.backed.nodes _ c.level-level.ensures

pub join_count-requires : goal.join_count-requires
join_count-requires c =
    let a = c.args in
    let s = a.stored.now in
    piece_room a.pos a.b _ _ _ c.requires.0 c.best_level-l.ensures c.span-s.ensures.0 c.run_end-end.ensures (levels_of s.memory.levels) c.if-l-eq0.false s.len c.requires.1 s.backed.most s.backed.nodes _ c.level-level.ensures

pub returns : goal.returns
returns c =
    let a = c.args in
    let s = a.stored.now in
    part_level a.pos a.b _ _ _ c.requires.0 c.best_level-l.ensures c.span-s.ensures.0 c.run_end-end.ensures (levels_of s.memory.levels) (sample_in s) a.counted (as_node c.with_count.result) c.if-l-eq0.false _ c.level-level.ensures
    (record { lines = c.with_count.ensures.0 ∙ c.join_lines-lines.ensures.lines; count = λ z. c.with_count.ensures.1 ∙ c.join_count.ensures z })
