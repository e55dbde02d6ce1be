-- Level 1 is made from samples, another from the level below, whose nodes lie in memory.
use Rattle.std.proofs.Common.{◌+◌, ◌*◌, ◌≤◌, min, ap, ◌∙◌, arith}
use Rattle.node.specs.Lent.{levels_of}
use Rattle.node.proofs.Told.{is_told}
use Rattle.capture.specs.Stored.{sample_in}
use Rattle.whole.proofs.Laws.{number_small, join_room, made_samples, made_below}
use Rattle.whole.proofs.made.Goals as goal

pub returns-then-level-eq1 : goal.returns-then-level-eq1
returns-then-level-eq1 c =
    let a = c.args in
    let s = a.stored.now in
    is_told _ _ c.raw_node.ensures ∙ made_samples (sample_in s) s.len (levels_of s.memory.levels) a.level a.number c.min-e.result c.if-level-eq1.true c.min-e.ensures

pub overflow_add-a-2 : goal.overflow_add-a-2
overflow_add-a-2 c =
    let a = c.args in
    let s = a.stored.now in
    record { fits = omega (arith, number_small s.unitsize s.len s.memory.samples.now (levels_of s.memory.levels) s.backed a.level a.number c.requires) }

pub join_nodes-requires : goal.join_nodes-requires
join_nodes-requires c =
    let a = c.args in
    let s = a.stored.now in
    join_room s.unitsize s.len s.memory.samples.now (levels_of s.memory.levels) s.backed a.level a.number c.requires c.min-e-2.result c.level.result.now (omega (arith, c.requires.low, c.if-level-eq1.false)) (c.min-e-2.ensures ∙ ap (min (a.number * 32 + 32)) c.nodes_of.ensures) c.level.ensures

pub returns : goal.returns
returns c =
    let a = c.args in
    let s = a.stored.now in
    let e = c.min-e-2.ensures ∙ ap (min (a.number * 32 + 32)) c.nodes_of.ensures in
    let h : 2 ≤ a.level = omega (arith, c.requires.low, c.if-level-eq1.false) in
    made_below (sample_in s) s.len (levels_of s.memory.levels) a.level a.number c.min-e-2.result c.level.result.now _ h
    (join_room s.unitsize s.len s.memory.samples.now (levels_of s.memory.levels) s.backed a.level a.number c.requires c.min-e-2.result c.level.result.now h e c.level.ensures).0
    e c.level.ensures c.join_nodes.ensures
