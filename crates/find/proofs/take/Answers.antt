-- The run's nodes lie in memory, and it is the one that is asked.
use Rattle.std.proofs.Common.{ℕ, ◌/◌, ap, ◌∙◌, arith}
use Rattle.std.specs.Prelude.{min}
use Rattle.node.specs.Lent.{levels_of}
use Rattle.find.proofs.Turn.{take_held}
use Rattle.find.proofs.take.Goals as goal

pub run-r-requires : goal.run-r-requires
run-r-requires c =
    let a = c.args in
    let p = a.part.now in
    take_held a.back p.unitsize p.base p.hi p.samples.now (levels_of p.levels)
    a.pos c.left-room.result a.maxl c.best_level-l.result c.span-s.result c.min-n.result c.number-from.result c.level.result.now
    c.left-room.ensures c.best_level-l.ensures c.span-s.ensures.0
    (c.min-n.ensures ∙ ap (λ (x : ℕ). min x (c.left-room.result / c.span-s.result)) c.to_border.ensures) c.number-from.ensures c.level.ensures
    p.backed c.requires.0 c.requires.1 c.requires.3 (omega arith)
