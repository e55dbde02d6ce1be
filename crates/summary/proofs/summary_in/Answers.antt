-- A short range from its samples, any other by the levels.
use Rattle.node.specs.Memory.{as_node}
use Rattle.node.specs.Lent.{levels_of}
use Rattle.capture.specs.Stored.{sample_in}
use Rattle.summary.proofs.Laws.{summed_short, summed_long}
use Rattle.summary.proofs.summary_in.Goals as goal

pub returns-then-b-a-le-SHORT : goal.returns-then-b-a-le-SHORT
returns-then-b-a-le-SHORT c =
    let a = c.args in
    summed_short (levels_of a.stored.now.memory.levels) (sample_in a.stored.now) a.a a.b a.counted (as_node c.raw_node.result) c.if-b-a-le-SHORT.true c.raw_node.ensures

pub returns : goal.returns
returns c =
    let a = c.args in
    summed_long (levels_of a.stored.now.memory.levels) (sample_in a.stored.now) a.a a.b a.counted (as_node c.by_levels.result) c.if-b-a-le-SHORT.false c.by_levels.ensures
