-- The first of the few that is not quiet, or nothing.
use Rattle.std.proofs.Common.{ap₂, ◌∙◌}
use Rattle.std.specs.Prelude.{min}
use Rattle.find.specs.Run.{node_at}
use Rattle.find.proofs.Samples.{near_found, near_none}
use Rattle.find.proofs.near.Goals as goal

pub returns-then-r-n : goal.returns-then-r-n
unfolding node_at
returns-then-r-n c =
    let a = c.args in
    near_found a.unitsize a.len a.samples.now a.back a.start a.mask a.before c.min-n.result c.run-r.result.count c.run-r.result.value
    (c.min-n.ensures ∙ ap₂ min c.few.ensures c.left.ensures) c.run-r.ensures c.if-r-n.true c.moved.ensures

pub returns : goal.returns
unfolding node_at
returns c =
    let a = c.args in
    near_none a.unitsize a.len a.samples.now a.back a.start a.mask a.before c.min-n.result c.run-r.result.count c.run-r.result.value
    (c.min-n.ensures ∙ ap₂ min c.few.ensures c.left.ensures) c.run-r.ensures c.if-r-n.false
