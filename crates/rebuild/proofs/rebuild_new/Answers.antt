-- What the whole nodes leave is made behind them.
use Rattle.std.proofs.Common.{arith, ◌∙◌}
use Rattle.rebuild.proofs.rebuild_new.Goals as goal

pub rebuild_each-requires : goal.rebuild_each-requires
rebuild_each-requires c =
    let r = c.requires in
    record { unit_size = r.unit_size; fits = r.fits; from = omega (arith, r.from, c.rebuild_whole-rest.ensures.0); samples = r.samples; nodes = omega (arith, r.nodes) }

pub returns : goal.returns
returns c = c.rebuild_each.ensures ∙ c.rebuild_whole-rest.ensures.1
