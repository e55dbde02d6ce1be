-- What is carried on, put and made behind it is what the samples leave.
use Rattle.std.proofs.Common.{arith}
use Rattle.node.specs.Memory.{as_node}
use Rattle.rebuild.proofs.Running.{steps, above_joins}
use Rattle.rebuild.proofs.rebuild_above.Goals as goal

pub overflow_add-first : goal.overflow_add-first
overflow_add-first c = omega (arith, steps c.args.l c.args.len c.args.top c.span-w.result _ _ c.requires c.span-w.ensures.0)

pub overflow_mul-j : goal.overflow_mul-j
overflow_mul-j c = omega (arith, steps c.args.l c.args.len c.args.top c.span-w.result _ _ c.requires c.span-w.ensures.0)

pub end_of-requires : goal.end_of-requires
end_of-requires c = omega (arith, steps c.args.l c.args.len c.args.top c.span-w.result _ _ c.requires c.span-w.ensures.0)

pub join_on-all-requires : goal.join_on-all-requires
join_on-all-requires c = omega (arith, steps c.args.l c.args.len c.args.top c.span-w.result _ _ c.requires c.span-w.ensures.0)

pub put_running-requires : goal.put_running-requires
put_running-requires c = (steps c.args.l c.args.len c.args.top c.span-w.result _ _ c.requires c.span-w.ensures.0).node

pub overflow_add-j : goal.overflow_add-j
overflow_add-j c = omega (arith, steps c.args.l c.args.len c.args.top c.span-w.result _ _ c.requires c.span-w.ensures.0)

pub rebuild_level-requires : goal.rebuild_level-requires
rebuild_level-requires c =
    let r = steps c.args.l c.args.len c.args.top c.span-w.result _ _ c.requires c.span-w.ensures.0 in
    record { nodes_below = r.room.nodes_below; nodes = omega (arith, r.room.nodes) }

pub returns : goal.returns
returns c =
    let a = c.args in
    above_joins a.l a.len a.top c.span-w.result a.below.now a.level.now _ _ (as_node a.n) _ c.end_of.result c.span-w.ensures.0 c.requires
    c.end_of.ensures c.join_on-all.ensures c.put_running.ensures c.rebuild_level.ensures
