-- On either side of the test.
use Rattle.std.proofs.Common.{ℕ, arith, ◌+◌, ◌*◌, ◌/◌, ◌≤◌}
use mathlib.Core.Path.{subst⁻¹}
use lib.ListN.{length}
use native.Mathlib.Nat.{div-add-mod'}
use Rattle.rules.specs.Refusal.{node_size}
use Rattle.node.specs.Memory.{as_node}
use Rattle.rebuild.proofs.Running.{put_kept, put_new}
use Rattle.rebuild.proofs.put_running.Goals as goal

pub overflow_mul-j : goal.overflow_mul-j
overflow_mul-j c = omega (arith, div-add-mod' c.args.len c.span-w.result)

pub node_in-kept-requires : goal.node_in-kept-requires
node_in-kept-requires c = omega (arith, subst⁻¹ (λ (x : ℕ). c.args.len / x * node_size + node_size ≤ length c.args.level.now) c.span-w.ensures.0 c.requires.node)

pub put_node-requires : goal.put_node-requires
put_node-requires c = omega (arith, subst⁻¹ (λ (x : ℕ). c.args.len / x * node_size + node_size ≤ length c.args.level.now) c.span-w.ensures.0 c.requires.node)

pub put_node-requires-else-j-w : goal.put_node-requires-else-j-w
put_node-requires-else-j-w c = omega (arith, subst⁻¹ (λ (x : ℕ). c.args.len / x * node_size + node_size ≤ length c.args.level.now) c.span-w.ensures.0 c.requires.node)

pub returns-then-j-w : goal.returns-then-j-w
returns-then-j-w c =
    let a = c.args in
    put_kept a.level.now _ a.l a.len c.span-w.result (as_node a.n) _ _ c.span-w.ensures.0 c.if-j-w.true c.node_in-kept.ensures c.join.ensures c.put_node.ensures

pub returns-else-j-w : goal.returns-else-j-w
returns-else-j-w c =
    let a = c.args in
    put_new a.level.now _ a.l a.len c.span-w.result (as_node a.n) c.span-w.ensures.0 c.if-j-w.false c.put_node-else-j-w.ensures
