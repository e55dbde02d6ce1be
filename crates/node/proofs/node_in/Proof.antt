-- `node::node_in` meets its contract: five reads, within the level's length. Assumes nothing.
use mathlib.Core.Path.{ap}
use Prim.Native.Nat.{ℕ, ◌+◌, ◌*◌}
use lib.ListN.{get_or}
use Rattle.rules.specs.Refusal.{node_size}
use borrow.Author.Rules.{rules}
use Rattle.node.proofs.node_in.Statement.{statement}
use Rattle.node.proofs.node_in.Tie as tie

mul_at : tie.Need-overflow_mul-at
mul_at c = search rules

mul-t4 : tie.Need-offset_bounds-level-at
mul-t4 c = search rules

shared-slice-read-t6 : tie.Need-bounds-level-at
shared-slice-read-t6 c = search rules

add-t7 : tie.Need-overflow_add-result
add-t7 c = search rules

mul-t8 : tie.Need-offset_bounds-level-at-2
mul-t8 c = search rules

shared-slice-read-t10 : tie.Need-bounds-level-at-2
shared-slice-read-t10 c = search rules

add-t11 : tie.Need-overflow_add-result-2
add-t11 c = search rules

mul-t12 : tie.Need-offset_bounds-level-at-3
mul-t12 c = search rules

shared-slice-read-t14 : tie.Need-bounds-level-at-3
shared-slice-read-t14 c = search rules

add-count-of : tie.Need-overflow_add-at
add-count-of c = search rules

mul-count-of : tie.Need-offset_bounds-level-at-4
mul-count-of c = search rules

shared-slice-read-count-of : tie.Need-bounds-level-at-4
shared-slice-read-count-of c = search rules

add-count-of-2 : tie.Need-overflow_add-at-2
add-count-of-2 c = search rules

mul-count-of-2 : tie.Need-offset_bounds-level-at-5
mul-count-of-2 c = search rules

shared-slice-read-count-of-2 : tie.Need-bounds-level-at-5
shared-slice-read-count-of-2 c = search rules

count-of-requires : tie.Need-count_of-requires
count-of-requires c κs = search rules

returns : tie.Need-returns
returns c =
    let a = c.args in
    let level = a.level.now in
    let at = a.j * node_size in
    ap (λ (n : ℕ). record { first = get_or level at 0; last = get_or level (at + 1) 0; toggles = get_or level (at + 2) 0; count = n }) c.count_of.ensures

pub node_in_spec : {M : Type 1} → statement M
node_in_spec =
    tie.close
    (tie.spec
    mul_at
    mul-t4
    shared-slice-read-t6
    add-t7
    mul-t8
    shared-slice-read-t10
    add-t11
    mul-t12
    shared-slice-read-t14
    add-count-of
    mul-count-of
    shared-slice-read-count-of
    add-count-of-2
    mul-count-of-2
    shared-slice-read-count-of-2
    count-of-requires
    returns)
