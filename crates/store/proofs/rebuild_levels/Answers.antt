-- No samples, all in one node of level 1, or level 1 and then each level above the one below.
use Rattle.std.proofs.Common.{arith}
use lib.Dec.{lit≤}
use lib.ListN.{length}
use Rattle.node.specs.Memory.{level_of}
use Rattle.store.proofs.Levels.{chunks_room, node_room, up_room, levels_one, levels_more, levels_none}
use Rattle.store.proofs.rebuild_levels.Goals as goal

pub returns-then-n-eq0 : goal.returns-then-n-eq0
returns-then-n-eq0 c = let a = c.args in levels_none a.unitsize a.len a.n a.samples.now (level_of a.l1.now a.l2.now a.l3.now a.l4.now) c.if-n-eq0.true

pub join_lowest-first-requires : goal.join_lowest-first-requires
unfolding level_of
join_lowest-first-requires c =
    let a = c.args in
    chunks_room a.unitsize a.len a.n (length a.samples.now) (level_of a.l1.now a.l2.now a.l3.now a.l4.now) c.requires c.if-n-eq0.false a.len _ (omega (arith, c.if-n-eq0.false)) (omega arith)

-- ---- all in one node of level 1
pub put_running-requires : goal.put_running-requires
unfolding level_of
put_running-requires c =
    let a = c.args in
    node_room a.unitsize a.len a.n (length a.samples.now) (level_of a.l1.now a.l2.now a.l3.now a.l4.now) c.requires c.if-n-eq0.false 2 (lit≤ tt) (lit≤ tt) _ (omega arith)

pub put_running-requires-then-len-top : goal.put_running-requires-then-len-top
unfolding level_of
put_running-requires-then-len-top c =
    let a = c.args in
    node_room a.unitsize a.len a.n (length a.samples.now) (level_of a.l1.now a.l2.now a.l3.now a.l4.now) c.requires c.if-n-eq0.false 3 (lit≤ tt) (lit≤ tt) _ (omega arith)

pub put_running-requires-then-len-top-2 : goal.put_running-requires-then-len-top-2
unfolding level_of
put_running-requires-then-len-top-2 c =
    let a = c.args in
    node_room a.unitsize a.len a.n (length a.samples.now) (level_of a.l1.now a.l2.now a.l3.now a.l4.now) c.requires c.if-n-eq0.false 4 (lit≤ tt) (lit≤ tt) _ (omega arith)

pub returns-then-len-top : goal.returns-then-len-top
returns-then-len-top c =
    let a = c.args in
    levels_one a.unitsize a.len a.n a.samples.now c.if-n-eq0.false a.l1.now a.l2.now a.l3.now a.l4.now _ _ _ _ _ c.if-len-top.true
    c.join_lowest-first.ensures c.put_running.ensures c.put_running-then-len-top.ensures c.put_running-then-len-top-2.ensures

-- ---- in more than one
pub rebuild_chunks-requires : goal.rebuild_chunks-requires
unfolding level_of
rebuild_chunks-requires c =
    let a = c.args in
    (omega arith, chunks_room a.unitsize a.len a.n (length a.samples.now) (level_of a.l1.now a.l2.now a.l3.now a.l4.now) c.requires c.if-n-eq0.false _ _ (omega (arith, c.if-len-top.false, c.if-n-eq0.false)) (omega arith))

pub rebuild_above-second-requires : goal.rebuild_above-second-requires
unfolding level_of
rebuild_above-second-requires c =
    let a = c.args in
    up_room a.unitsize a.len a.n (length a.samples.now) (level_of a.l1.now a.l2.now a.l3.now a.l4.now) c.requires c.if-n-eq0.false 1 (lit≤ tt) (lit≤ tt) _ _ (omega arith) (omega arith)

pub rebuild_above-third-requires : goal.rebuild_above-third-requires
unfolding level_of
rebuild_above-third-requires c =
    let a = c.args in
    up_room a.unitsize a.len a.n (length a.samples.now) (level_of a.l1.now a.l2.now a.l3.now a.l4.now) c.requires c.if-n-eq0.false 2 (lit≤ tt) (lit≤ tt) _ _ (omega arith) (omega arith)

pub rebuild_above-requires : goal.rebuild_above-requires
unfolding level_of
rebuild_above-requires c =
    let a = c.args in
    up_room a.unitsize a.len a.n (length a.samples.now) (level_of a.l1.now a.l2.now a.l3.now a.l4.now) c.requires c.if-n-eq0.false 3 (lit≤ tt) (lit≤ tt) _ _ (omega arith) (omega arith)

pub returns : goal.returns
returns c =
    let a = c.args in
    levels_more a.unitsize a.len a.n a.samples.now c.if-n-eq0.false a.l1.now a.l2.now a.l3.now a.l4.now _ _ _ _ _ _ _ _ _
    c.join_lowest-first.ensures c.rebuild_chunks.ensures c.rebuild_above-second.ensures c.rebuild_above-third.ensures c.rebuild_above.ensures
