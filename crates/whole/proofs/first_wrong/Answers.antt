-- A node is wrong where the level below makes another one; else one more node, and one more level, is right.
use Rattle.std.proofs.Common.{ℕ, ◌<◌, sym, ◌∙◌, subst, arith}
use Rattle.node.specs.Lent.{levels_of}
use Rattle.capture.specs.Stored.{sample_in}
use Rattle.whole.proofs.Laws.{checking_on, checking_found, checking_ends, none_more, wrong_is, covering}
use Rattle.whole.proofs.first_wrong.Goals as goal

pub returns-then-node_wrong : goal.returns-then-node_wrong
returns-then-node_wrong c =
    let s = c.args.stored.now in
    let v = c.loop-level in
    let l = c.loop-number in
    let k = subst (λ (n : ℕ). l.number < n) c.nodes_of-number-end.ensures c.loop-number-test.true in
    checking_found (sample_in s) s.len (levels_of s.memory.levels) v.level l.number v.invariant (omega arith) k l.invariant
    (sym (wrong_is (sample_in s) s.len (levels_of s.memory.levels) v.level l.number c.node_wrong.result v.invariant (omega arith) ((covering s.len v.level l.number).0 k) c.node_wrong.ensures) ∙ c.if-node_wrong.true)

pub loop-number-preserved : goal.loop-number-preserved
loop-number-preserved c =
    let s = c.args.stored.now in
    let v = c.loop-level in
    let l = c.loop-number in
    let h = (covering s.len v.level l.number).0 (subst (λ (n : ℕ). l.number < n) c.nodes_of-number-end.ensures c.loop-number-test.true) in
    none_more (sample_in s) s.len (levels_of s.memory.levels) v.level l.number l.invariant
    (sym (wrong_is (sample_in s) s.len (levels_of s.memory.levels) v.level l.number c.node_wrong.result v.invariant (omega arith) h c.node_wrong.ensures) ∙ c.if-node_wrong.false)

pub loop-level-preserved : goal.loop-level-preserved
loop-level-preserved c =
    let s = c.args.stored.now in
    let v = c.loop-level in
    let l = c.loop-number in
    checking_on (sample_in s) s.len (levels_of s.memory.levels) v.level v.invariant (omega arith) (λ i h. l.invariant i (omega (arith, c.loop-number-test.false, c.nodes_of-number-end.ensures)))

pub returns : goal.returns
returns c =
    let s = c.args.stored.now in
    checking_ends (sample_in s) s.len (levels_of s.memory.levels) c.loop-level.level c.loop-level.invariant (omega arith)
