-- The first place, and then each block, fires or does not.
use Rattle.std.proofs.Common.{sym, ap, ◌∙◌, ◌+◌, arith}
use Rattle.rules.specs.Trigger.{matches}
use Rattle.feeder_scan.specs.Scan.{masks_for, sample_in, fire_from}
use Rattle.feeder_scan.proofs.Fire.{fire_here, fire_on, fire_end, block_hit, block_miss}
use Rattle.feeder_scan.proofs.fire_in_blocks.Goals as goal

pub returns-then-met : goal.returns-then-met
returns-then-met c =
    let a = c.args in
    sym (fire_here (masks_for a.w) (sample_in a.samples.now) a.prev 0 a.samples.now.n (omega arith) (ap (matches (masks_for a.w) a.prev) (sym c.at.ensures) ∙ sym c.met.ensures ∙ c.if-met.true))

pub loop-a-init : goal.loop-a-init
loop-a-init c =
    let a = c.args in (
      omega arith,
      omega arith,
      sym (fire_on (masks_for a.w) (sample_in a.samples.now) a.prev 0 a.samples.now.n (omega arith) (ap (matches (masks_for a.w) a.prev) (sym c.at.ensures) ∙ sym c.met.ensures ∙ c.if-met.false)),
    )

pub returns-then-any_fires : goal.returns-then-any_fires
returns-then-any_fires c =
    let p = c.loop-a in
    let a = c.args in
    let end = c.min.ensures in
    c.fire_in.ensures
    ∙ ap (λ x. fire_from (masks_for a.w) (sample_in a.samples.now) x p.a (p.a + c.min.result)) c.at-then-any_fires.ensures
    ∙ block_hit (masks_for a.w) (sample_in a.samples.now) p.a (p.a + c.min.result) a.samples.now.n _ (omega arith) (omega arith) c.any_fires.ensures c.if-any_fires.true
    ∙ p.invariant.2

pub loop-a-preserved : goal.loop-a-preserved
loop-a-preserved c =
    let p = c.loop-a in
    let a = c.args in
    let end = c.min.ensures in (
      omega arith,
      omega arith,
      block_miss (masks_for a.w) (sample_in a.samples.now) p.a (p.a + c.min.result) a.samples.now.n _ (omega arith) (omega arith) c.any_fires.ensures c.if-any_fires.false ∙ p.invariant.2,
    )

pub returns : goal.returns
returns c =
    let p = c.loop-a in
    let a = c.args in
    sym (fire_end (masks_for a.w) (sample_in a.samples.now) _ p.a a.samples.now.n c.loop-a-test.false) ∙ p.invariant.2
