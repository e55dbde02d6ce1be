-- Place i fires, or it does not; at the end none does.
use Rattle.std.proofs.Common.{sym, ap, ◌∙◌, ◌+◌, arith}
use Rattle.rules.specs.Trigger.{matches}
use Rattle.feeder_scan.specs.Scan.{masks_for, sample_in, fire_from}
use Rattle.feeder_scan.proofs.Fire.{fire_here, fire_on, fire_end}
use Rattle.feeder_scan.proofs.fire_in.Goals as goal

pub returns-then-met : goal.returns-then-met
returns-then-met c =
    let p = c.loop-i in
    let a = c.args in
    sym (fire_here (masks_for a.w) (sample_in a.samples.now) p.p p.i a.e c.loop-i-test.true (ap (matches (masks_for a.w) p.p) (sym c.at-v.ensures) ∙ sym c.met.ensures ∙ c.if-met.true)) ∙ p.invariant

pub loop-i-preserved : goal.loop-i-preserved
loop-i-preserved c =
    let p = c.loop-i in
    let a = c.args in
    ap (λ v. fire_from (masks_for a.w) (sample_in a.samples.now) v (p.i + 1) a.e) c.at-v.ensures
    ∙ sym (fire_on (masks_for a.w) (sample_in a.samples.now) p.p p.i a.e c.loop-i-test.true (ap (matches (masks_for a.w) p.p) (sym c.at-v.ensures) ∙ sym c.met.ensures ∙ c.if-met.false))
    ∙ p.invariant

pub returns : goal.returns
returns c =
    let p = c.loop-i in
    let a = c.args in
    let e = fire_end (masks_for a.w) (sample_in a.samples.now) p.p p.i a.e c.loop-i-test.false in
    let i = p.invariant in
    let most = p.auto.i-end in
    omega arith
