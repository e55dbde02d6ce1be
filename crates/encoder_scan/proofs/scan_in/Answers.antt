-- One place more, and the end.
use Rattle.std.proofs.Common.{ℕ, arith, ◌-◌, subst}
use native.Mathlib.Nat.{le_antisymm}
use Rattle.rules.specs.Sample.{sample_of}
use Rattle.rules.specs.Encoder.{turns_of}
use Rattle.encoder_scan.specs.Scan.{Counts}
use Rattle.encoder_scan.proofs.Laws.{stepped_none, stepped_on, counts_of}
use Rattle.encoder_scan.proofs.scan_in.Goals as goal

pub loop-k-init : goal.loop-k-init
loop-k-init g c = rw (c.zero-moved.ensures, c.zero-back.ensures, c.zero-skipped.ensures) (omega arith, omega arith, stepped_none _ _ _ _)

pub plus-moved-requires : goal.plus-moved-requires
plus-moved-requires g c = omega (arith, c.loop-k.invariant.0, c.between-t.ensures.few, c.loop-k-test.true, c.requires.0)

pub plus-back-requires : goal.plus-back-requires
plus-back-requires g c = omega (arith, c.loop-k.invariant.0, c.loop-k.invariant.1, c.between-t.ensures.few, c.between-t.ensures.less, c.loop-k-test.true, c.requires.0)

pub plus-skipped-requires : goal.plus-skipped-requires
plus-skipped-requires g c = omega (arith, c.loop-k.invariant.0, c.between-t.ensures.few, c.loop-k-test.true, c.requires.0)

pub loop-k-preserved : goal.loop-k-preserved
loop-k-preserved g c =
    let p = c.loop-k in
    let a = c.args in
    let v = g.L.Lane.value in
    let t = c.between-t.ensures in
    rw (c.plus-moved.ensures, c.plus-back.ensures, c.plus-skipped.ensures) (
      omega (arith, p.invariant.0, t.few),
      omega (arith, p.invariant.1, t.less),
      stepped_on (sample_of g.L.Lane.size a.samples.now) a.a a.b a.p p.k _ _ (v p.moved) (v p.back) (v p.skipped) _ _ _ p.invariant.2 c.at.ensures.0 c.at-in-loop-k.ensures.0 (t.is a.a a.b c.ask-x.ensures c.ask-y.ensures),
    )

pub returns : goal.returns
returns g c =
    let p = c.loop-k in
    let a = c.args in
    let v = g.L.Lane.value in
    let r = subst (λ (n : ℕ). Counts (turns_of (sample_of g.L.Lane.size a.samples.now) a.a a.b a.p n) (v p.moved - v p.back) (v p.back) (v p.skipped)) (le_antisymm p.auto.k-end c.loop-k-test.false) (counts_of p.invariant.2) in
    rw (c.wide.ensures, c.minus.ensures, c.wide-2.ensures, c.wide-3.ensures) r
