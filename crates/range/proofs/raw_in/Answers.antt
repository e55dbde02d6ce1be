-- One sample more, and the end.
use Rattle.std.proofs.Common.{arith, sym, ◌∙◌}
use Rattle.rules.specs.Sample.{sample_of}
use Rattle.range.proofs.Apart.{apart_none, apart_turn, scanned}
use Rattle.range.proofs.raw_in.Goals as goal

pub loop-i-init : goal.loop-i-init
loop-i-init g c = c.zero-mask.ensures ∙ sym (apart_none (sample_of g.L.Lane.size c.args.part.now) c.args.a)

pub loop-i-preserved : goal.loop-i-preserved
loop-i-preserved g c =
    let p = c.loop-i in
    let m = g.L.Lane in
    rw (c.or-mask.ensures, c.xor.ensures) (apart_turn (sample_of m.size c.args.part.now) c.args.a p.i (m.value p.mask) _ _ p.auto.i p.invariant c.at.ensures.0 c.at-first.ensures.0)

pub returns : goal.returns
returns g c =
    scanned (sample_of g.L.Lane.size c.args.part.now) c.args.a c.args.b c.loop-i.i _ c.requires.some (omega (arith, c.requires.some, c.loop-i-test.false, c.loop-i.auto.i-end))
    (c.wide.ensures ∙ c.at-first.ensures.0) (c.wide-2.ensures ∙ c.at-2.ensures.0) (c.wide-3.ensures ∙ c.loop-i.invariant)
