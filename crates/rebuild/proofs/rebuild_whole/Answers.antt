-- One whole node more.
use Rattle.std.proofs.Common.{ℕ, ◌+◌, ◌-◌, ◌*◌, ◌≤◌, ◌≡◌, refl, sym, ap, ◌∙◌, subst, arith}
use lib.ListN.{length}
use Rattle.rules.specs.Sample.{sample_of}
use Rattle.rules.specs.Node.{node_of}
use Rattle.range.specs.Part.{RangeIn}
use Rattle.range.proofs.Part.{range_places}
use Rattle.rebuild.proofs.Nodes.{putting_starts, putting_on}
use Rattle.rebuild.proofs.Running.{part_node_lem, part_room}
use Rattle.rebuild.proofs.rebuild_whole.Goals as goal

-- the end of the node that starts at a
ends : (a base : ℕ) → base ≤ a → a - base + 32 ≡ a + 32 - base
ends a base h = omega arith

pub loop-j-init : goal.loop-j-init
loop-j-init c = (omega arith, putting_starts _ _ _ _)

pub raw_whole-requires : goal.raw_whole-requires
raw_whole-requires c =
    let p = c.loop-j in
    let a = c.args in
    let r =
    subst (λ (e : ℕ). RangeIn a.unitsize (p.j * 32 - a.base) e (length a.part.now)) (sym (ends (p.j * 32) a.base (omega (arith, c.requires.from, p.invariant.1.from))))
    (part_room a.unitsize a.base a.first a.top _ _ p.j (p.j * 32) (p.j * 32 + 32) c.requires p.invariant.1.from (omega (arith, c.loop-j-test.true)) refl (omega (arith, c.loop-j-test.true))) in
    (omega (arith, c.min-half.ensures, range_places r), r)

pub loop-j-preserved : goal.loop-j-preserved
loop-j-preserved c =
    let p = c.loop-j in
    let a = c.args in
    let h : a.base ≤ p.j * 32 = omega (arith, c.requires.from, p.invariant.1.from) in (
      omega (arith, c.loop-j-test.true),
      putting_on _ _ _ _ p.level p.j p.invariant.1 _ _ (omega (arith, c.loop-j-test.true))
          (part_node_lem a.unitsize a.part.now a.base a.top p.j (p.j * 32) (p.j * 32 + 32) _ h (omega (arith, c.loop-j-test.true)) refl (omega (arith, c.loop-j-test.true))
          (c.raw_whole.ensures ∙ ap (node_of (sample_of a.unitsize a.part.now) (p.j * 32 - a.base)) (ends (p.j * 32) a.base h)))
          c.put_node.ensures,
    )

pub returns : goal.returns
returns c =
    let p = c.loop-j in
    let e : p.j ≡ c.max.result = omega (arith, c.max.ensures, p.invariant.0, p.auto.j, c.loop-j-test.false) in
    rw (← e) (p.invariant.1.from, p.invariant.1.same)
