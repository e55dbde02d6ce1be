-- Where the loop stops the next level does not fit.
use Rattle.std.proofs.Common.{ℕ, suc, ◌≡◌, ◌+◌, ◌-◌, ◌*◌, ◌%◌, sym, ap, ◌∙◌, add-one, arith}
use native.Mathlib.Nat.{le_antisymm}
use lib.Bits.{bit_and, and_mask}
use Rattle.rules.specs.Node.{span}
use Rattle.level.proofs.Best.{span_bits, best_of}
use Rattle.level.proofs.best_level.Goals as goal
use Rattle.level.proofs.best_level.Goals.{then-pos-s-ne0-via-then-pos-s-ne0, then-pos-s-ne0-via-else-pos-s-ne0+then-room-s}

span_at : (l s : ℕ) → s ≡ span (l + 1) → s ≡ span (suc l)
span_at l s e = e ∙ ap span (add-one l)

masked : (pos l s : ℕ) → s ≡ span (l + 1) → bit_and pos (s - 1) ≡ pos % span (suc l)
masked pos l s e =
    ap (λ (x : ℕ). bit_and pos (x - 1)) (span_at l s e ∙ sym (span_bits (suc l)))
    ∙ and_mask pos (5 * suc l)
    ∙ ap (λ (x : ℕ). pos % x) (span_bits (suc l))

pub returns-then-pos-s-ne0 : goal.returns-then-pos-s-ne0
returns-then-pos-s-ne0 c =
    let l = c.loop-l.l in
    let a = c.args in
    let s = c.span-s in
    best_of a.pos a.room a.maxl l (omega (arith, c.loop-l-test.true)) c.loop-l.invariant (λ _ f. elim c.then-pos-s-ne0.branch [
      | then-pos-s-ne0-via-then-pos-s-ne0 w ↦ w.if-pos-s-ne0.true (masked a.pos l s.result s.ensures.0 ∙ f.aligned)
      | then-pos-s-ne0-via-else-pos-s-ne0+then-room-s w ↦ omega (arith, f.small, span_at l s.result s.ensures.0, w.if-room-s.true)
    ])

pub loop-l-preserved : goal.loop-l-preserved
loop-l-preserved c =
    let l = c.loop-l.l in
    let s = c.span-s in
    rw (add-one l) (record {
      aligned = sym (masked c.args.pos l s.result s.ensures.0) ∙ c.if-pos-s-ne0.false;
      small = omega (arith, span_at l s.result s.ensures.0, c.if-room-s.false);
    })

pub returns : goal.returns
returns c = rw (le_antisymm c.loop-l.auto.l-end c.loop-l-test.false) at (best_of c.args.pos c.args.room c.args.maxl c.loop-l.l c.loop-l.auto.l-end c.loop-l.invariant (λ h _. omega (arith, c.loop-l-test.false)))
