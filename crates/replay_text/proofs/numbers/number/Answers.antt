-- Digit by digit; where the digits end, the number does.
use Rattle.std.proofs.Common.{◌≡◌, false, arith, refl}
use mathlib.Core.Path.{sym, ap, ◌∙◌}
use lib.Dec.{ltb}
use Rattle.std.specs.Bool.{then_some}
use native.Mathlib.Numerals.{add-one}
use lib.ListN.{get_or, get_or-eq_default}
use Rattle.replay_text.specs.Numbers.{is_digit}
use Rattle.replay_text.proofs.Digits.{digit_in, digits_more, decimal_more, digits_end, decimal_end}
use Rattle.replay_text.proofs.numbers.number.Goals as goal
use Rattle.replay_text.proofs.numbers.number.Goals.{else-loop-i-test, then-loop-i-test+then-not-is_digit}

pub with_digit-value-requires : goal.with_digit-value-requires
with_digit-value-requires c = digit_in _ (sym c.is_digit.ensures ∙ c.if-not-is_digit.false)

pub loop-i-preserved : goal.loop-i-preserved
loop-i-preserved c =
    let l = c.args.line.now in
    let i = c.loop-i.i in
    let inv = c.loop-i.invariant in
    let digit = sym c.is_digit.ensures ∙ c.if-not-is_digit.false in (
      refl,
      rw (c.with_digit-value.ensures, add-one i, ← decimal_more _ l i digit) inv.1,
      rw add-one (omega (arith, digits_more l i digit, inv.2)),
    )

pub returns : goal.returns
unfolding is_digit
returns c =
    let l = c.args.line.now in
    let i = c.loop-i.i in
    let inv = c.loop-i.invariant in
    let stop : is_digit (get_or l i 0) ≡ false =
    elim c.loop-i-test.branch [
      | else-loop-i-test w ↦ rw (get_or-eq_default l 0 w.loop-i-test.false)
      | then-loop-i-test+then-not-is_digit w ↦ sym w.is_digit.ensures ∙ w.if-not-is_digit.true
    ] in
    let from = c.past_space-start.ensures in
    record {
      value_is = rw (← from) (c.then_some.ensures ∙ ap (then_some (ltb c.past_space-start.result c.loop-i.next)) (sym (decimal_end _ l i stop) ∙ inv.1));
      next_is = rw (← from) (omega (arith, digits_end l i stop, inv.2));
    }
