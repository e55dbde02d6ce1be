-- The product is below 2^53, so the cast gives its floor.
use Rattle.std.proofs.Common.{◌≡◌, ◌^◌, ap, ◌∙◌, refl, lit≤, lit<}
use Rattle.std.proofs.Math.Nat.{le_trans, lt_of_le_of_lt}
use lib.Ieee.{Float, binary64, of_bits, to_unsigned}
use Rattle.rules.specs.Pretrigger.{clamp, most_fraction, times}
use Rattle.rules.proofs.Round.{Upto}
use Rattle.float.proofs.Floors.{floor_is, product}
use Rattle.float.proofs.fraction_samples.Goals as goal

-- 0.99 is the binary64 nearest to 99 / 100, and at most 1
most_is : of_bits binary64 0x3fef_ae14_7ae1_47ae ≡ most_fraction
unfolding of_bits most_fraction
most_is = refl

most_upto : Upto 1 1 most_fraction
unfolding most_fraction
most_upto = lit≤ tt

pub returns : goal.returns
unfolding times
returns c =
    let a = c.args in
    c.saturating_f64_to_u64.ensures
    ∙ ap (λ (q : Float). to_unsigned 64 (times a.limit q)) (c.clamped.ensures ∙ ap (λ (t : Float). clamp t a.p) most_is)
    ∙ floor_is (times a.limit (clamp most_fraction a.p)) (product a.limit (2 ^ 53) most_fraction a.p (lt_of_le_of_lt c.requires (lit< tt)) (le_trans c.requires (lit≤ tt)) most_upto)
