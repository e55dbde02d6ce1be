-- All sixteen lines are those of unit 2.
use Rattle.std.proofs.Common.{ℕ, ◌∙◌, sym, ap}
use mathlib.Core.Bool.{not}
use native.Mathlib.Nat.{mod-eq_of_lt}
use lib.Bits.{and_mask}
use lib.Dec.{eqb}
use Rattle.rules.specs.Unknown.{has_line}
use Rattle.rules.proofs.Sample.{unit_two}
use Rattle.lines.proofs.has_line.Goals as goal

pub returns-else-unitsize-eq1 : goal.returns-else-unitsize-eq1
returns-else-unitsize-eq1 c =
    ap (λ (x : ℕ). not (eqb x 0)) (sym (and_mask c.args.mask 16 ∙ mod-eq_of_lt c.ranges.mask.fits))
    ∙ ap (λ (u : ℕ). has_line u c.args.mask) (sym (unit_two c.requires c.if-unitsize-eq1.false))
