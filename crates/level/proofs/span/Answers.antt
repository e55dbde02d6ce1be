-- The shift loses nothing.
use Rattle.std.proofs.Common.{ℕ, ◌≡◌, ◌≤◌, ◌*◌, ◌%◌, ◌^◌, ap, ◌∙◌, arith}
use native.Mathlib.Nat.{one-mul, mod-eq_of_lt}
use Rattle.rules.specs.Node.{span}
use Rattle.rules.proofs.Walk.{span_pos}
use Rattle.level.proofs.Best.{span_bits, span_le}
use Rattle.level.proofs.span.Goals as goal

shifted : (l : ℕ) → l ≤ 4 → (1 * 2 ^ (5 * l)) % 2 ^ 64 ≡ span l
shifted l h = ap (λ (x : ℕ). x % 2 ^ 64) (one-mul (2 ^ (5 * l)) ∙ span_bits l) ∙ mod-eq_of_lt (omega (arith, span_le h))

pub returns : goal.returns
returns c = (shifted c.args.level c.requires, omega (arith, shifted c.args.level c.requires, span_pos c.args.level), omega (arith, shifted c.args.level c.requires, span_le c.requires))
