-- Signed numbers: one that was read from its bits, and the difference of two numbers below 2^63.
use Prim.Native.Nat.{ℕ, suc, ◌-◌, ◌<◌, ◌^◌}
use mathlib.Core.Path.{◌≡◌, ap, ◌∙◌}
use mathlib.Core.Bool.{Bool, true, false, cond}
use native.Mathlib.Omega.{arith}
use lib.Dec.{ltb}
use lib.IntN.{ℤ, pos, negsuc, sub_ℕ}
use lib.Signed.{mag}
use mir.Syntax.{w64}
use mir.Val.{SFits, to_z, of_z}
use mir.ValLaws.{to_z-of_z}

-- a number that was read from its bits
pub read_is : (p : ℤ) → SFits w64 p → to_z w64 (of_z w64 p) ≡ p
read_is p fits = to_z-of_z w64 p fits

-- a difference of two numbers that fit, as it is read back from its bits
pub difference_back : (a b : ℕ) → a < 2 ^ 63 → b < 2 ^ 63 → (r : ℤ) → r ≡ sub_ℕ a b → to_z w64 (of_z w64 r) ≡ sub_ℕ a b
difference_back a b ha hb r e = ap (λ (z : ℤ). to_z w64 (of_z w64 z)) e ∙ to_z-of_z w64 (sub_ℕ a b) small
  where
    small : SFits w64 (sub_ℕ a b)
    small = record { sfits = go (ltb a b) }
      where
        go : (t : Bool) → mag (cond t (negsuc (b - suc a)) (pos (a - b))) < 2 ^ 63
        go true = omega arith
        go false = omega arith
