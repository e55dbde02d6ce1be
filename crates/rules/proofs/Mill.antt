-- A mill's places and the run's are the same places, counted otherwise: `mill_place` and `place_at` undo each other where a place is not before the first
-- sample. And a mask is beyond a grant exactly when it is not within it.
use Prim.Native.Nat.{ℕ, suc, ◌+◌, ◌-◌, ◌≤◌, ◌<◌}
use mathlib.Core.Path.{◌≡◌, refl, ap, ◌∙◌}
use mathlib.Core.Bool.{Bool, true, false, cond, not}
use mathlib.Core.Logic.{◌↔◌}
use native.Mathlib.Omega.{arith}
use lib.Bits.{bit_and}
use lib.Dec.{ltb}
use lib.IntN.{ℤ, pos, negsuc, sub_ℕ}
use borrow.Author.Tests.{ltb-true, ltb-false, lt-ltb, le-ltb, eqb-true, eq-eqb, not-false}
use Rattle.rules.specs.Sample.{Within}
use Rattle.rules.specs.Mill.{mill_place, place_at, before_first, beyond}

-- a difference of two naturals, by its sign
sub_less : (a b : ℕ) → a < b → sub_ℕ a b ≡ negsuc (b - suc a)
sub_less a b h = ap (λ (t : Bool). cond t (negsuc (b - suc a)) (pos (a - b))) (lt-ltb a b h)

sub_more : (a b : ℕ) → b ≤ a → sub_ℕ a b ≡ pos (a - b)
sub_more a b h = ap (λ (t : Bool). cond t (negsuc (b - suc a)) (pos (a - b))) (le-ltb a b h)

-- a place of the run, counted and found again
pub counted_place : (origin i : ℕ) → place_at origin (mill_place origin i) ≡ i
counted_place origin i = go (ltb i origin) refl
  where
    go : (t : Bool) → ltb i origin ≡ t → place_at origin (mill_place origin i) ≡ i
    go true e = let h : i < origin = ltb-true i origin e in ap (place_at origin) (sub_less i origin h) ∙ omega arith
    go false e = let h : origin ≤ i = ltb-false i origin e in ap (place_at origin) (sub_more i origin h) ∙ omega arith

-- a place of the run is not before the first sample
pub counted_inside : (origin i : ℕ) → before_first origin (mill_place origin i) ≡ false
counted_inside origin i = go (ltb i origin) refl
  where
    go : (t : Bool) → ltb i origin ≡ t → before_first origin (mill_place origin i) ≡ false
    go true e = let h : i < origin = ltb-true i origin e in ap (before_first origin) (sub_less i origin h) ∙ le-ltb origin (suc (origin - suc i)) (omega arith)
    go false e = ap (before_first origin) (sub_more i origin (ltb-false i origin e))

-- a mill's place, found and counted again
pub place_counted : (origin : ℕ) (p : ℤ) → before_first origin p ≡ false → mill_place origin (place_at origin p) ≡ p
place_counted origin (pos n) e = sub_more (origin + n) origin (omega arith) ∙ ap pos back
  where
    back : origin + n - origin ≡ n
    back = omega arith
place_counted origin (negsuc n) e =
    let h : suc n ≤ origin = ltb-false origin (suc n) e in
    sub_less (origin - suc n) origin (omega arith) ∙ ap negsuc (back h)
  where
    back : suc n ≤ origin → origin - suc (origin - suc n) ≡ n
    back h = omega arith

-- ---- a mask and a grant
pub beyond_within : (grant mask : ℕ) → (beyond grant mask ≡ false) ↔ Within mask grant
beyond_within grant mask = (λ e. eqb-true (bit_and mask grant) mask (not-false _ e), λ w. ap not (eq-eqb (bit_and mask grant) mask w))
