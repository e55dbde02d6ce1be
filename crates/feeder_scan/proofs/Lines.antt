-- Three masks say what five do: Rising is High and Edge on one line, Falling is Low and Edge. A first sample is tested as one that comes after itself.
use Prim.Native.Nat.{ℕ, suc, ◌<◌, min, max}
use mathlib.Core.Path.{◌≡◌, refl, sym, ap, ap₂, ◌∙◌}
use mathlib.Core.Bool.{Bool, cond, ◌&&◌}
use mathlib.Core.List.{List, [], ◌∷◌}
use Rattle.std.specs.Prelude.{Option, None, Some, unwrap_or}
use native.Mathlib.Decide.{ℕ_discrete}
use native.Mathlib.Omega.{arith}
use lib.Bits.{bit_and, bit_or, bit_xor, differ, and_zero_l, and_zero_r, or_zero_r, xor_zero_l, xor_self}
use lib.Dec.{eqb}
use borrow.Author.Tests.{eq-eqb, ne_eqb}
use Rattle.rules.specs.Trigger as rule
use Rattle.rules.proofs.Bits.{line_lt, two_cases, lines_ext, line_and, line_or, line_xor, or_zero_right, or-sort}
use Rattle.terms.specs.declared.Masks.{Masks}
use Rattle.terms.specs.Terms.{as_masks}
use Rattle.terms.proofs.Unmet.{unmet, unmet_none}
use Rattle.feeder_scan.specs.declared.Wanted.{Wanted}
use Rattle.feeder_scan.specs.Scan.{wanted_of, masks_for}

-- ---- lines of a condition
-- the lines of a that x lacks
abbrev lacks : ℕ → ℕ → ℕ
lacks x a = bit_xor (bit_and x a) a

-- what holds of any three of 0 and 1
three_cases : (f g : ℕ → ℕ → ℕ → ℕ) → f 0 0 0 ≡ g 0 0 0 → f 0 0 1 ≡ g 0 0 1 → f 0 1 0 ≡ g 0 1 0 → f 0 1 1 ≡ g 0 1 1 → f 1 0 0 ≡ g 1 0 0 → f 1 0 1 ≡ g 1 0 1 → f 1 1 0 ≡ g 1 1 0 → f 1 1 1 ≡ g 1 1 1
    → (x y z : ℕ) → x < 2 → y < 2 → z < 2 → f x y z ≡ g x y z
three_cases f g a b c d e h i j x y z hx hy hz =
    two_cases (λ (x : ℕ). f x y z ≡ g x y z)
    (two_cases (λ (y : ℕ). f 0 y z ≡ g 0 y z) (two_cases (λ (z : ℕ). f 0 0 z ≡ g 0 0 z) a b z hz) (two_cases (λ (z : ℕ). f 0 1 z ≡ g 0 1 z) c d z hz) y hy)
    (two_cases (λ (y : ℕ). f 1 y z ≡ g 1 y z) (two_cases (λ (z : ℕ). f 1 0 z ≡ g 1 0 z) e h z hz) (two_cases (λ (z : ℕ). f 1 1 z ≡ g 1 1 z) i j z hz) y hy)
    x hx

module _ (p v x : ℕ) where
  rising_as : bit_or (bit_and p x) (lacks v x) ≡ bit_or (lacks v x) (lacks (bit_xor p v) x)
  rising_as = lines_ext _ _ (λ k. simp (line_or, line_xor, line_and)
      (three_cases (λ p v x. max (min p x) (differ (min v x) x)) (λ p v x. max (differ (min v x) x) (differ (min (differ p v) x) x)) refl refl refl refl refl refl refl refl _ _ _ (line_lt p k) (line_lt v k) (line_lt x k)))

  falling_as : bit_or (lacks p x) (bit_and v x) ≡ bit_or (bit_and v x) (lacks (bit_xor p v) x)
  falling_as = lines_ext _ _ (λ k. simp (line_or, line_xor, line_and)
      (three_cases (λ p v x. max (differ (min p x) x) (min v x)) (λ p v x. max (min v x) (differ (min (differ p v) x) x)) refl refl refl refl refl refl refl refl _ _ _ (line_lt p k) (line_lt v k) (line_lt x k)))

-- the lines of either mask
and_either : (x a b : ℕ) → bit_and x (bit_or a b) ≡ bit_or (bit_and x a) (bit_and x b)
and_either x a b = lines_ext _ _ (λ k. simp (line_or, line_and) (omega arith))

lacks_either : (x a b : ℕ) → lacks x (bit_or a b) ≡ bit_or (lacks x a) (lacks x b)
lacks_either x a b = lines_ext _ _ (λ k. simp (line_or, line_xor, line_and)
    (three_cases (λ x a b. differ (min x (max a b)) (max a b)) (λ x a b. max (differ (min x a) a) (differ (min x b) b)) refl refl refl refl refl refl refl refl _ _ _ (line_lt x k) (line_lt a k) (line_lt b k)))

-- b where x is 1, a where it is 0
select : (x a b : ℕ) → bit_xor (bit_and x (bit_xor a b)) a ≡ bit_or (lacks x a) (bit_and x b)
select x a b = lines_ext _ _ (λ k. simp (line_or, line_xor, line_and)
    (three_cases (λ x a b. differ (min x (differ a b)) a) (λ x a b. max (differ (min x a) a) (min x b)) refl refl refl refl refl refl refl refl _ _ _ (line_lt x k) (line_lt a k) (line_lt b k)))

-- ---- the test of three masks
abbrev unmet_of : Wanted → ℕ → ℕ → ℕ
unmet_of w p v = bit_or (bit_or (lacks v w.high) (bit_and v w.low)) (lacks (bit_xor p v) w.edge)

unmet_three : (w : Wanted) (p v : ℕ) → unmet (masks_for w) p v ≡ unmet_of w p v
unmet_three w p v = simp (and_zero_r, or_zero_r)

test_is : (w : Wanted) (p v : ℕ) → eqb (unmet_of w p v) 0 ≡ rule.matches (masks_for w) p v
test_is w p v = ap (λ (x : ℕ). eqb x 0) (sym (unmet_three w p v)) ∙ unmet_none (masks_for w) p v

-- as the code has it
pub met_is : (w : Wanted) (p v : ℕ) → eqb (bit_or (bit_xor (bit_and v (bit_xor w.high w.low)) w.high) (lacks (bit_xor p v) w.edge)) 0 ≡ rule.matches (masks_for w) p v
met_is w p v = ap (λ (x : ℕ). eqb (bit_or x (lacks (bit_xor p v) w.edge)) 0) (select v w.high w.low) ∙ test_is w p v

-- a sample after itself fails every line that has to differ
after_itself : (w : Wanted) (v : ℕ) → unmet_of w v v ≡ 0 → w.edge ≡ 0
after_itself w v e = sym none_differ ∙ or_zero_right (bit_or (lacks v w.high) (bit_and v w.low)) (lacks (bit_xor v v) w.edge) e
  where
    none_differ : lacks (bit_xor v v) w.edge ≡ w.edge
    none_differ = ap (λ (x : ℕ). lacks x w.edge) (xor_self v) ∙ ap (λ (x : ℕ). bit_xor x w.edge) (and_zero_l w.edge) ∙ xor_zero_l w.edge

regroup : (a b c d e f g : ℕ) → bit_or (bit_or (bit_or a b) (bit_or c d)) (bit_or (bit_or e f) g) ≡ bit_or (bit_or (bit_or (bit_or a c) (bit_or b e)) (bit_or d f)) g
regroup a b c d e f g = simp or-sort

module _ (m : Masks) where
  unmet_same : (p v : ℕ) → unmet_of (wanted_of m) p v ≡ unmet (as_masks m) p v
  unmet_same p v =
      ap₂ bit_or (ap₂ bit_or (lacks_either v m.high m.rising) (and_either v m.low m.falling))
      (lacks_either x (bit_or m.rising m.falling) m.edge ∙ ap (λ (y : ℕ). bit_or y (lacks x m.edge)) (lacks_either x m.rising m.falling))
      ∙ regroup (lacks v m.high) (lacks v m.rising) (bit_and v m.low) (bit_and v m.falling) (lacks x m.rising) (lacks x m.falling) (lacks x m.edge)
      ∙ ap₂ (λ (a b : ℕ). bit_or (bit_or (bit_or (bit_or (lacks v m.high) (bit_and v m.low)) a) b) (lacks x m.edge)) (sym (rising_as p v m.rising)) (sym (falling_as p v m.falling))
    where
      x : ℕ
      x = bit_xor p v

  pub matches_same : (p v : ℕ) → rule.matches (masks_for (wanted_of m)) p v ≡ rule.matches (as_masks m) p v
  matches_same p v = sym (test_is (wanted_of m) p v) ∙ ap (λ (x : ℕ). eqb x 0) (unmet_same p v) ∙ unmet_none (as_masks m) p v

  -- the first sample fires as one that comes after itself
  first_same : (v : ℕ) → rule.fires (as_masks m) None v ≡ rule.matches (masks_for (wanted_of m)) v v
  unfolding rule.fires
  first_same v = go (ℕ_discrete (wanted_of m).edge 0)
    where
      go : Dec ((wanted_of m).edge ≡ 0) → (eqb (wanted_of m).edge 0 && rule.matches (as_masks m) v v) ≡ rule.matches (masks_for (wanted_of m)) v v
      go (yes e) = ap (λ (b : Bool). b && rule.matches (as_masks m) v v) (eq-eqb _ _ e) ∙ sym (matches_same v v)
      go (no n) = ap (λ (b : Bool). b && rule.matches (as_masks m) v v) (ne_eqb _ _ n) ∙ sym (sym (test_is (wanted_of m) v v) ∙ ne_eqb _ _ (λ e. n (after_itself (wanted_of m) v e)))

  -- ---- the first firing place
  fire_same : (xs : List ℕ) (p : ℕ) → rule.first_fire (masks_for (wanted_of m)) (Some p) xs ≡ rule.first_fire (as_masks m) (Some p) xs
  unfolding rule.first_fire rule.fires
  fire_same [] p = refl
  fire_same (v ∷ vs) p = ap₂ (λ (b : Bool) (k : ℕ). cond b 0 (suc k)) (matches_same p v) (fire_same vs v)

  pub fire_first : (q : Option ℕ) (v : ℕ) (vs : List ℕ) → rule.first_fire (masks_for (wanted_of m)) (Some (unwrap_or q v)) (v ∷ vs) ≡ rule.first_fire (as_masks m) q (v ∷ vs)
  unfolding rule.first_fire rule.fires
  fire_first None v vs = ap₂ (λ (b : Bool) (k : ℕ). cond b 0 (suc k)) (sym (first_same v)) (fire_same vs v)
  fire_first (Some p) v vs = fire_same (v ∷ vs) p
