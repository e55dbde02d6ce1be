-- A find at a stretch, and a search over stretches, step by step.
use mathlib.Core.Path.{◌≡◌, refl, sym, ap, ap₂, ◌∙◌}
use mathlib.Core.Bool.{Bool, true, false, cond, ◌&&◌}
use mathlib.Core.List.{List}
use Rattle.std.specs.Prelude.{Option, None, Some}
use Prim.Native.Nat.{ℕ, zero, suc, ◌+◌, ◌-◌, ◌*◌, ◌≤◌, ◌<◌}
use native.Mathlib.Nat.{div-add-mod'}
use native.Mathlib.Omega.{arith}
use lib.Dec.{leb}
use lib.ListN.{length}
use borrow.Author.Tests.{le-leb, lt-leb}
use Rattle.rules.specs.Stretches.{Stretch}
use Rattle.unknown.specs.Crossing.{nth_number, stretch_count, resume, crossing, crossed}

-- a stretch on the way is one of the list
pub nth_inside : (back : Bool) (list : List ℕ) (k : ℕ) → k < stretch_count list → 2 * nth_number back (stretch_count list) k + 1 < length list
nth_inside true list k h = omega (arith, h, div-add-mod' (length list) 2)
nth_inside false list k h = omega (arith, h, div-add-mod' (length list) 2)

-- ---- a find at a stretch
module _ (search : ℕ → Option ℕ) (back : Bool) (first end i : ℕ) where
  tested : (b : Bool) → (leb first i && leb i end) ≡ b → cond b (search (resume back first end)) (Some i) ≡ crossing search back first end (Some i)
  tested b e = ap (λ (x : Bool). cond x (search (resume back first end)) (Some i)) (sym e)

  pub stays_before : i < first → Some i ≡ crossing search back first end (Some i)
  stays_before h = tested false (ap (λ (x : Bool). x && leb i end) (lt-leb first i h))

  pub stays_behind : first ≤ i → end < i → Some i ≡ crossing search back first end (Some i)
  stays_behind h l = tested false (ap₂ ◌&&◌ (le-leb first i h) (lt-leb i end l))

  pub goes_on : first ≤ i → i ≤ end → search (resume back first end) ≡ crossing search back first end (Some i)
  goes_on h l = tested true (ap₂ ◌&&◌ (le-leb first i h) (le-leb i end l))

-- ---- over stretches
module _ (search : ℕ → Option ℕ) (back : Bool) (stretch : ℕ → Stretch) (found : Option ℕ) where
  -- none stays none
  pub crossed_none : (k j : ℕ) → crossed search back stretch k found ≡ None → crossed search back stretch (j + k) found ≡ None
  unfolding crossed
  crossed_none k zero e = ap (λ (n : ℕ). crossed search back stretch n found) none_more ∙ e
    where
      none_more : 0 + k ≡ k
      none_more = omega arith
  crossed_none k (suc j) e =
      ap (λ (n : ℕ). crossed search back stretch n found) more ∙ ap (crossing search back (stretch (j + k)).first ((stretch (j + k)).first + (stretch (j + k)).count)) (crossed_none k j e)
    where
      more : suc j + k ≡ suc (j + k)
      more = omega arith

  pub none_left : (k n : ℕ) → k ≤ n → crossed search back stretch k found ≡ None → None ≡ crossed search back stretch n found
  none_left k n h e = sym (ap (λ (m : ℕ). crossed search back stretch m found) split ∙ crossed_none k (n - k) e)
    where
      split : n ≡ n - k + k
      split = omega (arith, h)

  -- none at first, and one more
  pub crossed_start : found ≡ crossed search back stretch 0 found
  unfolding crossed
  crossed_start = refl

  pub crossed_next : (k : ℕ) → crossed search back stretch (k + 1) found ≡ crossing search back (stretch k).first ((stretch k).first + (stretch k).count) (crossed search back stretch k found)
  unfolding crossed
  crossed_next k = ap (λ (n : ℕ). crossed search back stretch n found) one
    where
      one : k + 1 ≡ suc k
      one = omega arith
