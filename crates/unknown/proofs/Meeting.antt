-- The first place that a stretch touches, stretch by stretch.
use mathlib.Core.Path.{◌≡◌, refl, sym, ap, ◌∙◌}
use mathlib.Core.Bool.{Bool, true, false, cond}
use mathlib.Core.List.{List}
use Rattle.std.specs.Prelude.{Option, None, Some}
use Rattle.rules.proofs.Options.{none-ne-some}
use Prim.Native.Nat.{ℕ, zero, suc, ◌+◌, ◌-◌, ◌≤◌, max}
use native.Mathlib.Nat.{le_refl}
use native.Mathlib.Omega.{arith}
use lib.Dec.{leb}
use borrow.Author.Tests.{leb-true}
use Rattle.rules.specs.Walk.{or_found}
use Rattle.rules.specs.Stretches.{Stretch, stretch_at}
use Rattle.rules.specs.Unknown.{list_wrong}
use Rattle.rules.proofs.Listed.{Lies}
use Rattle.stretches.proofs.Listed.{passed_lies}
use Rattle.unknown.specs.Crossing.{stretch_count, nth_stretch}
use Rattle.unknown.specs.Meeting.{meets, met, cut_at}
use Rattle.unknown.proofs.Crossing.{nth_inside}

-- ---- stretches
module _ (back : Bool) (p : ℕ) (stretch : ℕ → Stretch) where
  -- none at first, and one more
  pub met_start : met back p stretch 0 ≡ None
  unfolding met
  met_start = refl

  pub met_next : (k : ℕ) → met back p stretch (k + 1) ≡ or_found (met back p stretch k) (meets back p (stretch k).first ((stretch k).first + (stretch k).count))
  unfolding met
  met_next k = ap (met back p stretch) one
    where
      one : k + 1 ≡ suc k
      one = omega arith

  met_more : (k j c : ℕ) → met back p stretch k ≡ Some c → met back p stretch (j + k) ≡ Some c
  unfolding met
  met_more k zero c e = ap (met back p stretch) none_more ∙ e
    where
      none_more : 0 + k ≡ k
      none_more = omega arith
  met_more k (suc j) c e = ap (met back p stretch) more ∙ ap (λ (a : Option ℕ). or_found a (meets back p (stretch (j + k)).first ((stretch (j + k)).first + (stretch (j + k)).count))) (met_more k j c e)
    where
      more : suc j + k ≡ suc (j + k)
      more = omega arith

  -- the first stays the first
  pub met_stays : (k n c : ℕ) → k ≤ n → met back p stretch k ≡ Some c → Some c ≡ met back p stretch n
  met_stays k n c h e = sym (ap (met back p stretch) split ∙ met_more k (n - k) c e)
    where
      split : n ≡ n - k + k
      split = omega (arith, h)

-- a stretch is met at a place of the capture
pub met_inside : (p len : ℕ) (list : List ℕ) → list_wrong len list ≡ false → (k c : ℕ) → k ≤ stretch_count list → met false p (nth_stretch false list) k ≡ Some c → c ≤ len
unfolding met
met_inside p len list w zero c h e = absurd (none-ne-some c e)
met_inside p len list w (suc k) c h e = go (met_inside p len list w k) (met false p (nth_stretch false list) k) refl e
  where
    s : Stretch
    s = stretch_at list k

    lies : Lies 0 len s
    lies = passed_lies len list k w (nth_inside false list k (omega (arith, h)))

    here : (b : Bool) → leb (max s.first p) (s.first + s.count) ≡ b → cond b (Some (max s.first p)) None ≡ Some c → c ≤ len
    here true q x = omega (arith, leb-true (max s.first p) (s.first + s.count) q, same, lies.inside)
      where
        same : max s.first p ≡ c
        same = cc
    here false q x = absurd (none-ne-some c x)

    go : ((d : ℕ) → k ≤ stretch_count list → met false p (nth_stretch false list) k ≡ Some d → d ≤ len) → (a : Option ℕ) → met false p (nth_stretch false list) k ≡ a → or_found a (meets false p s.first (s.first + s.count)) ≡ Some c → c ≤ len
    go ih None q x = here (leb (max s.first p) (s.first + s.count)) refl x
    go ih (Some d) q x = ih c (omega (arith, h)) (q ∙ x)

pub cut_most : (back : Bool) (p len : ℕ) (list : List ℕ) (c : ℕ) → list_wrong len list ≡ false → met back p (nth_stretch back list) (stretch_count list) ≡ Some c → cut_at back len c ≤ len
cut_most true p len list c w e = le_refl len
cut_most false p len list c w e = met_inside p len list w (stretch_count list) c (le_refl (stretch_count list)) e
