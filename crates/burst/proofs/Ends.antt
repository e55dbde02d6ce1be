-- The burst over any two searches: both its ends are places that the searches gave. So what holds of every place that they give holds of both ends.
use Prim.Native.Nat.{ℕ, zero, suc, ◌-◌, min}
use mathlib.Core.Path.{◌≡◌, refl, subst}
use mathlib.Core.Bool.{Bool, true, false, cond, ◌||◌}
use Rattle.std.specs.Prelude.{Option, None, Some}
use Rattle.rules.proofs.Options.{none-ne-some}
use lib.Dec.{ltb, leb, eqb}
use Rattle.rules.specs.Burst.{Side, Burst, sum, left_with, right_with, nearer, jump, jumped, left_of, right_of, sides, pair_of, last_end, first_end, ends, grown, burst_by}

-- every place that a search gives
abbrev pub Gives : (ℕ → Option ℕ) → (ℕ → Type 0) → Type 0
Gives search P = (x i : ℕ) → search x ≡ Some i → P i

pub record Ends (P : ℕ → Type 0) (b : Burst) : Type 0 where
  pub at_first : P b.first
  pub at_last : P b.last

module _ (P : ℕ → Type 0) where
  -- ---- a side
  abbrev Both : Option Side → Type 0
  Both o = (side : Side) → o ≡ Some side → P side.first × P side.last

  both_none : Both None
  both_none side e = absurd (none-ne-some side e)

  both_some : (x : Side) → P x.first → P x.last → Both (Some x)
  both_some x f l side e = let same : x ≡ side = cc in (subst (λ (y : Side). P y.first) same f, subst (λ (y : Side). P y.last) same l)

  both_if : (t : Bool) (x y : Option Side) → Both x → Both y → Both (cond t x y)
  both_if true x y hx hy = hx
  both_if false x y hx hy = hy

  both_nearer : (l r : Option Side) → Both l → Both r → Both (nearer l r)
  both_nearer None r hl hr = hr
  both_nearer (Some l) None hl hr = hl
  both_nearer (Some l) (Some r) hl hr = both_if (leb l.distance r.distance) (Some l) (Some r) hl hr

  module _ (gap tolerance sample p : ℕ) (hp : P p) where
    both_left : (o : Option ℕ) → ((q : ℕ) → o ≡ Some q → P q) → Both (left_with gap tolerance sample p o)
    both_left None h = both_none
    both_left (Some q) h = both_if (leb (sample - p) tolerance) _ None (both_if (ltb (p - q) gap) _ None (both_some _ (h q refl) hp) both_none) both_none

    both_right : (o : Option ℕ) → ((q : ℕ) → o ≡ Some q → P q) → Both (right_with gap tolerance sample p o)
    both_right None h = both_none
    both_right (Some q) h = both_if (leb (p - sample) tolerance) _ None (both_if (ltb (q - p) gap) _ None (both_some _ hp (h q refl)) both_none) both_none

  -- ---- an end that jumps
  module _ (reach : ℕ → Option ℕ) (further : ℕ → ℕ → Bool) (gives : Gives reach P) where
    jump_place : (budget p n : ℕ) → P p → P (jump reach further budget p n).place
    unfolding jump
    jump_place zero p n h = h
    jump_place (suc budget) p n h = go (reach p) refl (jump_place budget)
      where
        go : (o : Option ℕ) → reach p ≡ o → ((e m : ℕ) → P e → P (jump reach further budget e m).place) → P (jumped further p n o (λ (e : ℕ). jump reach further budget e (suc n))).place
        go None eo ih = h
        go (Some e) eo ih = by (further p e)
          where
            by : (t : Bool) → P (cond t (jump reach further budget e (suc n)) (record { place = p; jumps = n })).place
            by true = ih e (suc n) (gives p e eo)
            by false = h

  -- ---- a burst
  module _ (back fore : ℕ → Option ℕ) (backs : Gives back P) (fores : Gives fore P) (len sample gap tolerance budget : ℕ) where
    both_sides : (g t : ℕ) (p n : Option ℕ) → ((i : ℕ) → p ≡ Some i → P i) → ((i : ℕ) → n ≡ Some i → P i) → Both (sides back fore g t sample p n)
    both_sides g t p n hp hn = both_nearer (left_of back fore g t sample p) (right_of back fore g t sample n) (left p hp) (right n hn)
      where
        left : (o : Option ℕ) → ((i : ℕ) → o ≡ Some i → P i) → Both (left_of back fore g t sample o)
        left None h = both_none
        left (Some i) h = both_left g t sample i (h i refl) (back (i - 1)) (backs (i - 1))

        right : (o : Option ℕ) → ((i : ℕ) → o ≡ Some i → P i) → Both (right_of back fore g t sample o)
        right None h = both_none
        right (Some i) h = both_right g t sample i (h i refl) (fore i) (fores i)

    both_pair : (g t : ℕ) (p n : Option ℕ) → ((i : ℕ) → p ≡ Some i → P i) → ((i : ℕ) → n ≡ Some i → P i) → Both (pair_of back fore g t sample p n)
    both_pair g t None n hp hn = both_sides g t None n hp hn
    both_pair g t (Some p) None hp hn = both_sides g t (Some p) None hp hn
    both_pair g t (Some p) (Some n) hp hn = both_if (ltb (n - p) g) _ _ (both_some _ (hp p refl) (hn n refl)) (both_sides g t (Some p) (Some n) hp hn)

    grown_ends : (side : Option Side) → Both side → (b : Burst) → grown back fore gap budget side ≡ Some b → Ends P b
    grown_ends None h b e = absurd (none-ne-some b e)
    grown_ends (Some side) h b e =
        subst (Ends P) same (record {
          at_first = jump_place (λ (p : ℕ). fore (p - gap)) (λ (p q : ℕ). ltb q p) (λ x i. fores (x - gap) i) budget side.first 0 (h side refl).0;
          at_last = jump_place (λ (p : ℕ). back (sum p (gap - 1))) ltb (λ x i. backs (sum x (gap - 1)) i) budget side.last 0 (h side refl).1;
        })
      where
        same : ends back fore (last_end back fore gap budget side.last) (first_end back fore gap budget side.first) ≡ b
        same = cc

    pub burst_ends : (b : Burst) → burst_by back fore len sample gap tolerance budget ≡ Some b → Ends P b
    unfolding burst_by
    burst_ends b e = go (eqb len 0 || ltb gap 2) e
      where
        go : (t : Bool) → cond t None (grown back fore gap budget (pair_of back fore gap (min tolerance (gap - 1)) sample (back sample) (fore sample))) ≡ Some b → Ends P b
        go true x = absurd (none-ne-some b x)
        go false x = grown_ends (pair_of back fore gap (min tolerance (gap - 1)) sample (back sample) (fore sample)) (both_pair gap (min tolerance (gap - 1)) (back sample) (fore sample) (backs sample) (fores sample)) b x
