-- Jumps toward either end of a burst: upward for the end (`down` false), downward for the start. 02: CR 13.
use mathlib.Core.Path.{◌≡◌, refl, sym, ◌∙◌, subst}
use mathlib.Core.Bool.{Bool, true, false, cond}
use mathlib.Core.Logic.{◌⊎◌, inl, inr}
use Rattle.std.specs.Prelude.{Option, None, Some}
use Rattle.rules.proofs.Options.{none-ne-some}
use Prim.Native.Nat.{ℕ, zero, suc, ◌+◌, ◌≤◌, ◌<◌}
use native.Mathlib.Omega.{arith}
use Rattle.rules.specs.Burst.{End, jumped, jump}
use Rattle.rules.specs.Unknown.{Sooner}
use Rattle.rules.proofs.Nearest.{not_both, Order, order}
use Rattle.rules.proofs.Nearest.Order.{first, same, second}

-- e lies less than the gap from p
abbrev pub Near : Bool → ℕ → ℕ → ℕ → Type 0
Near true gap p e = p < e + gap
Near false gap p e = e < p + gap

-- p, or further than p
abbrev pub Onto : Bool → ℕ → ℕ → Type 0
Onto down p e = (p ≡ e) ⊎ Sooner down p e

onto_next : (down : Bool) (p q r : ℕ) → Sooner down p q → Onto down q r → Sooner down p r
onto_next true p q r h (inl e) = omega arith
onto_next true p q r h (inr k) = omega arith
onto_next false p q r h (inl e) = omega arith
onto_next false p q r h (inr k) = omega arith

-- what lies between two places is less far from the second
near_between : (down : Bool) (gap p i e : ℕ) → Onto down p i → Near down gap p e → Near down gap i e
near_between true gap p i e (inl q) h = omega arith
near_between true gap p i e (inr q) h = omega arith
near_between false gap p i e (inl q) h = omega arith
near_between false gap p i e (inr q) h = omega arith

-- and from the first
closer : (down : Bool) (gap p i e : ℕ) → Sooner down i e → Near down gap p e → Near down gap p i
closer true gap p i e q h = omega arith
closer false gap p i e q h = omega arith

-- k jumps lead at least k places on
abbrev pub Paces : Bool → ℕ → ℕ → ℕ → Type 0
Paces true p k e = e + k ≤ p
Paces false p k e = p + k ≤ e

pace : (down : Bool) (p q k e : ℕ) → Sooner down p q → Paces down q k e → Paces down p (suc k) e
pace true p q k e h l = omega arith
pace false p q k e h l = omega arith

stay : (down : Bool) (p : ℕ) → Paces down p 0 p
stay true p = omega arith
stay false p = omega arith

-- where a jump from a change leads: the furthest change less than the gap away, which may be the change itself
pub record Reach (Ch : ℕ → Type 0) (down : Bool) (gap p : ℕ) (found : Option ℕ) : Type 0 where
  pub place : ℕ
  pub is : found ≡ Some place
  pub change : Ch place
  pub onto : Onto down p place
  pub near : Near down gap p place
  pub furthest : (i : ℕ) → Ch i → Sooner down place i → Near down gap p i → ⊥

-- an end that was reached from a change p, with n jumps behind it
pub record Ended (Ch : ℕ → Type 0) (down : Bool) (gap p n budget : ℕ) (e : End) : Type 0 where
  pub change : Ch e.place
  pub onto : Onto down p e.place
  -- from every change on the way the next ones are near
  pub linked : (i : ℕ) → Ch i → Onto down p i → Sooner down i e.place → (j : ℕ) × Ch j × Sooner down i j × Onto down j e.place × Near down gap i j
  -- the jumps made
  pub made : ℕ
  pub jumps_are : e.jumps ≡ n + made
  pub paces : Paces down p made e.place
  -- where the budget was not used up, nothing is near
  pub stops : e.jumps < n + budget → (i : ℕ) → Ch i → Sooner down e.place i → Near down gap e.place i → ⊥

-- what is p or further does not come before it
pub back_again : (down : Bool) (p i : ℕ) → Onto down p i → Sooner down i p → ⊥
back_again down p i (inl e) h = let here : Sooner down p p = subst (λ (x : ℕ). Sooner down x p) (sym e) h in not_both down p p here here
back_again down p i (inr k) h = not_both down p i k h

pub onto_of : (down : Bool) (p e : ℕ) → (Sooner down e p → ⊥) → Onto down p e
onto_of down p e h = go (order down p e)
  where
    go : Order down p e → Onto down p e
    go (first k) = inr k
    go (same k) = inl k
    go (second k) = absurd (h k)

pub none_some : {A : Type 0} {x : A} → None ≡ Some x → ⊥
none_some {A} {x} z = none-ne-some x z

some_same : {x y : ℕ} → Some x ≡ Some y → x ≡ y
some_same z = cc

module _ (Ch : ℕ → Type 0) (down : Bool) (gap : ℕ) (reach : ℕ → Option ℕ) (further : ℕ → ℕ → Bool)
    (yes-further : (p e : ℕ) → further p e ≡ true → Sooner down p e) (not-further : (p e : ℕ) → further p e ≡ false → Sooner down p e → ⊥)
    (reaches : (p : ℕ) → Ch p → Reach Ch down gap p (reach p)) where
  -- it was further, or it was not
  ended_on : (p n budget e : ℕ) (f : End) → Reach Ch down gap p (reach p) → reach p ≡ Some e → Sooner down p e → Ended Ch down gap e (suc n) budget f → Ended Ch down gap p n (suc budget) f
  ended_on p n budget e f r q h x = record {
    change = x.change;
    onto = inr (onto_next down p e f.place h x.onto);
    linked = λ i ci a b. go i ci a b (order down i e);
    made = suc x.made;
    jumps_are = omega (arith, x.jumps_are);
    paces = pace down p e x.made f.place h x.paces;
    stops = λ l. x.stops (omega (arith, l));
  }
    where
      here : r.place ≡ e
      here = some_same (sym r.is ∙ q)

      go : (i : ℕ) → Ch i → Onto down p i → Sooner down i f.place → Order down i e → (j : ℕ) × Ch j × Sooner down i j × Onto down j f.place × Near down gap i j
      go i ci a b (first k) = (e, subst Ch here r.change, k, x.onto, near_between down gap p i e a (subst (Near down gap p) here r.near))
      go i ci a b (same k) = x.linked i ci (inl (sym k)) b
      go i ci a b (second k) = x.linked i ci (inr k) b

  ended_here : (p n budget e : ℕ) → Ch p → Reach Ch down gap p (reach p) → reach p ≡ Some e → (Sooner down p e → ⊥) → Ended Ch down gap p n (suc budget) (record { place = p; jumps = n })
  ended_here p n budget e c r q h = record {
    change = c;
    onto = inl refl;
    linked = λ i ci a b. absurd (back_again down p i a b);
    made = 0;
    jumps_are = omega arith;
    paces = stay down p;
    stops = λ l i ci x y. r.furthest i ci (subst (λ (z : ℕ). Sooner down z i) (stays r.onto) x) y;
  }
    where
      stays : Onto down p r.place → p ≡ r.place
      stays (inl z) = z
      stays (inr z) = absurd (h (subst (Sooner down p) (some_same (sym r.is ∙ q)) z))

  pub ended : (budget p n : ℕ) → Ch p → Ended Ch down gap p n budget (jump reach further budget p n)
  unfolding jump
  ended zero p n c = record { change = c; onto = inl refl; linked = λ i ci a b. absurd (back_again down p i a b); made = 0; jumps_are = omega arith; paces = stay down p; stops = λ h. absurd (omega (arith, h)) }
  ended (suc budget) p n c = go (reach p) refl (λ e ce. ended budget e (suc n) ce)
    where
      r : Reach Ch down gap p (reach p)
      r = reaches p c

      step : (e : ℕ) → reach p ≡ Some e → Ended Ch down gap e (suc n) budget (jump reach further budget e (suc n)) → (t : Bool) → further p e ≡ t
          → Ended Ch down gap p n (suc budget) (cond t (jump reach further budget e (suc n)) (record { place = p; jumps = n }))
      step e q ih true t = ended_on p n budget e (jump reach further budget e (suc n)) r q (yes-further p e t) ih
      step e q ih false t = ended_here p n budget e c r q (not-further p e t)

      go : (f : Option ℕ) → reach p ≡ f → ((e : ℕ) → Ch e → Ended Ch down gap e (suc n) budget (jump reach further budget e (suc n)))
          → Ended Ch down gap p n (suc budget) (jumped further p n f (λ e. jump reach further budget e (suc n)))
      go None q ih = absurd (none_some (sym q ∙ r.is))
      go (Some e) q ih = step e q (ih e (subst Ch (some_same (sym r.is ∙ q)) r.change)) (further p e) refl

  -- a larger budget leads as far, or further
  pub no_less : (budget more p n : ℕ) → budget ≤ more → Ch p → Onto down (jump reach further budget p n).place (jump reach further more p n).place
  unfolding jump
  no_less zero more p n h c = (ended more p n c).onto
  no_less (suc budget) zero p n h c = absurd (omega (arith, h))
  no_less (suc budget) (suc more) p n h c = go (reach p) refl (λ e ce. no_less budget more e (suc n) (omega (arith, h)) ce)
    where
      r : Reach Ch down gap p (reach p)
      r = reaches p c

      step : (e : ℕ) → Onto down (jump reach further budget e (suc n)).place (jump reach further more e (suc n)).place → (t : Bool)
          → Onto down (cond t (jump reach further budget e (suc n)) (record { place = p; jumps = n })).place (cond t (jump reach further more e (suc n)) (record { place = p; jumps = n })).place
      step e ih true = ih
      step e ih false = inl refl

      go : (f : Option ℕ) → reach p ≡ f → ((e : ℕ) → Ch e → Onto down (jump reach further budget e (suc n)).place (jump reach further more e (suc n)).place)
          → Onto down (jumped further p n f (λ e. jump reach further budget e (suc n))).place (jumped further p n f (λ e. jump reach further more e (suc n))).place
      go None q ih = inl refl
      go (Some e) q ih = step e (ih e (subst Ch (some_same (sym r.is ∙ q)) r.change)) (further p e)

-- on the way to an end, what is next is near
pub next_near : (Ch : ℕ → Type 0) (down : Bool) (gap p n budget : ℕ) (e : End) → Ended Ch down gap p n budget e
    → (i j : ℕ) → Ch i → Onto down p i → Sooner down i j → Onto down j e.place → ((k : ℕ) → Sooner down i k → Sooner down k j → Ch k → ⊥) → Near down gap i j
next_near Ch down gap p n budget e x i j ci a b c between = go (x.linked i ci a (onto_next down i j e.place b c))
  where
    side : (q : ℕ) → Ch q → Sooner down i q → Near down gap i q → Order down q j → Near down gap i j
    side q cq h m (first k) = absurd (between q h k cq)
    side q cq h m (same k) = subst (Near down gap i) k m
    side q cq h m (second k) = closer down gap i j q k m

    go : (q : ℕ) × Ch q × Sooner down i q × Onto down q e.place × Near down gap i q → Near down gap i j
    go (q, cq, h, o, m) = side q cq h m (order down q j)
