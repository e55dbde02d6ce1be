-- Laws of jumps: what a loop that makes them and adds up the nodes read knows, at either end, and that there are never more than the budget.
use Prim.Native.Nat.{ℕ, zero, suc, ◌+◌, ◌-◌, ◌≤◌, ◌<◌}
use mathlib.Core.Path.{◌≡◌, refl, sym, ap, ap₂, ◌∙◌}
use mathlib.Core.Bool.{Bool, true, false, cond}
use Rattle.std.specs.Prelude.{Option, None, Some}
use native.Mathlib.Numerals.{add-one}
use native.Mathlib.Omega.{arith}
use Rattle.rules.specs.Burst.{End, jump, jumped, places, onward, jump_steps}
use Rattle.rules.specs.Walk.{Walked}
use Rattle.burst.specs.Answer.{Jumped}

-- n jumps are made, from start to p, for which `read` nodes were read, and the budget leaves the rest
pub record Jumping (reach : ℕ → Walked) (further : ℕ → ℕ → Bool) (budget start p n read : ℕ) : Type 0 where
  pub within : n ≤ budget
  pub same : jump (places reach) further (budget - n) p n ≡ jump (places reach) further budget start 0
  pub total : read + jump_steps reach further (budget - n) p ≡ jump_steps reach further budget start

pub jumping_starts : (reach : ℕ → Walked) (further : ℕ → ℕ → Bool) (budget start : ℕ) → Jumping reach further budget start start 0 0
jumping_starts reach further budget start = record {
  within = omega arith;
  same = ap (λ (k : ℕ). jump (places reach) further k start 0) (omega arith);
  total = let h : jump_steps reach further (budget - 0) start ≡ jump_steps reach further budget start = ap (λ (k : ℕ). jump_steps reach further k start) (omega arith) in omega arith;
}

module _ {reach : ℕ → Walked} {further : ℕ → ℕ → Bool} {budget start p n read : ℕ} (j : Jumping reach further budget start p n read) where
  -- the end is here
  abbrev Ended : ℕ → Type 0
  Ended read = Jumped reach further budget start (record { place = p; jumps = n; read = read })

  pub jumping_spent : budget ≤ n → Jumped reach further budget start (record { place = p; jumps = budget; read = read })
  unfolding jump jump_steps
  jumping_spent h = record {
    end_is = ap (λ (k : ℕ). record { place = p; jumps = k }) all ∙ sym (ap (λ (k : ℕ). jump (places reach) further k p n) spent) ∙ j.same;
    read_is = let z : jump_steps reach further (budget - n) p ≡ 0 = ap (λ (k : ℕ). jump_steps reach further k p) spent in omega (arith, j.total);
  }
    where
      spent : budget - n ≡ 0
      spent = omega arith

      all : budget ≡ n
      all = omega (arith, j.within)

  -- one more try, by the search w
  module _ {w : Walked} (h : n < budget) (sought : w ≡ reach p) where
    abbrev rest : ℕ → End
    rest e = jump (places reach) further (budget - n - 1) e (suc n)

    abbrev rest_steps : ℕ → ℕ
    rest_steps = jump_steps reach further (budget - n - 1)

    one : suc (budget - n - 1) ≡ budget - n
    one = omega arith

    tried : (o : Option ℕ) → w.found ≡ o → jumped further p n o rest ≡ jump (places reach) further budget start 0
    unfolding jump
    tried o found =
        sym (ap (λ (x : Walked). jumped further p n x.found rest) (sym sought) ∙ ap (λ (x : Option ℕ). jumped further p n x rest) found)
        ∙ ap (λ (k : ℕ). jump (places reach) further k p n) one
        ∙ j.same

    summed : (o : Option ℕ) → w.found ≡ o → read + w.steps + onward further p o rest_steps ≡ jump_steps reach further budget start
    unfolding jump_steps
    summed o found =
        let x : (reach p).steps + onward further p (reach p).found rest_steps ≡ w.steps + onward further p o rest_steps = ap (λ (x : Walked). x.steps + onward further p x.found rest_steps) (sym sought) ∙ ap (λ (x : Option ℕ). w.steps + onward further p x rest_steps) found in
        let y : (reach p).steps + onward further p (reach p).found rest_steps ≡ jump_steps reach further (budget - n) p = ap (λ (k : ℕ). jump_steps reach further k p) one in
        omega (arith, j.total)

    pub jumping_read : read + w.steps ≤ jump_steps reach further budget start
    jumping_read = omega (arith, summed w.found refl)

    pub jumping_none : w.found ≡ None → Ended (read + w.steps)
    jumping_none r = record { end_is = tried None r; read_is = omega (arith, summed None r) }

    module _ {e : ℕ} (r : w.found ≡ Some e) where
      pub jumping_near : further p e ≡ false → Ended (read + w.steps)
      jumping_near f = record {
        end_is = sym (ap (λ (b : Bool). cond b (rest e) (record { place = p; jumps = n })) f) ∙ tried (Some e) r;
        read_is = let z : cond (further p e) (rest_steps e) 0 ≡ 0 = ap (λ (b : Bool). cond b (rest_steps e) 0) f in omega (arith, summed (Some e) r);
      }

      pub jumping_on : further p e ≡ true → Jumping reach further budget start e (n + 1) (read + w.steps)
      jumping_on f = record {
        within = omega arith;
        same = ap₂ (λ (k m : ℕ). jump (places reach) further k e m) left (add-one n) ∙ sym (ap (λ (b : Bool). cond b (rest e) (record { place = p; jumps = n })) f) ∙ tried (Some e) r;
        total =
            let x : jump_steps reach further (budget - (n + 1)) e ≡ rest_steps e = ap (λ (k : ℕ). jump_steps reach further k e) left in
            let y : cond (further p e) (rest_steps e) 0 ≡ rest_steps e = ap (λ (b : Bool). cond b (rest_steps e) 0) f in
            omega (arith, summed (Some e) r);
      }
        where
          left : budget - (n + 1) ≡ budget - n - 1
          left = omega arith

module _ (reach : ℕ → Option ℕ) (further : ℕ → ℕ → Bool) where
  jumps_more : (budget p n : ℕ) → (jump reach further budget p n).jumps ≤ n + budget
  unfolding jump
  jumps_more zero p n = omega arith
  jumps_more (suc budget) p n = go (reach p) (λ e. jumps_more budget e (suc n))
    where
      go : (o : Option ℕ) → ((e : ℕ) → (jump reach further budget e (suc n)).jumps ≤ suc n + budget) → (jumped further p n o (λ (e : ℕ). jump reach further budget e (suc n))).jumps ≤ n + suc budget
      go None ih = omega arith
      go (Some e) ih = by (further p e) (ih e)
        where
          by : (b : Bool) → (jump reach further budget e (suc n)).jumps ≤ suc n + budget → (cond b (jump reach further budget e (suc n)) (record { place = p; jumps = n })).jumps ≤ n + suc budget
          by true h = omega arith
          by false h = omega arith

  pub jumps_most : (budget p : ℕ) → (jump reach further budget p 0).jumps ≤ budget
  jumps_most budget p = omega (arith, jumps_more budget p 0)
