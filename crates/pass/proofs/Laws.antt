-- Laws of passing: a run that the code takes is the definition's, and what is left after it.
use Prim.Native.Nat.{ℕ, zero, suc, ◌+◌, ◌-◌, ◌*◌, ◌/◌, ◌≤◌, ◌<◌}
use mathlib.Core.Path.{◌≡◌, refl, sym, ap, ap₂, ◌∙◌, subst}
use mathlib.Core.Bool.{Bool, false, cond}
use mathlib.Core.List.{List}
use native.Mathlib.Nat.{le_antisymm, mul-le-mul_right, div-mul-le_self, one-mul}
use native.Mathlib.Decide.{dec_lt}
use native.Mathlib.Omega.{arith}
use lib.Dec.{leb}
use borrow.Author.Tests.{lt-ltb, le-ltb, le-leb, lt-leb}
use Rattle.rules.specs.Node.{Node, quiet, span, top_level}
use Rattle.rules.proofs.Walk.{span_pos}
use Rattle.find.specs.Run.{carried, Run}
use Rattle.find.specs.Takes.{Takes}
use Rattle.find.proofs.Way.{stretch_some}
use Rattle.pass.specs.Pass.{quiet_up_to, level_for, nodes_from, nodes_asked, nodes_passed, behind_run, pass_to, pass_from}

-- ---- a run
run_up : (nodes : ℕ → Node) (mask v n k u j m : ℕ) → Run nodes mask v n k u → j + m ≡ n → j ≤ k → quiet_up_to nodes mask v j m ≡ k
unfolding quiet_up_to
run_up nodes mask v n k u j zero r e h = le_antisymm h (omega (arith, r.most, e))
run_up nodes mask v n k u j (suc m) r e h = go (dec_lt j k) (λ l. run_up nodes mask v n k u (suc j) m r (omega (arith, e)) l)
  where
    go : Dec (j < k) → (suc j ≤ k → quiet_up_to nodes mask v (suc j) m ≡ k) → cond (quiet (nodes j) (carried v nodes j) mask) (quiet_up_to nodes mask v (suc j) m) j ≡ k
    go (yes l) rest = ap (λ (b : Bool). cond b (quiet_up_to nodes mask v (suc j) m) j) (r.quiets.each j l) ∙ rest l
    go (no l) rest =
        ap (λ (b : Bool). cond b (quiet_up_to nodes mask v (suc j) m) j)
        (ap (λ (i : ℕ). quiet (nodes i) (carried v nodes i) mask) here ∙ ap (λ (x : ℕ). quiet (nodes k) x mask) (sym r.quiets.carries) ∙ r.stops (omega (arith, e, here)))
        ∙ here
      where
        here : j ≡ k
        here = le_antisymm h (omega (arith, l))

module _ (unit base hi : ℕ) (part : List ℕ) (levels : ℕ → List ℕ) (mask : ℕ) where
  abbrev To : ℕ → ℕ → ℕ → ℕ → ℕ
  To = pass_to unit base hi part levels mask

  abbrev Behind : (ℕ → ℕ → ℕ → ℕ) → ℕ → ℕ → ℕ → ℕ → ℕ → ℕ → ℕ → ℕ
  Behind = behind_run unit base hi part levels mask

  abbrev asked : ℕ → ℕ → ℕ
  asked = nodes_asked unit base hi part levels mask

  abbrev nodes : ℕ → ℕ → ℕ → Node
  nodes = nodes_from unit base hi part levels mask

  abbrev quiets : ℕ → ℕ → ℕ → ℕ
  quiets = nodes_passed unit base hi part levels mask

  -- the run at level l
  abbrev by_level : ℕ → ℕ → ℕ → ℕ → ℕ → ℕ
  by_level f p cap v l = Behind (To f) l (span l) (asked l p) (quiets l p v) (carried v (nodes l p) (quiets l p v)) p cap

  -- from place p on, under a cap and with v before, quiet nodes reach to `whole`
  pub record Left (whole p cap v : ℕ) : Type 0 where
    pub fuel : ℕ
    pub enough : hi - p + cap < fuel
    pub rest : To fuel p cap v ≡ whole

  pub left_starts : (p v : ℕ) → Left (pass_from unit base hi part levels mask p v) p top_level v
  left_starts p v = record { fuel = suc (hi - p + top_level); enough = omega arith; rest = refl }

  pub left_ends : {whole p cap v : ℕ} → Left whole p cap v → hi ≤ p → p ≡ whole
  unfolding pass_to
  left_ends {whole} {p} {cap} {v} left h = go left.fuel left.rest
    where
      go : (f : ℕ) → To f p cap v ≡ whole → p ≡ whole
      go zero e = e
      go (suc f) e = sym (ap (λ (b : Bool). cond b (by_level f p cap v (level_for unit base hi part levels mask p cap)) p) (le-ltb p hi h)) ∙ e

  module _ {p cap v l s n k u : ℕ} (inside : p < hi) (t : Takes false unit base hi part levels mask p cap v l s n k u) where
    t' : Takes false unit base hi part levels mask p cap v l (span l) n k u
    t' = subst (λ (w : ℕ). Takes false unit base hi part levels mask p cap v l w n k u) t.span_is t

    -- its places
    pub run_some : 1 ≤ n
    run_some = stretch_some false p (hi - p) cap l s n t.best t.span_is t.asked

    pub run_reach : k * s ≤ hi - p
    run_reach = omega (arith, mul-le-mul_right {m = k} {n = n} s t.passed.most, mul-le-mul_right {m = n} {n = (hi - p) / s} s (omega (arith, t.asked)), div-mul-le_self (hi - p) s)

    pub run_moves : 1 ≤ k → 1 ≤ k * s
    run_moves h = omega (arith, mul-le-mul_right {m = 1} {n = k} s h, one-mul s, t.span_is, span_pos l)

    -- as the definition takes it
    quiets_are : k ≡ quiets l p v
    quiets_are = sym (run_up (nodes l p) mask v n k u 0 n t'.passed (omega arith) (omega arith)) ∙ ap (quiet_up_to (nodes l p) mask v 0) t'.asked

    run_is : (f : ℕ) → Behind (To f) l s n k u p cap ≡ by_level f p cap v (level_for unit base hi part levels mask p cap)
    run_is f =
        ap₂ (λ (w m : ℕ). Behind (To f) l w m k u p cap) t.span_is t'.asked
        ∙ ap₂ (λ (j x : ℕ). Behind (To f) l (span l) (asked l p) j x p cap) quiets_are (t'.passed.quiets.carries ∙ ap (carried v (nodes l p)) quiets_are)
        ∙ ap (by_level f p cap v) t.best.is

    module _ {whole : ℕ} (left : Left whole p cap v) where
      -- one run is taken off the fuel
      opened : (f : ℕ) × (left.fuel ≡ suc f) × (Behind (To f) l s n k u p cap ≡ whole)
      unfolding pass_to
      opened = go left.fuel left.enough left.rest
        where
          go : (g : ℕ) → hi - p + cap < g → To g p cap v ≡ whole → (f : ℕ) × (g ≡ suc f) × (Behind (To f) l s n k u p cap ≡ whole)
          go zero d e = absurd (omega (arith, d))
          go (suc f) d e = (f, refl, run_is f ∙ sym (ap (λ (b : Bool). cond b (by_level f p cap v (level_for unit base hi part levels mask p cap)) p) (lt-ltb p hi inside)) ∙ e)

      -- all nodes of it are quiet
      pub left_past : (k < n → ⊥) → Left whole (p + k * s) cap u
      left_past h =
          let o = opened in
          record {
            fuel = o.0;
            enough = omega (arith, left.enough, o.1, run_moves (omega (arith, h, run_some, t.passed.most)), run_reach);
            rest = sym (ap (λ (b : Bool). cond b (cond (leb l 1) (p + k * s) (To o.0 (p + k * s) (l - 1) u)) (To o.0 (p + k * s) cap u)) (le-ltb k n (omega (arith, h)))) ∙ o.2;
          }

      -- one is not, at a level above 1: the level below
      pub left_lower : k < n → (l ≤ 1 → ⊥) → Left whole (p + k * s) (l - 1) u
      left_lower h g =
          let o = opened in
          record {
            fuel = o.0;
            enough = omega (arith, left.enough, o.1, run_reach, t.best.below, g);
            rest =
                sym (ap (λ (b : Bool). cond b (cond (leb l 1) (p + k * s) (To o.0 (p + k * s) (l - 1) u)) (To o.0 (p + k * s) cap u)) (lt-ltb k n h)
                ∙ ap (λ (b : Bool). cond b (p + k * s) (To o.0 (p + k * s) (l - 1) u)) (lt-leb l 1 (omega (arith, g))))
                ∙ o.2;
          }

      -- at level 1 or 0: here
      pub left_stops : k < n → l ≤ 1 → p + k * s ≡ whole
      left_stops h g =
          let o = opened in
          sym (ap (λ (b : Bool). cond b (cond (leb l 1) (p + k * s) (To o.0 (p + k * s) (l - 1) u)) (To o.0 (p + k * s) cap u)) (lt-ltb k n h) ∙ ap (λ (b : Bool). cond b (p + k * s) (To o.0 (p + k * s) (l - 1) u)) (le-leb l 1 g)) ∙ o.2
