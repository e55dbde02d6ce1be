-- All bursts of a capture are listed, each once. 02: CR 13.
use mathlib.Core.Path.{◌≡◌}
use mathlib.Core.Bool.{false}
use mathlib.Core.Logic.{◌⊎◌, inl, inr}
use Rattle.std.specs.Prelude.{Option, None, Some}
use Prim.Native.Nat.{ℕ, ◌+◌, ◌-◌, ◌≤◌, ◌<◌}
use native.Mathlib.Decide.{dec_lt}
use native.Mathlib.Omega.{arith}
use Rattle.rules.specs.Burst.{Burst}
use Rattle.rules.specs.Bursts.{IsChange, IsBurst, Apart, SameEnds, BurstsMeet, IsFound, Done, IsNext, ListsOnce}
use Rattle.rules.proofs.Neighbours.{neighbour, there}
use Rattle.rules.proofs.Jumps.{none_some}

module _ {Q : Type 0} (s : ℕ → ℕ) (len : ℕ) (place : Q → ℕ) (Says : ℕ → Q → ℕ → ℕ → ℕ → Option Burst → Type 0) (h : BurstsMeet s len place Says) (mask gap : ℕ) where
  abbrev Found : Burst → Type 0
  Found = IsFound s len place Says mask gap

  is_burst : (b : Burst) → Found b → IsBurst s len mask gap b
  is_burst b f = h.any mask f.asked_at gap f.tolerance f.budget b f.said

  -- two that share a change
  sharing : (b c : Burst) → Found b → Found c → (i : ℕ) → IsChange s len mask i → b.first ≤ i → i ≤ b.last → c.first ≤ i → i ≤ c.last → SameEnds b c
  sharing b c f g i ci w x y z = go (h.meet mask gap f.asked_at f.tolerance f.budget b g.asked_at g.tolerance g.budget c f.said f.below g.said g.below)
    where
      go : SameEnds b c ⊎ Apart s len mask b c → SameEnds b c
      go (inl e) = e
      go (inr a) = absurd (a i ci w x y z)

  -- none reaches across the end of one
  done_behind : (b : Burst) → Found b → Done s len place Says mask gap b.last
  done_behind b f c g k = go (dec_lt b.last c.last)
    where
      go : Dec (b.last < c.last) → c.last ≤ b.last
      go (yes l) = absurd (omega (arith, l, (sharing b c f g b.last (is_burst b f).last_is (omega (arith, (is_burst b f).order)) (omega arith) k (omega (arith, l))).1))
      go (no l) = omega (arith, l)

  -- none has a change at which there is none
  passed_by : (q : Q) → IsChange s len mask (place q) → (budget : ℕ) → Says mask q gap 0 budget None → (c : Burst) → Found c → c.first ≤ place q → place q < c.last → ⊥
  passed_by q cq budget said c g k l =
      let y = is_burst c g in
      let n = there s len mask false (place q) c.last y.last_is (l, y.last_is.most) in
      let r = neighbour s len mask false (place q) n.0 n.1 in
      let near : n.0 - place q < gap = y.gaps (place q) n.0 cq r.is k r.asked.0 (omega (arith, n.2)) (λ i a b ci. r.first i ci (a, ci.most) b) in
      let b = h.there mask q gap 0 budget None said cq n.0 r.is (λ e. omega (arith, e, r.asked.0)) (omega (arith, near, r.asked.0)) in
      none_some {x = b.0} b.1

  module _ (from : ℕ) (done : Done s len place Says mask gap from) (q : Q) (next : IsNext s len place Says mask gap from (place q)) (budget : ℕ) where
    listed : len ≤ budget → (b : Burst) → Says mask q gap 0 budget (Some b)
        → (b.first ≡ place q) × Done s len place Says mask gap b.last × ((c : Burst) → Found c → from < c.first → c.first ≤ b.last → SameEnds c b)
    listed enough b said = (first_is, done_behind b f, λ c g k l. sharing c b g f c.first (is_burst c g).first_is (omega arith) (omega (arith, (is_burst c g).order)) (omega (arith, first_is, next.soonest c.first (is_burst c g).first_is k)) l)
      where
        f : Found b
        f = record { asked_at = q; tolerance = 0; budget = budget; said = said; below = h.unreached mask q gap 0 budget b said enough }

        around : (b.first ≤ place q + 0) × (place q ≤ b.last + 0)
        around = h.around mask q gap 0 budget b said

        -- it does not reach across the place from which the change was searched for
        begins : Dec (from < b.first) → b.first ≡ place q
        begins (yes k) = omega (arith, around.0, next.soonest b.first (is_burst b f).first_is k)
        begins (no k) = absurd (omega (arith, done b f (omega (arith, k)), around.1, next.behind))

        first_is : b.first ≡ place q
        first_is = begins (dec_lt from b.first)

    passed : Says mask q gap 0 budget None → Done s len place Says mask gap (place q) × ((c : Burst) → Found c → from < c.first → c.first ≤ place q → ⊥)
    passed said = (λ c g k. up c g k (dec_lt (place q) c.last), λ c g k l. passed_by q next.change budget said c g l (omega (arith, next.soonest c.first (is_burst c g).first_is k, (is_burst c g).order)))
      where
        up : (c : Burst) → Found c → c.first ≤ place q → Dec (place q < c.last) → c.last ≤ place q
        up c g k (yes l) = absurd (passed_by q next.change budget said c g k l)
        up c g k (no l) = omega (arith, l)

  pub lists_once : ListsOnce s len place Says mask gap
  lists_once = record {
    start = λ b f k. absurd (omega (arith, k, (is_burst b f).first_is.least));
    listed = λ from done q next budget enough b said. listed from done q next budget enough b said;
    passed = λ from done q next budget said. passed from done q next budget said;
    ended = λ from last c g. last c.first (is_burst c g).first_is;
  }
