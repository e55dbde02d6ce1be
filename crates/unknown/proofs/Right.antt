-- The theorems about the four calls. Where levels are right and samples are the unit's, an answer is 02's: the first place on the way that is changed in every
-- filling of the unknown stretches, or in some (rules' unknown_is says what that is).
use mathlib.Core.Path.{◌≡◌, refl, sym, ap, ◌∙◌, subst}
use mathlib.Core.Bool.{Bool, true, false, cond, not, ◌&&◌, ◌||◌, false≢true}
use mathlib.Core.List.{List, [], ◌∷◌}
use mathlib.Core.Logic.{◌⊎◌, inl, inr}
use Rattle.std.specs.Prelude.{Option, None, Some}
use Prim.Native.Nat.{ℕ, zero, suc, ◌+◌, ◌-◌, ◌^◌, ◌≤◌, ◌<◌}
use native.Mathlib.Nat.{le_refl, div-add-mod'}
use native.Mathlib.Decide.{dec_lt}
use native.Mathlib.Omega.{arith}
use lib.Dec.{ltb, leb, eqb}
use lib.ListN.{length}
use borrow.Author.Tests.{leb-true, ltb-true, ltb-false, eqb-true, eqb-false, ne_eqb}
use Rattle.rules.specs.Sample.{UnitSize, sample_of}
use Rattle.rules.specs.Node.{Node}
use Rattle.rules.specs.Search.{changed, start_back}
use Rattle.rules.specs.Walk.{Walked, all_levels}
use Rattle.rules.specs.Stretches.{Stretch, covers, pairs_in, stretch_at}
use Rattle.rules.specs.Unknown.{has_line, certain, possible, certain_at, possible_at, search_at, unknown_search, unknown_refusal, Asked, Nearest, list_wrong}
use Rattle.rules.specs.Answer.{given, unless}
use Rattle.rules.proofs.Found.{TrueNodes}
use Rattle.rules.proofs.Steps.{next_searched, previous_searched}
use Rattle.rules.proofs.Block.{both}
use Rattle.rules.proofs.Stretches.{among_yes}
use Rattle.rules.proofs.Listed.{Lies, each_lies, each_rises, HeldBy, covered_by, holds_covers}
use Rattle.rules.proofs.Nearest.{Holds, asked_least, asked_most, nearest_as, search_nearest, is_search}
use Rattle.rules.proofs.Unknown.{list_passes, none_unknown, itself, line_there}
use Rattle.node.specs.Memory.{reader_of, Right}
use Rattle.node.proofs.NodeMemory.{right_true}
use Rattle.capture.specs.declared.Capture.{Capture}
use Rattle.capture.specs.Record.{store_of, lent_of}
use Rattle.unknown.specs.Crossing.{walked, nth_number, stretch_count, nth_stretch, certain_in}
use Rattle.unknown.specs.Meeting.{entry, met, from_entry, possible_across, possible_in}
use Rattle.unknown.specs.Answer.{certain_of, possible_of}
use Rattle.capture.specs.Backed.{Backed}
use Rattle.unknown.proofs.Crossing.{nth_inside}
use Rattle.unknown.proofs.Passing.{let_through}
use Rattle.unknown.proofs.Certain.{end_of, Touch, Touched, Left, Before, crossed_nearest}
use Rattle.unknown.proofs.Possible.{Entry, met_nearest, besides_nearest}

-- ---- the first place that is asked, or none is
abbrev Enters : Bool → ℕ → ℕ → Option ℕ → Type 0
Enters back len from None = (j : ℕ) → Asked back len from j → ⊥
Enters back len from (Some p) = Entry back len from p

entry_enters : (back : Bool) (len from : ℕ) → Enters back len from (entry back len from)
entry_enters true len from = go (eqb (start_back len from) 0) refl
  where
    go : (b : Bool) → eqb (start_back len from) 0 ≡ b → Enters true len from (cond b None (Some (start_back len from)))
    go true e = λ j a. omega (arith, eqb-true (start_back len from) 0 e, a.0, a.1, a.2)
    go false e =
        let z = eqb-false (start_back len from) 0 e in
        record { asked = (omega (arith, z), omega arith, omega (arith, z)); first = λ j a x. omega (arith, x, a.1, a.2) }
entry_enters false len from = go (ltb (from + 1) len) refl
  where
    go : (b : Bool) → ltb (from + 1) len ≡ b → Enters false len from (cond b (Some (from + 1)) None)
    go true e = record { asked = (omega arith, ltb-true (from + 1) len e); first = λ j a x. omega (arith, x, a.0) }
    go false e = λ j a. omega (arith, ltb-false (from + 1) len e, a.0, a.1)

-- ---- a list that passed row 18
module _ (len : ℕ) (list : List ℕ) (w : list_wrong len list ≡ false) (back : Bool) where
  abbrev n : ℕ
  n = stretch_count list

  abbrev stretch : ℕ → Stretch
  stretch = nth_stretch back list

  lies : (k : ℕ) → k < n → Lies 0 len (stretch k)
  lies k h = each_lies 0 len list (nth_number back n k) ((list_passes len list).0 w).in_order (nth_inside back list k h)

  rises : (j k : ℕ) → j < k → k < n → Before back (stretch j) (stretch k)
  rises j k l h = go back
    where
      go : (b : Bool) → Before b (nth_stretch b list j) (nth_stretch b list k)
      go true = each_rises 0 len list (n - (k + 1)) (n - (j + 1)) ((list_passes len list).0 w).in_order (omega (arith, l, h)) (nth_inside true list j (omega (arith, l, h)))
      go false = each_rises 0 len list j k ((list_passes len list).0 w).in_order l (nth_inside false list k h)

  -- a place has an unknown sample beside it
  abbrev beside : ℕ → Bool
  beside i = covers (pairs_in list) (i - 1) || covers (pairs_in list) i

  -- stretch j of the list is one on the way
  on_way : (i j : ℕ) → j < n → Touch (stretch_at list j) i → Touched stretch n i
  on_way i j h t = record { number = nth_number back n j; below = inside back; touch = subst (λ (x : ℕ). Touch (stretch_at list x) i) (again back) t }
    where
      inside : (b : Bool) → nth_number b n j < n
      inside true = omega (arith, h)
      inside false = h

      again : (b : Bool) → j ≡ nth_number b n (nth_number b n j)
      again true = omega (arith, h)
      again false = refl

  held_touched : (i x : ℕ) → x ≤ i → i ≤ x + 1 → HeldBy list x → Touched stretch n i
  held_touched i x a b h =
      on_way i h.number (omega (arith, h.there, div-add-mod' (length list) 2))
      (record { least = omega (arith, leb-true s.first x t.0, a); most = omega (arith, ltb-true x (end_of s) t.1, b) })
    where
      s : Stretch
      s = stretch_at list h.number

      t : (leb s.first x ≡ true) × (ltb x (end_of s) ≡ true)
      t = (both (leb s.first x) (ltb x (end_of s))).0 h.held

  beside_touched : (i : ℕ) → 1 ≤ i → beside i ≡ true → Touched stretch n i
  beside_touched i l e = go (covers (pairs_in list) (i - 1)) refl e
    where
      go : (b : Bool) → covers (pairs_in list) (i - 1) ≡ b → (b || covers (pairs_in list) i) ≡ true → Touched stretch n i
      go true q x = held_touched i (i - 1) (omega arith) (omega arith) (covered_by list (i - 1) q)
      go false q x = held_touched i i (omega arith) (omega arith) (covered_by list i x)

  touched_beside : (i : ℕ) → 1 ≤ i → Touched stretch n i → beside i ≡ true
  touched_beside i l t = go (dec_lt i (end_of s))
    where
      s : Stretch
      s = stretch t.number

      there : Lies 0 len s
      there = lies t.number t.below

      covered : (x : ℕ) → s.first ≤ x → x < end_of s → covers (pairs_in list) x ≡ true
      covered x a b = holds_covers list x (nth_number back n t.number) (nth_inside back list t.number t.below) (among_yes s.first s.count x a b)

      right : (a : Bool) → (a || true) ≡ true
      right true = refl
      right false = refl

      go : Dec (i < end_of s) → beside i ≡ true
      go (yes h) = ap (λ (b : Bool). covers (pairs_in list) (i - 1) || b) (covered i t.touch.least h) ∙ right (covers (pairs_in list) (i - 1))
      go (no h) = ap (λ (b : Bool). b || covers (pairs_in list) i) (covered (i - 1) (omega (arith, h, there.some_places)) (omega (arith, h, l, t.touch.most)))

  -- ---- over true nodes of a run whose samples are the unit's
  module _ (unit : ℕ) (r : UnitSize unit) (reader : ℕ → ℕ → Node) (s : ℕ → ℕ) (nodes : TrueNodes all_levels reader s len) (words : (j : ℕ) → j < len → s j < 256 ^ unit) (mask : ℕ) where
    walked_nearest : (hi : ℕ) → hi ≤ len → (from : ℕ) → Nearest back (Holds (changed s mask)) hi from (walked back reader mask hi from)
    walked_nearest hi h from = subst (Nearest back (Holds (changed s mask)) hi from) (sym (is back)) (search_nearest back (changed s mask) hi from)
      where
        part : TrueNodes all_levels reader s hi
        part = record { is = λ l p top has aligned room. nodes.is l p top has aligned (omega (arith, room, h)) }

        is : (b : Bool) → walked b reader mask hi from ≡ search_at b (changed s mask) hi from
        is true = ap (λ (x : Walked). x.found) (previous_searched reader s hi mask part from)
        is false = ap (λ (x : Walked). x.found) (next_searched reader s hi mask part from)

    pub certain_right : (from : ℕ) → certain_in back reader len list mask from ≡ search_at back (certain_at (covers (pairs_in list)) s mask) len from
    certain_right from =
        is_search back test len from (certain_in back reader len list mask from)
        (nearest_as back (Left (Holds (changed s mask)) stretch n) (Holds test) len from (λ i a x. to i (asked_least back len from i a) (beside i) refl x) (λ i a x. of i (asked_least back len from i a) (beside i) refl x) (certain_in back reader len list mask from)
        (crossed_nearest back (Holds (changed s mask)) len (walked back reader mask len) (walked_nearest len (le_refl len)) stretch n rises from n (le_refl n)))
      where
        test : ℕ → Bool
        test = certain_at (covers (pairs_in list)) s mask

        to : (i : ℕ) → 1 ≤ i → (b : Bool) → beside i ≡ b → Left (Holds (changed s mask)) stretch n i → (not b && changed s mask i) ≡ true
        to i l true q x = let t = beside_touched i l q in absurd (x.1 t.number t.below t.touch)
        to i l false q x = x.0

        of : (i : ℕ) → 1 ≤ i → (b : Bool) → beside i ≡ b → (not b && changed s mask i) ≡ true → Left (Holds (changed s mask)) stretch n i
        of i l true q x = absurd (false≢true x)
        of i l false q x = (x, λ j h t. false≢true (sym q ∙ touched_beside i l (record { number = j; below = h; touch = t })))

    across_right : (from : ℕ) → possible_across back unit reader len list mask from ≡ search_at back (possible_at unit (covers (pairs_in list)) s mask) len from
    unfolding Nearest
    across_right from = go (has_line unit mask) refl
      where
        -- a mask that has a line of the unit, or none
        test : Bool → ℕ → Bool
        test h i = cond (beside i) h (changed s mask i)

        to : (i : ℕ) → 1 ≤ i → (b : Bool) → beside i ≡ b → Holds (changed s mask) i ⊎ Touched stretch n i → cond b true (changed s mask i) ≡ true
        to i l true q x = refl
        to i l false q (inl x) = x
        to i l false q (inr x) = absurd (false≢true (sym q ∙ touched_beside i l x))

        of : (i : ℕ) → 1 ≤ i → (b : Bool) → beside i ≡ b → cond b true (changed s mask i) ≡ true → Holds (changed s mask) i ⊎ Touched stretch n i
        of i l true q x = inr (beside_touched i l q)
        of i l false q x = inl x

        searched_right : (a : Option ℕ) → Enters back len from a → Nearest back (λ i. Holds (changed s mask) i ⊎ Touched stretch n i) len from (from_entry back (walked back reader mask) len list from a)
        searched_right None e = λ j a x. e j a
        searched_right (Some p) e =
            besides_nearest back (Holds (changed s mask)) (Touched stretch n) len from p e (walked back reader mask) (met back p stretch n)
            (met_nearest back len from p e stretch n (λ k h. (lies k h).some_places) (λ k h. (lies k h).inside) rises n (le_refl n)) (λ hi h. walked_nearest hi h from)

        nobody : has_line unit mask ≡ false → (i : ℕ) → 1 ≤ i → i < len → (b : Bool) → beside i ≡ b → cond b false (changed s mask i) ≡ true → ⊥
        nobody e i l m true q x = false≢true x
        nobody e i l m false q x = false≢true (sym e ∙ line_there unit len r (λ j. false) s words mask i l m (itself unit len r (λ j. false) s words) x)

        go : (h : Bool) → has_line unit mask ≡ h → cond h (from_entry back (walked back reader mask) len list from (entry back len from)) None ≡ search_at back (test h) len from
        go true e =
            is_search back (test true) len from (from_entry back (walked back reader mask) len list from (entry back len from))
            (nearest_as back (λ i. Holds (changed s mask) i ⊎ Touched stretch n i) (Holds (test true)) len from (λ i a x. to i (asked_least back len from i a) (beside i) refl x) (λ i a x. of i (asked_least back len from i a) (beside i) refl x)
            (from_entry back (walked back reader mask) len list from (entry back len from)) (searched_right (entry back len from) (entry_enters back len from)))
        go false e = is_search back (test false) len from None (none_nearest (λ i a x. nobody e i (asked_least back len from i a) (asked_most back len from i a) (beside i) refl x))
          where
            none_nearest : ((i : ℕ) → Asked back len from i → Holds (test false) i → ⊥) → Nearest back (Holds (test false)) len from None
            none_nearest h = h

    pub possible_right : (from : ℕ) → possible_in back unit reader len list mask from ≡ search_at back (possible_at unit (covers (pairs_in list)) s mask) len from
    unfolding pairs_in
    possible_right from = go list refl
      where
        go : (l : List ℕ) → list ≡ l → cond (eqb (length l) 0) (walked back reader mask len from) (possible_across back unit reader len list mask from) ≡ search_at back (possible_at unit (covers (pairs_in list)) s mask) len from
        go [] e =
            is_search back (changed s mask) len from (walked back reader mask len from) (walked_nearest len (le_refl len) from)
            ∙ sym (none_unknown possible back unit s len mask from)
            ∙ ap (λ (x : List ℕ). search_at back (possible_at unit (covers (pairs_in x)) s mask) len from) (sym e)
        go (x ∷ l) e = ap (λ (b : Bool). cond b (walked back reader mask len from) (possible_across back unit reader len list mask from)) (ne_eqb (suc (length l)) 0 (λ z. omega (arith, z))) ∙ across_right from

-- ---- the calls
module _ (back : Bool) (c : Capture) (samples : List ℕ) (levels : ℕ → List ℕ) (list : List ℕ) (mask from : ℕ) where
  abbrev s : ℕ → ℕ
  s = sample_of c.unitsize samples

  -- where no row refuses
  module _ (right : Right s c.len levels) (words : (j : ℕ) → j < c.len → s j < 256 ^ c.unitsize) where
    through : {x y : Option ℕ} → (unknown_refusal (store_of c) (lent_of samples levels) list ≡ 0 → x ≡ y) → unless (unknown_refusal (store_of c) (lent_of samples levels) list) x ≡ unless (unknown_refusal (store_of c) (lent_of samples levels) list) y
    through {x} {y} h = go (unknown_refusal (store_of c) (lent_of samples levels) list) refl
      where
        go : (k : ℕ) → unknown_refusal (store_of c) (lent_of samples levels) list ≡ k → unless k x ≡ unless k y
        go zero e = ap given (h e)
        go (suc k) e = refl

    passed : unknown_refusal (store_of c) (lent_of samples levels) list ≡ 0 → Backed c.unitsize c.len samples levels × (list_wrong c.len list ≡ false)
    passed e = let_through c samples levels list e

    nodes : TrueNodes all_levels (reader_of c.unitsize samples levels) s c.len
    nodes = right_true c.unitsize samples levels c.len right

    -- an answer is the refusal of a row, or 02's
    pub certain_is : certain_of back c samples levels list mask from ≡ unless (unknown_refusal (store_of c) (lent_of samples levels) list) (unknown_search certain back c.unitsize s c.len (pairs_in list) mask from)
    unfolding certain_of
    certain_is = through (λ e. certain_right c.len list (passed e).1 back c.unitsize (passed e).0.bytes.unit_size (reader_of c.unitsize samples levels) s nodes words mask from)

    pub possible_is : possible_of back c samples levels list mask from ≡ unless (unknown_refusal (store_of c) (lent_of samples levels) list) (unknown_search possible back c.unitsize s c.len (pairs_in list) mask from)
    unfolding possible_of
    possible_is = through (λ e. possible_right c.len list (passed e).1 back c.unitsize (passed e).0.bytes.unit_size (reader_of c.unitsize samples levels) s nodes words mask from)
