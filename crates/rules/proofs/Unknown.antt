-- Certain and possible changes, by fillings: they can be computed, and what searches for them say. 02: CR 9.
use mathlib.Core.Path.{◌≡◌, refl, sym, ap, ap₂, ◌∙◌, subst, subst⁻¹}
use mathlib.Core.Bool.{Bool, true, false, cond, not, ◌&&◌, ◌||◌, false≢true}
use mathlib.Core.List.{List, []}
use mathlib.Core.Logic.{◌↔◌, ◌⊎◌, inl, inr}
use Prim.Native.Nat.{ℕ, zero, suc, ◌-◌, ◌*◌, ◌%◌, ◌^◌, ◌≤◌, ◌<◌}
use native.Mathlib.Nat.{mod-eq_of_lt, mod-lt, div-add-mod', zero-lt-suc}
use native.Mathlib.Decide.{ℕ_discrete}
use native.Mathlib.Omega.{arith}
use lib.Bits.{bit_and, bit_xor, differ, xor_self, xor_comm, xor_zero_r, and_comm, and_zero_l, and_zero_r, and_mask, mask_lt, xor_lt}
use lib.Dec.{eqb}
use lib.ListN.{length}
use borrow.Author.Tests.{eqb-true, eqb-false, eq-eqb, ne_eqb}
use Rattle.rules.specs.Sample.{UnitSize, line, Within, cut_to}
use Rattle.rules.specs.Node.{changes}
use Rattle.rules.specs.Search.{changed}
use Rattle.rules.specs.Stretches.{Stretch, covers, apart, pairs_of, pairs_in}
use Rattle.rules.specs.Unknown.{Filling, Certain, Possible, certain_at, has_line, possible_at, Sureness, certain, possible, test_at, search_at, unknown_search, Change, Asked, Nearest, list_wrong}
use Rattle.rules.proofs.Sample.{unit_cases}
use Rattle.rules.proofs.Bits.{lines_ext, line_xor, line_and, line_lt, and_assoc, and_xor}
use Rattle.rules.proofs.Stretches.{pairs_length, pairs_back}
use Rattle.rules.proofs.Nearest.{asked_least, asked_most, Holds, nearest_as, search_nearest, search_same}

-- a change is told by two samples
changed_same : (s t : ℕ → ℕ) (mask i : ℕ) → s i ≡ t i → s (i - 1) ≡ t (i - 1) → changed s mask i ≡ changed t mask i
changed_same s t mask i e f = ap₂ (λ (x y : ℕ). not (eqb (bit_and (bit_xor x y) mask) 0)) e f

none_changed : (t : ℕ → ℕ) (mask i : ℕ) → t i ≡ t (i - 1) → changed t mask i ≡ false
none_changed t mask i e = ap (λ (x : ℕ). not (eqb (bit_and (bit_xor x (t (i - 1))) mask) 0)) e ∙ ap (λ (x : ℕ). not (eqb (bit_and x mask) 0)) (xor_self (t (i - 1))) ∙ ap (λ (x : ℕ). not (eqb x 0)) (and_zero_l mask)

-- ---- a line of the mask that the unit has
differ_back : (x y : ℕ) → x < 2 → y < 2 → differ (differ x y) x ≡ y
differ_back zero zero h l = refl
differ_back zero (suc zero) h l = refl
differ_back (suc zero) zero h l = refl
differ_back (suc zero) (suc zero) h l = refl
differ_back (suc (suc x)) y h l = absurd (omega arith)
differ_back zero (suc (suc y)) h l = absurd (omega arith)
differ_back (suc zero) (suc (suc y)) h l = absurd (omega arith)

xor_back : (b m : ℕ) → bit_xor (bit_xor b m) b ≡ m
xor_back b m = lines_ext _ _ (λ k. simp line_xor (differ_back (line b k) (line m k) (line_lt b k) (line_lt m k)))

xor_front : (b m : ℕ) → bit_xor b (bit_xor b m) ≡ m
xor_front b m = xor_comm b (bit_xor b m) ∙ xor_back b m

bits : {unit : ℕ} → UnitSize unit → 256 ^ unit ≡ 2 ^ (8 * unit)
bits {unit} r = go (unit_cases r)
  where
    go : (unit ≡ 1) ⊎ (unit ≡ 2) → 256 ^ unit ≡ 2 ^ (8 * unit)
    go (inl e) = ap (λ (u : ℕ). 256 ^ u) e ∙ ap (λ (u : ℕ). 2 ^ (8 * u)) (sym e)
    go (inr e) = ap (λ (u : ℕ). 256 ^ u) e ∙ ap (λ (u : ℕ). 2 ^ (8 * u)) (sym e)

module _ (unit len : ℕ) (r : UnitSize unit) (unknown : ℕ → Bool) (s : ℕ → ℕ) (words : (j : ℕ) → j < len → s j < 256 ^ unit) where
  -- the stored samples are one filling, and so is any value of the unit in all unknown places
  pub itself : Filling unit len unknown s s
  itself = record { known = λ i l e. refl; small = λ i l e. words i l }

  filled : ℕ → ℕ → ℕ
  filled w j = cond (unknown j) w (s j)

  filled_known : (w j : ℕ) → unknown j ≡ false → filled w j ≡ s j
  unfolding filled
  filled_known w j e = ap (λ (b : Bool). cond b w (s j)) e

  filled_unknown : (w j : ℕ) → unknown j ≡ true → filled w j ≡ w
  unfolding filled
  filled_unknown w j e = ap (λ (b : Bool). cond b w (s j)) e

  filling : (w : ℕ) → w < 256 ^ unit → Filling unit len unknown s (filled w)
  filling w h = record { known = λ i l e. filled_known w i e; small = λ i l e. subst⁻¹ (λ (x : ℕ). x < 256 ^ unit) (filled_unknown w i e) h }

  module _ (mask i : ℕ) (least : 1 ≤ i) (most : i < len) where
    before : i - 1 < len
    before = omega (arith, most)

    -- a place with an unknown sample beside it is changed in not every filling
    equal_there : (a b : Bool) → unknown (i - 1) ≡ a → unknown i ≡ b → (a || b) ≡ true → (t : ℕ → ℕ) × Filling unit len unknown s t × (t i ≡ t (i - 1))
    equal_there true true e f g = (filled (s i), filling (s i) (words i most), filled_unknown (s i) i f ∙ sym (filled_unknown (s i) (i - 1) e))
    equal_there true false e f g = (filled (s i), filling (s i) (words i most), filled_known (s i) i f ∙ sym (filled_unknown (s i) (i - 1) e))
    equal_there false true e f g = (filled (s (i - 1)), filling (s (i - 1)) (words (i - 1) before), filled_unknown (s (i - 1)) i f ∙ sym (filled_known (s (i - 1)) (i - 1) e))
    equal_there false false e f g = absurd (false≢true g)

    -- Statement 1: "there for every filling" exactly when both samples are known and change.
    pub certain_is : (certain_at unknown s mask i ≡ true) ↔ Certain unit len unknown s mask i
    certain_is = (there (unknown (i - 1)) (unknown i) refl refl, back (unknown (i - 1)) (unknown i) refl refl)
      where
        there : (a b : Bool) → unknown (i - 1) ≡ a → unknown i ≡ b → (not (a || b) && changed s mask i) ≡ true → Certain unit len unknown s mask i
        there false false e f g t h = changed_same t s mask i (h.known i most f) (h.known (i - 1) before e) ∙ g
        there true b e f g t h = absurd (false≢true g)
        there false true e f g t h = absurd (false≢true g)

        back : (a b : Bool) → unknown (i - 1) ≡ a → unknown i ≡ b → Certain unit len unknown s mask i → (not (a || b) && changed s mask i) ≡ true
        back false false e f c = c s itself
        back true b e f c = let t = equal_there true b e f refl in absurd (false≢true (sym (none_changed t.0 mask i t.2) ∙ c t.0 t.1))
        back false true e f c = let t = equal_there false true e f refl in absurd (false≢true (sym (none_changed t.0 mask i t.2) ∙ c t.0 t.1))

    abbrev top : ℕ
    top = 256 ^ unit - 1

    abbrev inner : ℕ
    inner = bit_and mask top

    inner_small : inner < 256 ^ unit
    inner_small = subst⁻¹ (λ (k : ℕ). bit_and mask (k - 1) < k) (bits r) (mask_lt mask (8 * unit))

    -- two samples that differ in these lines change under the mask
    inner_changes : (t : ℕ → ℕ) → changes t i ≡ inner → has_line unit mask ≡ true → changed t mask i ≡ true
    inner_changes t e h = ap (λ (x : ℕ). not (eqb (bit_and x mask) 0)) e ∙ ap (λ (x : ℕ). not (eqb x 0)) same ∙ h
      where
        same : bit_and (bit_and mask (256 ^ unit - 1)) mask ≡ bit_and mask (256 ^ unit - 1)
        same = lines_ext _ _ (λ k. simp line_and (omega arith))

    -- one value at i, another at the other unknown places
    two : ℕ → ℕ → ℕ → ℕ
    two p q j = cond (unknown j) (cond (eqb j i) p q) (s j)

    two_known : (p q j : ℕ) → unknown j ≡ false → two p q j ≡ s j
    unfolding two
    two_known p q j e = ap (λ (b : Bool). cond b (cond (eqb j i) p q) (s j)) e

    two_here : (p q : ℕ) → unknown i ≡ true → two p q i ≡ p
    unfolding two
    two_here p q e = ap₂ (λ (a b : Bool). cond a (cond b p q) (s i)) e (eq-eqb i i refl)

    two_other : (p q j : ℕ) → unknown j ≡ true → (j ≡ i → ⊥) → two p q j ≡ q
    unfolding two
    two_other p q j e n = ap₂ (λ (a b : Bool). cond a (cond b p q) (s j)) e (ne_eqb j i n)

    two_filling : (p q : ℕ) → p < 256 ^ unit → q < 256 ^ unit → Filling unit len unknown s (two p q)
    two_filling p q hp hq = record { known = λ j l e. two_known p q j e; small = λ j l e. go j e (ℕ_discrete j i) }
      where
        go : (j : ℕ) → unknown j ≡ true → Dec (j ≡ i) → two p q j < 256 ^ unit
        go j e (yes q') = subst⁻¹ (λ (x : ℕ). x < 256 ^ unit) (ap (two p q) q' ∙ two_here p q (ap unknown (sym q') ∙ e)) hp
        go j e (no n) = subst⁻¹ (λ (x : ℕ). x < 256 ^ unit) (two_other p q j e n) hq

    xor_small : (x : ℕ) → x < 256 ^ unit → bit_xor x inner < 256 ^ unit
    xor_small x h = subst⁻¹ (λ (k : ℕ). bit_xor x inner < k) (bits r) (xor_lt (8 * unit) x inner (subst (λ (k : ℕ). x < k) (bits r) h) (subst (λ (k : ℕ). inner < k) (bits r) inner_small))

    none : 0 < 256 ^ unit
    none = omega (arith, words i most)

    apart_there : (a b : Bool) → unknown (i - 1) ≡ a → unknown i ≡ b → (a || b) ≡ true → (t : ℕ → ℕ) × Filling unit len unknown s t × (changes t i ≡ inner)
    apart_there true true e f g = (
      two inner 0,
      two_filling inner 0 inner_small none,
      ap₂ bit_xor (two_here inner 0 f) (two_other inner 0 (i - 1) e (λ q. omega (arith, q, least))) ∙ xor_zero_r inner,
    )
    apart_there false true e f g = (
      two (bit_xor (s (i - 1)) inner) 0,
      two_filling (bit_xor (s (i - 1)) inner) 0 (xor_small (s (i - 1)) (words (i - 1) before)) none,
      ap₂ bit_xor (two_here (bit_xor (s (i - 1)) inner) 0 f) (two_known (bit_xor (s (i - 1)) inner) 0 (i - 1) e) ∙ xor_back (s (i - 1)) inner,
    )
    apart_there true false e f g = (
      two 0 (bit_xor (s i) inner),
      two_filling 0 (bit_xor (s i) inner) none (xor_small (s i) (words i most)),
      ap₂ bit_xor (two_known 0 (bit_xor (s i) inner) i f) (two_other 0 (bit_xor (s i) inner) (i - 1) e (λ q. omega (arith, q, least))) ∙ xor_front (s i) inner,
    )
    apart_there false false e f g = absurd (false≢true g)

    -- a sample of a filling is one of the unit
    small_in : {t : ℕ → ℕ} → Filling unit len unknown s t → (j : ℕ) → j < len → t j < 256 ^ unit
    small_in {t} h j l = go (unknown j) refl
      where
        go : (b : Bool) → unknown j ≡ b → t j < 256 ^ unit
        go true e = h.small j l e
        go false e = subst⁻¹ (λ (x : ℕ). x < 256 ^ unit) (h.known j l e) (words j l)

    -- a change of any filling is in a line that the unit has
    pub line_there : {t : ℕ → ℕ} → Filling unit len unknown s t → changed t mask i ≡ true → has_line unit mask ≡ true
    line_there {t} h c = go (eqb inner 0) refl
      where
        x : ℕ
        x = bit_xor (t i) (t (i - 1))

        x_small : x < 2 ^ (8 * unit)
        x_small = xor_lt (8 * unit) (t i) (t (i - 1)) (subst (λ (k : ℕ). t i < k) (bits r) (small_in h i most)) (subst (λ (k : ℕ). t (i - 1) < k) (bits r) (small_in h (i - 1) before))

        cut : bit_and x (256 ^ unit - 1) ≡ x
        cut = ap (λ (k : ℕ). bit_and x (k - 1)) (bits r) ∙ and_mask x (8 * unit) ∙ mod-eq_of_lt x_small

        go : (b : Bool) → eqb inner 0 ≡ b → not b ≡ true
        go true e = absurd (false≢true (sym (ap (λ (y : ℕ). not (eqb y 0)) gone) ∙ c))
          where
            gone : bit_and x mask ≡ 0
            gone = ap (λ (y : ℕ). bit_and y mask) (sym cut) ∙ and_assoc x (256 ^ unit - 1) mask ∙ ap (bit_and x) (and_comm (256 ^ unit - 1) mask ∙ eqb-true inner 0 e) ∙ and_zero_r x
        go false e = refl

    -- and "there for some filling" exactly when they are known and change, or one is not and the mask has a line of the unit
    pub possible_is : (possible_at unit unknown s mask i ≡ true) ↔ Possible unit len unknown s mask i
    possible_is = (there (unknown (i - 1)) (unknown i) refl refl, back (unknown (i - 1)) (unknown i) refl refl)
      where
        there : (a b : Bool) → unknown (i - 1) ≡ a → unknown i ≡ b → cond (a || b) (has_line unit mask) (changed s mask i) ≡ true → Possible unit len unknown s mask i
        there false false e f g = (s, itself, g)
        there true b e f g = let t = apart_there true b e f refl in (t.0, t.1, inner_changes t.0 t.2 g)
        there false true e f g = let t = apart_there false true e f refl in (t.0, t.1, inner_changes t.0 t.2 g)

        back : (a b : Bool) → unknown (i - 1) ≡ a → unknown i ≡ b → Possible unit len unknown s mask i → cond (a || b) (has_line unit mask) (changed s mask i) ≡ true
        back false false e f (t, h, c) = sym (changed_same t s mask i (h.known i most f) (h.known (i - 1) before e)) ∙ c
        back true b e f (t, h, c) = line_there h c
        back false true e f (t, h, c) = line_there h c

  -- Statement 2: the answer is the first place on its way that is changed in every filling, or in some; none exactly when there is none.
  pub unknown_is : (sure : Sureness) (back : Bool) (mask from : ℕ) → Nearest back (Change sure unit len unknown s mask) len from (search_at back (test_at sure unit unknown s mask) len from)
  unknown_is sure back mask from =
      nearest_as back (Holds (test_at sure unit unknown s mask)) (Change sure unit len unknown s mask) len from (λ i a. (means sure i a).0) (λ i a. (means sure i a).1)
      (search_at back (test_at sure unit unknown s mask) len from) (search_nearest back (test_at sure unit unknown s mask) len from)
    where
      means : (w : Sureness) (i : ℕ) → Asked back len from i → (test_at w unit unknown s mask i ≡ true) ↔ Change w unit len unknown s mask i
      means certain i a = certain_is mask i (asked_least back len from i a) (asked_most back len from i a)
      means possible i a = possible_is mask i (asked_least back len from i a) (asked_most back len from i a)

-- ---- what a search depends on
-- "Without stretches both equal the ordinary search."
pub none_unknown : (sure : Sureness) (back : Bool) (unit : ℕ) (s : ℕ → ℕ) (len mask from : ℕ) → unknown_search sure back unit s len [] mask from ≡ search_at back (changed s mask) len from
unfolding covers
none_unknown certain back unit s len mask from = refl
none_unknown possible back unit s len mask from = refl

-- two runs that change alike under the mask wherever both samples are known
module _ (sure : Sureness) (back : Bool) (unit : ℕ) (unknown : ℕ → Bool) (s t : ℕ → ℕ) (len mask from : ℕ) where
  pub changes_alike : ((i : ℕ) → 1 ≤ i → i < len → unknown (i - 1) ≡ false → unknown i ≡ false → changed s mask i ≡ changed t mask i)
      → search_at back (test_at sure unit unknown s mask) len from ≡ search_at back (test_at sure unit unknown t mask) len from
  changes_alike h = search_same back (test_at sure unit unknown s mask) (test_at sure unit unknown t mask) len from (λ i l m. go sure i l m (unknown (i - 1)) (unknown i) refl refl)
    where
      go : (w : Sureness) (i : ℕ) → 1 ≤ i → i < len → (a b : Bool) → unknown (i - 1) ≡ a → unknown i ≡ b → test_at w unit unknown s mask i ≡ test_at w unit unknown t mask i
      go certain i l m true b e f = ap (λ (x : Bool). not (x || unknown i) && changed s mask i) e ∙ sym (ap (λ (x : Bool). not (x || unknown i) && changed t mask i) e)
      go certain i l m false true e f =
          ap₂ (λ (x y : Bool). not (x || y) && changed s mask i) e f ∙ sym (ap₂ (λ (x y : Bool). not (x || y) && changed t mask i) e f)
      go certain i l m false false e f = ap (λ (x : Bool). not (unknown (i - 1) || unknown i) && x) (h i l m e f)
      go possible i l m true b e f = ap (λ (x : Bool). cond (x || unknown i) (has_line unit mask) (changed s mask i)) e ∙ sym (ap (λ (x : Bool). cond (x || unknown i) (has_line unit mask) (changed t mask i)) e)
      go possible i l m false true e f =
          ap₂ (λ (x y : Bool). cond (x || y) (has_line unit mask) (changed s mask i)) e f ∙ sym (ap₂ (λ (x y : Bool). cond (x || y) (has_line unit mask) (changed t mask i)) e f)
      go possible i l m false false e f = ap (λ (x : Bool). cond (unknown (i - 1) || unknown i) (has_line unit mask) x) (h i l m e f)

  -- what is stored in unknown places never matters
  pub insides_alike : ((i : ℕ) → i < len → unknown i ≡ false → s i ≡ t i) → search_at back (test_at sure unit unknown s mask) len from ≡ search_at back (test_at sure unit unknown t mask) len from
  insides_alike h = changes_alike (λ i l m e f. changed_same s t mask i (h i m f) (h (i - 1) (omega arith) e))

  -- nor do lines beyond a viewer's, of a mask within them
  pub lines_alike : (v : ℕ) → Within mask v → ((i : ℕ) → i < len → cut_to v (s i) ≡ cut_to v (t i)) → search_at back (test_at sure unit unknown s mask) len from ≡ search_at back (test_at sure unit unknown t mask) len from
  lines_alike v w h = changes_alike (λ i l m e f. chosen i (h i m) (h (i - 1) (omega arith)))
    where
      -- under the mask a sample is what the viewer sees of it
      seen : (x y : ℕ) → cut_to v x ≡ cut_to v y → bit_and x mask ≡ bit_and y mask
      seen x y e = within x ∙ ap (λ (z : ℕ). bit_and z mask) e ∙ sym (within y)
        where
          within : (z : ℕ) → bit_and z mask ≡ bit_and (bit_and z v) mask
          within z = ap (bit_and z) (sym w ∙ and_comm mask v) ∙ sym (and_assoc z v mask)

      chosen : (i : ℕ) → cut_to v (s i) ≡ cut_to v (t i) → cut_to v (s (i - 1)) ≡ cut_to v (t (i - 1)) → changed s mask i ≡ changed t mask i
      chosen i e f = ap (λ (x : ℕ). not (eqb x 0)) (and_xor (s i) (s (i - 1)) mask ∙ ap₂ bit_xor (seen (s i) (t i) e) (seen (s (i - 1)) (t (i - 1)) f) ∙ sym (and_xor (t i) (t (i - 1)) mask))

-- ---- row 18
-- a list that passes: whole pairs, in order
pub record Passes (len : ℕ) (list : List ℕ) : Type 0 where
  pub even : length list % 2 ≡ 0
  pub in_order : apart 0 len (pairs_in list) ≡ true

pub list_passes : (len : ℕ) (list : List ℕ) → (list_wrong len list ≡ false) ↔ Passes len list
list_passes len list = (there (eqb (length list % 2) 1) (apart 0 len (pairs_in list)) refl refl, back)
  where
    there : (a b : Bool) → eqb (length list % 2) 1 ≡ a → apart 0 len (pairs_in list) ≡ b → (a || not b) ≡ false → Passes len list
    there true b e f h = absurd (false≢true (sym h))
    there false true e f h = record { even = omega (arith, eqb-false (length list % 2) 1 e, mod-lt (length list) (zero-lt-suc 1)); in_order = f }
    there false false e f h = absurd (false≢true (sym h))

    back : Passes len list → list_wrong len list ≡ false
    back p = ap₂ (λ (a b : Bool). a || not b) (ne_eqb (length list % 2) 1 (λ e. omega (arith, e, p.even))) p.in_order

-- the numbers of stretches that are in order pass
pub told_passes : (len : ℕ) (ss : List Stretch) → apart 0 len ss ≡ true → list_wrong len (pairs_of ss) ≡ false
told_passes len ss h = (list_passes len (pairs_of ss)).1 (record { even = ap (λ (n : ℕ). n % 2) (pairs_length ss) ∙ twice (length ss); in_order = ap (apart 0 len) (pairs_back ss) ∙ h })
  where
    twice : (n : ℕ) → 2 * n % 2 ≡ 0
    twice n = omega (arith, div-add-mod' (2 * n) 2, mod-lt (2 * n) (zero-lt-suc 1))
