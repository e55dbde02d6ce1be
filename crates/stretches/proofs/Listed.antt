-- Row 18 by a loop: the stretches up to number i lie in order, and the others decide. 02: CR 9.
use mathlib.Core.Path.{◌≡◌, refl, sym, ap, ◌∙◌}
use mathlib.Core.Bool.{Bool, true, false, not, ◌&&◌, ◌||◌}
use mathlib.Core.List.{List}
use Prim.Native.Nat.{ℕ, ◌+◌, ◌*◌, ◌%◌, ◌≤◌, ◌<◌}
use native.Mathlib.Nat.{div-add-mod'}
use native.Mathlib.Omega.{arith}
use Rattle.std.proofs.lemmas.Bool.Decides.{nat_tests}
use lib.Dec.{ltb, leb, eqb}
use lib.ListN.{length, drop, drop_of_length-le}
use Rattle.rules.specs.Stretches.{Stretch, apart, pairs_in, stretch_at}
use Rattle.rules.specs.Unknown.{list_wrong}
use Rattle.rules.proofs.Stretches.{pairs_next}
use Rattle.rules.proofs.Unknown.{list_passes}
use Rattle.rules.proofs.Listed.{Lies, each_lies}
use Rattle.stretches.specs.Listed.{outside}

-- one that does not lie outside ends at len at the latest
within : (p len first count : ℕ) → outside p len first count ≡ false → first + count ≤ len
within p len first count e = grind (arith, nat_tests)

-- ---- the loop
pub record Going (len : ℕ) (list : List ℕ) (p i : ℕ) : Type 0 where
  pub most : 2 * i ≤ length list
  pub small : p ≤ len + 1
  pub same : apart p len (pairs_in (drop (2 * i) list)) ≡ apart 0 len (pairs_in list)

module _ (len : ℕ) (list : List ℕ) where
  pub going_starts : Going len list 0 0
  going_starts = record { most = omega arith; small = omega arith; same = refl }

  module _ {p i : ℕ} (g : Going len list p i) (there : 2 * i + 1 < length list) where
    abbrev this : Stretch
    this = stretch_at list i

    abbrev rest : List Stretch
    rest = pairs_in (drop (2 * (i + 1)) list)

    -- the whole list, by this stretch and the others
    split : (not (outside p len this.first this.count) && apart (this.first + this.count + 1) len rest) ≡ apart 0 len (pairs_in list)
    unfolding apart
    split = by (leb p this.first) (ltb 0 this.count) (leb (this.first + this.count) len) (apart (this.first + this.count + 1) len rest) ∙ ap (apart p len) (sym (pairs_next list i there)) ∙ g.same
      where
        by : (a b c d : Bool) → (not (not (a && (b && c))) && d) ≡ (a && (b && (c && d)))
        by true true true d = refl
        by true true false d = refl
        by true false c d = refl
        by false b c d = refl

    odd : {b : Bool} → b ≡ apart 0 len (pairs_in list) → b ≡ false → true ≡ list_wrong len list
    odd e z = sym (ap (λ (x : Bool). eqb (length list % 2) 1 || not x) (sym e ∙ z) ∙ either (eqb (length list % 2) 1))
      where
        either : (x : Bool) → (x || true) ≡ true
        either true = refl
        either false = refl

    pub going_stops : outside p len this.first this.count ≡ true → true ≡ list_wrong len list
    going_stops e = odd split (ap (λ (x : Bool). not x && apart (this.first + this.count + 1) len rest) e)

    pub going_on : outside p len this.first this.count ≡ false → Going len list (this.first + this.count + 1) (i + 1)
    going_on e = record {
      most = omega (arith, there);
      small = omega (arith, within p len this.first this.count e);
      same = sym (ap (λ (x : Bool). not x && apart (this.first + this.count + 1) len rest) e) ∙ split;
    }

  pub going_ends : {p i : ℕ} → Going len list p i → length list ≤ 2 * i + 1 → (length list % 2 ≡ 1 → ⊥) → false ≡ list_wrong len list
  unfolding apart pairs_in
  going_ends {p} {i} g h even = sym ((list_passes len list).1 (record { even = two; in_order = sym g.same ∙ ap (λ (l : List ℕ). apart p len (pairs_in l)) (drop_of_length-le list {i = 2 * i} (omega (arith, h, g.most, two, div-add-mod' (length list) 2))) }))
    where
      two : length list % 2 ≡ 0
      two = omega (arith, even, div-add-mod' (length list) 2)

-- ---- a stretch of a list that passed
pub passed_lies : (len : ℕ) (list : List ℕ) (j : ℕ) → list_wrong len list ≡ false → 2 * j + 1 < length list → Lies 0 len (stretch_at list j)
passed_lies len list j e h = each_lies 0 len list j ((list_passes len list).0 e).in_order h
