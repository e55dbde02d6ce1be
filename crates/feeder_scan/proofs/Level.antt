-- A sample without the levels that are asked for does not fire, whatever came before it.
use Prim.Native.Nat.{ℕ, zero, suc, ◌+◌, ◌<◌}
use mathlib.Core.Path.{◌≡◌, refl, sym, ap, ◌∙◌, subst}
use mathlib.Core.Bool.{Bool, true, false, cond, ◌&&◌}
use Rattle.std.specs.Prelude.{Option, None, Some}
use native.Mathlib.Nat.{zero-add}
use native.Mathlib.Numerals.{add-one}
use native.Mathlib.Omega.{arith}
use lib.Bits.{bit_and, bit_or, bit_xor}
use lib.Dec.{eqb}
use lib.ListN.{length}
use borrow.Author.Tests.{eqb-false, ne_eqb}
use Rattle.rules.specs.Sample.{list_from}
use Rattle.rules.specs.Trigger as rule
use Rattle.rules.proofs.Bits.{or_zero_left}
use Rattle.rules.proofs.Sample.{list_length, list_append}
use Rattle.rules.proofs.Trigger.{fire_later}
use Rattle.terms.specs.declared.Masks.{Masks}
use Rattle.terms.specs.Terms.{as_masks}
use Rattle.feeder_scan.specs.declared.Wanted.{Wanted}
use Rattle.feeder_scan.specs.Scan.{wanted_of, level_met, NoneFires}
use Rattle.feeder_scan.proofs.Lines.{met_is, matches_same}

-- none of the first n samples has the levels
abbrev pub Missed : Wanted → (ℕ → ℕ) → ℕ → Type 0
Missed w s n = (j : ℕ) → j < n → level_met w (s j) ≡ false

and-false : (b : Bool) → (b && false) ≡ false
and-false true = refl
and-false false = refl

module _ (m : Masks) where
  misses : (p v : ℕ) → level_met (wanted_of m) v ≡ false → rule.matches (as_masks m) p v ≡ false
  misses p v h = sym (matches_same m p v) ∙ sym (met_is (wanted_of m) p v) ∙ ne_eqb (bit_or levels edge) 0 (λ e. eqb-false levels 0 h (or_zero_left levels edge e))
    where
      levels : ℕ
      levels = bit_xor (bit_and v (bit_xor (wanted_of m).high (wanted_of m).low)) (wanted_of m).high

      edge : ℕ
      edge = bit_xor (bit_and (bit_xor p v) (wanted_of m).edge) (wanted_of m).edge

  no_fire : (q : Option ℕ) (v : ℕ) → level_met (wanted_of m) v ≡ false → rule.fires (as_masks m) q v ≡ false
  unfolding rule.fires
  no_fire None v h = ap (λ (b : Bool). eqb (bit_or (bit_or m.rising m.falling) m.edge) 0 && b) (misses v v h) ∙ and-false (eqb (bit_or (bit_or m.rising m.falling) m.edge) 0)
  no_fire (Some p) v h = misses p v h

  module _ (s : ℕ → ℕ) where
    none_more : (i : ℕ) → level_met (wanted_of m) (s i) ≡ false → NoneFires (as_masks m) (list_from s 0 i) → NoneFires (as_masks m) (list_from s 0 (i + 1))
    unfolding rule.first_fire list_from
    none_more i h so q =
        ap (rule.first_fire (as_masks m) q) (list_append s 0 i 1)
        ∙ fire_later (as_masks m) q (list_from s 0 i) (list_from s (0 + i) 1) (so q)
        ∙ ap (λ (b : Bool). length (list_from s 0 i) + cond {A = ℕ} b 0 1) (no_fire (rule.last_of q (list_from s 0 i)) (s (0 + i)) (ap (λ (x : ℕ). level_met (wanted_of m) (s x)) (zero-add i) ∙ h))
        ∙ ap (λ (x : ℕ). x + 1) (list_length s 0 i)
        ∙ sym (list_length s 0 (i + 1))

    pub none_fires : (n : ℕ) → Missed (wanted_of m) s n → NoneFires (as_masks m) (list_from s 0 n)
    unfolding rule.first_fire list_from
    none_fires zero f = λ q. refl
    none_fires (suc n) f = subst (λ (k : ℕ). NoneFires (as_masks m) (list_from s 0 k)) (add-one n) (none_more n (f n (omega arith)) (none_fires n (λ j l. f j (omega arith))))
