-- Laws of a scan: what a mask asks, a step by its four bits, and steps added up.
use Prim.Native.Nat.{ℕ, suc, ◌+◌, ◌-◌, ◌*◌, ◌/◌, ◌%◌, ◌^◌, ◌≤◌, ◌<◌}
use mathlib.Core.Path.{◌≡◌, refl, sym, ap, ap₂, ◌∙◌, subst}
use mathlib.Core.Bool.{Bool, cond}
use native.Mathlib.Nat.{one-mul, mod-eq_of_lt, div-eq_of_lt}
use native.Mathlib.Numerals.{add-one}
use native.Mathlib.Omega.{arith}
use native.Mathlib.Decide.{ℕ_discrete}
use lib.Bits.{bit_and, bit_xor, and_zero_r, and_mask}
use lib.Pow.{pow_mono, pow-lt}
use borrow.Author.Tests.{eq-eqb, ne_eqb}
use Rattle.rules.specs.Sample.{line}
use Rattle.rules.specs.Encoder.{Turns, step_of, turn_of, turns_of}
use Rattle.rules.proofs.Bits.{line_lt, line_zero, two_cases, sixteen, lines_ext, line_and, power_has, power_only}
use Rattle.rules.proofs.Encoder.{steps, step_ind}
use Rattle.encoder_scan.specs.Scan.{is_set, by_mask, by_shift, Asks, Stepped, StepBy, Counts}

-- ---- masks
-- the mask of line k asks any sample for it
asks_line : (w k : ℕ) → Asks by_mask w (2 ^ k) k
asks_line w k = record { is = λ v h. two_cases (λ (x : ℕ). line v k ≡ x → is_set (bit_and v (2 ^ k)) ≡ x) (clear v) (has v) (line v k) (line_lt v k) refl }
  where
    there : (v : ℕ) → line (bit_and v (2 ^ k)) k ≡ line v k
    there v = line_and v (2 ^ k) k ∙ omega (arith, power_has k, line_lt v k)

    clear : (v : ℕ) → line v k ≡ 0 → is_set (bit_and v (2 ^ k)) ≡ 0
    clear v e = ap (λ (b : Bool). cond b 0 1) (eq-eqb _ _ none)
      where
        each : (j : ℕ) → line (bit_and v (2 ^ k)) j ≡ 0
        each j = go (ℕ_discrete j k)
          where
            go : Dec (j ≡ k) → line (bit_and v (2 ^ k)) j ≡ 0
            go (yes q) = ap (line (bit_and v (2 ^ k))) q ∙ there v ∙ e
            go (no n) = two_cases (λ (x : ℕ). line (2 ^ k) j ≡ x → line (bit_and v (2 ^ k)) j ≡ 0) (λ z. line_and v (2 ^ k) j ∙ omega (arith, z)) (λ z. absurd (n (power_only k j z))) (line (2 ^ k) j) (line_lt (2 ^ k) j) refl

        none : bit_and v (2 ^ k) ≡ 0
        none = lines_ext _ _ (λ j. each j ∙ sym (line_zero j))

    has : (v : ℕ) → line v k ≡ 1 → is_set (bit_and v (2 ^ k)) ≡ 1
    has v e = ap (λ (b : Bool). cond b 0 1) (ne_eqb (bit_and v (2 ^ k)) 0 (λ z. omega (arith, there v, e, ap (λ (x : ℕ). line x k) z, line_zero k)))

-- the mask as it is shifted into a byte
pub asks_shifted : (k : ℕ) → k < 8 → Asks by_mask 256 ((1 * 2 ^ k) % 256) k
asks_shifted k h = subst (λ (m : ℕ). Asks by_mask 256 m k) (sym (ap (λ (x : ℕ). x % 256) (one-mul (2 ^ k)) ∙ mod-eq_of_lt (pow-lt {i = k} {j = 8} h))) (asks_line 256 k)

-- a line above those of a byte is 0 in every byte
pub asks_none : (k : ℕ) → 8 ≤ k → Asks by_mask 256 0 k
unfolding line
asks_none k h = record { is = λ v l. ap is_set (and_zero_r v) ∙ sym (ap (λ (x : ℕ). x % 2) (div-eq_of_lt (omega (arith, l, pow_mono h)))) }

-- ---- shifts
pub asks_number : (w k : ℕ) → k ≤ 15 → Asks by_shift w k k
unfolding line
asks_number w k h = record { is = λ v l. and_mask (v / 2 ^ bit_and k 15) 1 ∙ ap (λ (x : ℕ). v / 2 ^ x % 2) (and_mask k 4 ∙ mod-eq_of_lt small) }
  where
    small : k < 16
    small = omega arith

-- ---- a step
-- its four bits: A and B before, A and B after
abbrev move_bit : ℕ → ℕ → ℕ → ℕ → ℕ
move_bit a b a' b' = bit_xor (bit_xor a a') (bit_xor b b')

abbrev back_bit : ℕ → ℕ → ℕ → ℕ → ℕ
back_bit a b a' b' = bit_and (move_bit a b a' b') (bit_xor a b')

abbrev skip_bit : ℕ → ℕ → ℕ → ℕ → ℕ
skip_bit a b a' b' = bit_and (bit_xor a a') (bit_xor b b')

bits_are : (a b a' b' : ℕ) → a < 2 → b < 2 → a' < 2 → b' < 2 → Stepped (step_of a b a' b') (move_bit a b a' b') (back_bit a b a' b') (skip_bit a b a' b')
bits_are a b a' b' h i j k = record {
  moved_is = sixteen (λ (a b a' b' : ℕ). move_bit a b a' b' ≡ (step_of a b a' b').forward + (step_of a b a' b').backward) refl refl refl refl refl refl refl refl refl refl refl refl refl refl refl refl a b a' b' h i j k;
  back_is = sixteen (λ (a b a' b' : ℕ). back_bit a b a' b' ≡ (step_of a b a' b').backward) refl refl refl refl refl refl refl refl refl refl refl refl refl refl refl refl a b a' b' h i j k;
  skipped_is = sixteen (λ (a b a' b' : ℕ). skip_bit a b a' b' ≡ (step_of a b a' b').skipped) refl refl refl refl refl refl refl refl refl refl refl refl refl refl refl refl a b a' b' h i j k;
}

-- and how many they are
record Bits (a b a' b' : ℕ) : Type 0 where
  is : Stepped (step_of a b a' b') (move_bit a b a' b') (back_bit a b a' b') (skip_bit a b a' b')
  few : move_bit a b a' b' + skip_bit a b a' b' ≤ 1
  less : back_bit a b a' b' ≤ move_bit a b a' b'

bits : (a b a' b' : ℕ) → a < 2 → b < 2 → a' < 2 → b' < 2 → Bits a b a' b'
bits a b a' b' h i j k =
    let t = bits_are a b a' b' h i j k in
    record {
      is = t;
      few = omega (arith, t.moved_is, t.skipped_is, step_ind (λ u. steps u ≤ 1) (omega arith) (omega arith) (omega arith) (omega arith) a b a' b');
      less = omega (arith, t.moved_is, t.back_is);
    }

module _ (told : ℕ → ℕ → ℕ) (w x y before after : ℕ) {a b a' b' : ℕ} (hb : before < w) (ha : after < w)
    (p : (a ≡ told before x) × (a ≤ 1)) (q : (b ≡ told before y) × (b ≤ 1)) (r : (a' ≡ told after x) × (a' ≤ 1)) (t : (b' ≡ told after y) × (b' ≤ 1)) where
  -- as the bits of any step
  known : Bits a b a' b'
  known = bits a b a' b' (omega (arith, p.1)) (omega (arith, q.1)) (omega (arith, r.1)) (omega (arith, t.1))

  pub step_by : StepBy told w x y before after (move_bit a b a' b') (back_bit a b a' b') (skip_bit a b a' b')
  unfolding turn_of
  step_by = record {
    is = λ i j hx hy.
        subst (λ (u : Turns). Stepped u (move_bit a b a' b') (back_bit a b a' b') (skip_bit a b a' b'))
        (ap₂ (λ (c d : ℕ). step_of c d a' b') (p.0 ∙ hx.is before hb) (q.0 ∙ hy.is before hb) ∙ ap₂ (λ (c d : ℕ). step_of (line before i) (line before j) c d) (r.0 ∙ hx.is after ha) (t.0 ∙ hy.is after ha)) known.is;
    few = known.few;
    less = known.less;
  }

-- ---- steps added up
pub stepped_none : (s : ℕ → ℕ) (a b p : ℕ) → Stepped (turns_of s a b p 0) 0 0 0
unfolding turns_of
stepped_none s a b p = record { moved_is = refl; back_is = refl; skipped_is = refl }

-- one place more
pub stepped_on : (s : ℕ → ℕ) (a b p k before after moved back skipped moved' back' skipped' : ℕ)
    → Stepped (turns_of s a b p k) moved back skipped → before ≡ s (p + k) → after ≡ s (p + k + 1) → Stepped (turn_of a b before after) moved' back' skipped'
    → Stepped (turns_of s a b p (k + 1)) (moved + moved') (back + back') (skipped + skipped')
unfolding turns_of
stepped_on s a b p k before after moved back skipped moved' back' skipped' g eb ea h = rw (add-one k) record {
  moved_is = ap₂ (λ (x y : ℕ). x + y) g.moved_is (h.moved_is ∙ ap (λ (t : Turns). t.forward + t.backward) turn) ∙ omega arith;
  back_is = ap₂ (λ (x y : ℕ). x + y) g.back_is (h.back_is ∙ ap (λ (t : Turns). t.backward) turn);
  skipped_is = ap₂ (λ (x y : ℕ). x + y) g.skipped_is (h.skipped_is ∙ ap (λ (t : Turns). t.skipped) turn);
}
  where
    at : p + k + 1 ≡ p + suc k
    at = omega arith

    turn : turn_of a b before after ≡ turn_of a b (s (p + k)) (s (p + suc k))
    turn = ap₂ (turn_of a b) eb (ea ∙ ap s at)

pub counts_of : {t : Turns} {moved back skipped : ℕ} → Stepped t moved back skipped → Counts t (moved - back) back skipped
counts_of h = record { forward_is = omega (arith, h.moved_is, h.back_is); backward_is = h.back_is; skipped_is = h.skipped_is }
