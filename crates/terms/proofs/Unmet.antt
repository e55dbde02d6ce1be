-- The lines that fail a term, gathered by OR, are none exactly when every term holds.
use Prim.Native.Nat.{ℕ, ◌<◌}
use mathlib.Core.Path.{◌≡◌, refl, sym, ap, ap₂, ◌∙◌}
use mathlib.Core.Bool.{Bool, ◌&&◌}
use native.Mathlib.Decide.{ℕ_discrete}
use lib.Bits.{bit_and, bit_or, bit_xor, differ, xor_self}
use lib.Dec.{eqb}
use borrow.Author.Tests.{eq-eqb, ne_eqb}
use Rattle.rules.specs.Sample.{line}
use Rattle.rules.specs.Trigger.{Masks, matches}
use Rattle.rules.proofs.Bits.{line_lt, two_cases, line_xor, lines_ext, or_zero, or_zero_left, or_zero_right}

-- an OR is 0 exactly when both are
or_test : (a b : ℕ) → eqb (bit_or a b) 0 ≡ (eqb a 0 && eqb b 0)
or_test a b = go (ℕ_discrete a 0) (ℕ_discrete b 0)
  where
    go : Dec (a ≡ 0) → Dec (b ≡ 0) → eqb (bit_or a b) 0 ≡ (eqb a 0 && eqb b 0)
    go (yes p) (yes q) = eq-eqb _ _ (or_zero p q) ∙ sym (ap₂ ◌&&◌ (eq-eqb a 0 p) (eq-eqb b 0 q))
    go (yes p) (no q) = ne_eqb _ _ (λ e. q (or_zero_right a b e)) ∙ sym (ap₂ ◌&&◌ (eq-eqb a 0 p) (ne_eqb b 0 q))
    go (no p) d = ne_eqb _ _ (λ e. p (or_zero_left a b e)) ∙ sym (ap (λ (t : Bool). t && eqb b 0) (ne_eqb a 0 p))

differ_none : (x y : ℕ) → x < 2 → y < 2 → differ x y ≡ 0 → x ≡ y
differ_none x y hx hy =
    two_cases (λ (x : ℕ). differ x y ≡ 0 → x ≡ y) (λ e. sym e)
    (two_cases (λ (y : ℕ). differ 1 y ≡ 0 → 1 ≡ y) (λ e. e) (λ e. refl) y hy) x hx

xor_none : (a b : ℕ) → bit_xor a b ≡ 0 → a ≡ b
unfolding line
xor_none a b e = lines_ext a b (λ k. differ_none (line a k) (line b k) (line_lt a k) (line_lt b k) (sym (line_xor a b k) ∙ ap (λ (x : ℕ). line x k) e ∙ none_set k))
  where
    none_set : (k : ℕ) → line 0 k ≡ 0
    none_set k = sym (ap (λ (x : ℕ). line x k) (xor_self 0)) ∙ line_xor 0 0 k ∙ two_cases (λ (x : ℕ). differ x x ≡ 0) refl refl (line 0 k) (line_lt 0 k)

-- a XOR is 0 exactly when both are equal
xor_test : (a b : ℕ) → eqb (bit_xor a b) 0 ≡ eqb a b
xor_test a b = go (ℕ_discrete a b)
  where
    go : Dec (a ≡ b) → eqb (bit_xor a b) 0 ≡ eqb a b
    go (yes p) = eq-eqb _ _ (ap (λ (x : ℕ). bit_xor x b) p ∙ xor_self b) ∙ sym (eq-eqb a b p)
    go (no p) = ne_eqb _ _ (λ e. p (xor_none a b e)) ∙ sym (ne_eqb a b p)

-- the lines that fail a condition
abbrev pub unmet : Masks → ℕ → ℕ → ℕ
unmet m p v =
    bit_or
    (bit_or
    (bit_or (bit_or (bit_xor (bit_and v m.high) m.high) (bit_and v m.low)) (bit_or (bit_and p m.rising) (bit_xor (bit_and v m.rising) m.rising)))
    (bit_or (bit_xor (bit_and p m.falling) m.falling) (bit_and v m.falling)))
    (bit_xor (bit_and (bit_xor p v) m.edge) m.edge)

pub unmet_none : (m : Masks) (p v : ℕ) → eqb (unmet m p v) 0 ≡ matches m p v
unfolding matches
unmet_none m p v = simp (or_test, xor_test)
