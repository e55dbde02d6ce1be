-- Laws of levels: spans, the highest level that fits, and that it is the one that a walk takes, in either direction.
use Prim.Native.Nat.{ℕ, zero, suc, ◌+◌, ◌-◌, ◌*◌, ◌%◌, ◌^◌, ◌≤◌, ◌<◌}
use mathlib.Core.Path.{◌≡◌, refl, sym, ap, ap₂, ◌∙◌, subst}
use mathlib.Core.Bool.{Bool, true, false, cond, ◌&&◌}
use mathlib.Core.Logic.{◌⊎◌, inl, inr}
use native.Mathlib.Nat.{add-zero, add-suc, mul-suc, mod-one, pow-suc, pow-le-pow_right, zero-lt-suc, eq-or-lt_of_le, mod-eq-zero_of_dvd, dvd_of_mod-eq-zero, dvd_trans, dvd-mul_right}
use native.Mathlib.Decide.{dec_le}
use native.Mathlib.Omega.{arith}
use lib.Arith.{le-zero}
use lib.Dec.{eqb, leb}
use lib.Pow.{pow-add}
use borrow.Author.Tests.{eqb-true, leb-true, eq-eqb, le-leb, lt-leb}
use Rattle.rules.specs.Node.{Node, span}
use Rattle.rules.specs.Walk.{best, forward, backward, all_levels}
use Rattle.level.specs.Best.{fits_at, Best}

-- ---- spans
pub span_bits : (l : ℕ) → 2 ^ (5 * l) ≡ span l
span_bits zero = refl
span_bits (suc l) = ap (λ (k : ℕ). 2 ^ k) (mul-suc 5 l) ∙ pow-add 2 (5 * l) 5 ∙ ap (λ (x : ℕ). x * 32) (span_bits l) ∙ sym (pow-suc 32 l)

pub span_le : {l k : ℕ} → l ≤ k → span l ≤ span k
span_le h = pow-le-pow_right (zero-lt-suc 31) h

-- ---- the highest level that fits
pub record Fits (pos room l : ℕ) : Type 0 where
  pub aligned : pos % span l ≡ 0
  pub small : span l ≤ room

both_true : (a b : Bool) → (a && b) ≡ true → (a ≡ true) × (b ≡ true)
both_true true b e = (refl, e)
both_true false b e = (cc, cc)

pub fitting : (pos room l : ℕ) → fits_at pos room l ≡ true → Fits pos room l
fitting pos room l e = let b = both_true _ _ e in record { aligned = eqb-true _ _ b.0; small = leb-true _ _ b.1 }

fits_true : (pos room l : ℕ) → Fits pos room l → fits_at pos room l ≡ true
fits_true pos room l f = rw (eq-eqb _ _ f.aligned, le-leb _ _ f.small)

fits_false : (pos room l : ℕ) → (Fits pos room l → ⊥) → fits_at pos room l ≡ false
fits_false pos room l n = go (fits_at pos room l) refl
  where
    go : (b : Bool) → fits_at pos room l ≡ b → fits_at pos room l ≡ false
    go true e = absurd (n (fitting pos room l e))
    go false e = e

-- a lower level fits too
fits_below : (pos room l : ℕ) → Fits pos room (suc l) → Fits pos room l
fits_below pos room l f = record {
  aligned = mod-eq-zero_of_dvd (span l) (dvd_trans (span l) (rw pow-suc (dvd-mul_right (span l) 32)) (dvd_of_mod-eq-zero (span (suc l)) f.aligned));
  small = omega (arith, f.small, span_le {l = l} {k = suc l} (omega arith));
}

fits_down : (pos room l k : ℕ) → Fits pos room (l + k) → Fits pos room l
fits_down pos room l zero f = rw (add-zero l) at f
fits_down pos room l (suc k) f = fits_down pos room l k (fits_below pos room (l + k) (rw (add-suc l k) at f))

-- a level that fits, where the next does not
best_is : (pos room cap l : ℕ) → l ≤ cap → Fits pos room l → (l < cap → Fits pos room (suc l) → ⊥) → best (fits_at pos room) cap ≡ l
unfolding best
best_is pos room zero l h f t = sym (le-zero h)
best_is pos room (suc cap) l h f t = go (λ h'. best_is pos room cap l h' f (λ i. t (omega arith))) (eq-or-lt_of_le h)
  where
    at_cap : l < suc cap → suc cap ≡ suc l + (cap - l)
    at_cap i = omega arith

    go : (l ≤ cap → best (fits_at pos room) cap ≡ l) → (l ≡ suc cap) ⊎ (l < suc cap) → cond (fits_at pos room (suc cap)) (suc cap) (best (fits_at pos room) cap) ≡ l
    go ih (inl e) = ap (λ (b : Bool). cond b (suc cap) (best (fits_at pos room) cap)) (fits_true pos room (suc cap) (subst (Fits pos room) e f)) ∙ sym e
    go ih (inr i) =
        ap (λ (b : Bool). cond b (suc cap) (best (fits_at pos room) cap)) (fits_false pos room (suc cap) (λ g. t i (fits_down pos room (suc l) (cap - l) (subst (Fits pos room) (at_cap i) g))))
        ∙ ih (omega arith)

-- what a loop that goes up to the level knows, and what it returns
pub fits_sample : (pos room : ℕ) → 1 ≤ room → Fits pos room 0
fits_sample pos room h = record { aligned = mod-one pos; small = h }

pub best_of : (pos room cap l : ℕ) → l ≤ cap → Fits pos room l → (l < cap → Fits pos room (suc l) → ⊥) → Best pos room cap l
best_of pos room cap l h f t = record { is = sym (best_is pos room cap l h f t); below = h; aligned = f.aligned; fits = f.small }

-- ---- the walk's level
best_same : (f g : ℕ → Bool) → ((l : ℕ) → f l ≡ g l) → (cap : ℕ) → best f cap ≡ best g cap
unfolding best
best_same f g h zero = refl
best_same f g h (suc cap) = ap₂ (λ (b : Bool) (x : ℕ). cond b (suc cap) x) (h (suc cap)) (best_same f g h cap)

-- the room between x and y, asked in two ways
room_same : (x y k : ℕ) → x ≤ y → leb k (y - x) ≡ leb (x + k) y
room_same x y k h = go (dec_le (x + k) y)
  where
    go : Dec (x + k ≤ y) → leb k (y - x) ≡ leb (x + k) y
    go (yes d) = le-leb k (y - x) (omega arith) ∙ sym (le-leb (x + k) y d)
    go (no d) = lt-leb k (y - x) (omega arith) ∙ sym (lt-leb (x + k) y (omega arith))

module _ (reader : ℕ → ℕ → Node) (pos cap r : ℕ) where
  pub best_ahead : (hi : ℕ) → pos ≤ hi → Best pos (hi - pos) cap r → r ≡ best (λ (l : ℕ). (forward all_levels reader hi).takes l pos) cap
  best_ahead hi h b = b.is ∙ best_same (fits_at pos (hi - pos)) (λ (l : ℕ). (forward all_levels reader hi).takes l pos) (λ l. ap (λ (t : Bool). eqb (pos % span l) 0 && t) (room_same pos hi (span l) h)) cap

  pub best_behind : (lo : ℕ) → lo ≤ pos → Best pos (pos - lo) cap r → r ≡ best (λ (l : ℕ). (backward all_levels reader lo).takes l pos) cap
  best_behind lo h b = b.is ∙ best_same (fits_at pos (pos - lo)) (λ (l : ℕ). (backward all_levels reader lo).takes l pos) (λ l. ap (λ (t : Bool). eqb (pos % span l) 0 && t) (room_same lo pos (span l) h)) cap
