-- The trigger, line by line and term by term: the masks' test says what 01 and CR 4 of 02 say of the terms, and first_fire is the first place that fires.
use mathlib.Core.Path.{◌≡◌, refl, sym, ap, ap₂, ◌∙◌, subst}
use mathlib.Core.Bool.{Bool, true, false, cond, ◌&&◌, and-eq-true_iff}
use mathlib.Core.List.Memᴰ
use mathlib.Core.List.{List, [], ◌∷◌, ◌++◌, Memᴰ}
use mathlib.Core.Logic.{◌≢◌, ◌↔◌, ◌⊎◌, inl, inr}
use Rattle.std.specs.Prelude.{Option, None, Some}
use Prim.Native.Nat.{ℕ, zero, suc, ◌+◌, ◌^◌, ◌≤◌, ◌<◌, min, max}
use native.Mathlib.Nat.{zero-add, add-zero, add-suc, suc-add}
use native.Mathlib.Numerals.{add-one}
use native.Mathlib.Decide.{dec_lt}
use native.Mathlib.Omega.{arith}
use lib.Bits.{bit_and, bit_or, bit_xor, differ, and_comm}
use lib.Dec.{eqb}
use lib.ListN.{length, drop, get_or, drop_of_length-le}
use lib.Seq.{drop-cons}
use borrow.Author.Tests.{eqb-true, eq-eqb}
use Rattle.rules.specs.Sample.{line}
use Rattle.rules.specs.Trigger.{Condition, rising, falling, edge, high, low, Term, Masks, no_masks, with_line, with_term, with_terms, named_by, both_as_edge, masks_of, matches, fires, first_fire, last_of}
use Rattle.rules.proofs.Bits.{line_lt, line_zero, two_cases, lines_ext, power_has, power_only, line_and, line_or, line_xor, or_zero, or_zero_left, or_zero_right}

-- ---- lines of masks
-- a mask with no line
no_lines : (x : ℕ) → ((k : ℕ) → line x k ≡ 1 → ⊥) → x ≡ 0
no_lines x h = lines_ext x 0 (λ k. clear k (dec_lt 0 (line x k)) ∙ sym (line_zero k))
  where
    clear : (k : ℕ) → Dec (0 < line x k) → line x k ≡ 0
    clear k (yes d) = absurd (h k (omega (arith, line_lt x k)))
    clear k (no d) = omega arith

-- ---- what a condition asks of line k of v, which comes after p
abbrev pub LineHolds : Condition → ℕ → ℕ → ℕ → Type 0
LineHolds high k p v = line v k ≡ 1
LineHolds low k p v = line v k ≡ 0
LineHolds rising k p v = (line p k ≡ 0) × (line v k ≡ 1)
LineHolds falling k p v = (line p k ≡ 1) × (line v k ≡ 0)
LineHolds edge k p v = line p k ≢ line v k

abbrev pub mask_for : Condition → Masks → ℕ
mask_for high m = m.high
mask_for low m = m.low
mask_for rising m = m.rising
mask_for falling m = m.falling
mask_for edge m = m.edge

-- every line that the masks name is as it has to be
abbrev pub LineOk : Masks → ℕ → ℕ → ℕ → Type 0
LineOk m p v k = (c : Condition) → line (mask_for c m) k ≡ 1 → LineHolds c k p v

-- ---- the masks' test
-- the test of one condition, x its mask
abbrev test_for : Condition → ℕ → ℕ → ℕ → Bool
test_for high x p v = eqb (bit_and v x) x
test_for low x p v = eqb (bit_and v x) 0
test_for rising x p v = eqb (bit_and p x) 0 && eqb (bit_and v x) x
test_for falling x p v = eqb (bit_and p x) x && eqb (bit_and v x) 0
test_for edge x p v = eqb (bit_and (bit_xor p v) x) x

-- every line of x is 1 in v
all_set : (v x : ℕ) → (eqb (bit_and v x) x ≡ true) ↔ ((k : ℕ) → line x k ≡ 1 → line v k ≡ 1)
all_set v x = (down, λ f. eq-eqb _ _ (lines_ext (bit_and v x) x (λ k. simp line_and (up k (f k) (dec_lt 0 (line x k))))))
  where
    down : eqb (bit_and v x) x ≡ true → (k : ℕ) → line x k ≡ 1 → line v k ≡ 1
    down t k d = omega (arith, line_lt v k, sym (line_and v x k) ∙ ap (λ (z : ℕ). line z k) (eqb-true _ _ t))

    up : (k : ℕ) → (line x k ≡ 1 → line v k ≡ 1) → Dec (0 < line x k) → min (line v k) (line x k) ≡ line x k
    up k f (yes d) = omega (arith, f (omega (arith, line_lt x k)), line_lt x k)
    up k f (no d) = omega arith

-- every line of x is 0 in v
all_clear : (v x : ℕ) → (eqb (bit_and v x) 0 ≡ true) ↔ ((k : ℕ) → line x k ≡ 1 → line v k ≡ 0)
all_clear v x = (down, λ f. eq-eqb _ _ (lines_ext (bit_and v x) 0 (λ k. simp (line_and, line_zero) (up k (f k) (dec_lt 0 (line x k))))))
  where
    down : eqb (bit_and v x) 0 ≡ true → (k : ℕ) → line x k ≡ 1 → line v k ≡ 0
    down t k d = omega (arith, sym (line_and v x k) ∙ ap (λ (z : ℕ). line z k) (eqb-true _ _ t), line_zero k)

    up : (k : ℕ) → (line x k ≡ 1 → line v k ≡ 0) → Dec (0 < line x k) → min (line v k) (line x k) ≡ 0
    up k f (yes d) = omega (arith, f (omega (arith, line_lt x k)))
    up k f (no d) = omega arith

differ_one : (x y : ℕ) → x < 2 → y < 2 → (differ x y ≡ 1) ↔ (x ≢ y)
differ_one x y hx hy =
    two_cases (λ (x : ℕ). (differ x y ≡ 1) ↔ (x ≢ y))
    (two_cases (λ (y : ℕ). (differ 0 y ≡ 1) ↔ (0 ≢ y)) (λ e. omega arith, λ n. absurd (n refl)) (λ e z. omega arith, λ n. refl) y hy)
    (two_cases (λ (y : ℕ). (differ 1 y ≡ 1) ↔ (1 ≢ y)) (λ e z. omega arith, λ n. refl) (λ e. omega arith, λ n. absurd (n refl)) y hy)
    x hx

-- every line of x differs
all_differ : (p v x : ℕ) → (eqb (bit_and (bit_xor p v) x) x ≡ true) ↔ ((k : ℕ) → line x k ≡ 1 → line p k ≢ line v k)
all_differ p v x =
    (λ t k d. (one k).0 (sym (line_xor p v k) ∙ (all_set (bit_xor p v) x).0 t k d), λ f. (all_set (bit_xor p v) x).1 (λ k d. line_xor p v k ∙ (one k).1 (f k d)))
  where
    one : (k : ℕ) → (differ (line p k) (line v k) ≡ 1) ↔ (line p k ≢ line v k)
    one k = differ_one (line p k) (line v k) (line_lt p k) (line_lt v k)

-- two tests of the lines of x
all_both : (a b : Bool) (x : ℕ) (P Q : ℕ → Type 0) → (a ≡ true) ↔ ((k : ℕ) → line x k ≡ 1 → P k) → (b ≡ true) ↔ ((k : ℕ) → line x k ≡ 1 → Q k)
    → ((a && b) ≡ true) ↔ ((k : ℕ) → line x k ≡ 1 → P k × Q k)
all_both a b x P Q f g = (
  λ t k d. (f.0 ((and-eq-true_iff a b).0 t).0 k d, g.0 ((and-eq-true_iff a b).0 t).1 k d),
  λ h. (and-eq-true_iff a b).1 (f.1 (λ k d. (h k d).0), g.1 (λ k d. (h k d).1)),
)

test_lines : (c : Condition) (x p v : ℕ) → (test_for c x p v ≡ true) ↔ ((k : ℕ) → line x k ≡ 1 → LineHolds c k p v)
test_lines high x p v = all_set v x
test_lines low x p v = all_clear v x
test_lines rising x p v = all_both _ _ x _ _ (all_clear p x) (all_set v x)
test_lines falling x p v = all_both _ _ x _ _ (all_set p x) (all_clear v x)
test_lines edge x p v = all_differ p v x

-- the test of all masks is that of each
all_five : (a b c d e : Bool) → ((a && b && c && d && e) ≡ true) ↔ ((a ≡ true) × (b ≡ true) × (c ≡ true) × (d ≡ true) × (e ≡ true))
all_five true true true true e = (λ t. (refl, refl, refl, refl, t), λ t. t.4)
all_five true true true false e = (λ t. (refl, refl, refl, t, cc), λ t. t.3)
all_five true true false d e = (λ t. (refl, refl, t, cc, cc), λ t. t.2)
all_five true false c d e = (λ t. (refl, t, cc, cc, cc), λ t. t.1)
all_five false b c d e = (λ t. (t, cc, cc, cc, cc), λ t. t.0)

matches_each : (m : Masks) (p v : ℕ) → (matches m p v ≡ true) ↔ ((c : Condition) → test_for c (mask_for c m) p v ≡ true)
unfolding matches
matches_each m p v = (λ t. apart (five.0 t), λ f. five.1 (f high, f low, f rising, f falling, f edge))
  where
    test : Condition → Bool
    test c = test_for c (mask_for c m) p v

    five : ((test high && test low && test rising && test falling && test edge) ≡ true) ↔ ((test high ≡ true) × (test low ≡ true) × (test rising ≡ true) × (test falling ≡ true) × (test edge ≡ true))
    five = all_five (test high) (test low) (test rising) (test falling) (test edge)

    apart : (test high ≡ true) × (test low ≡ true) × (test rising ≡ true) × (test falling ≡ true) × (test edge ≡ true) → (c : Condition) → test c ≡ true
    apart t high = t.0
    apart t low = t.1
    apart t rising = t.2
    apart t falling = t.3
    apart t edge = t.4

-- the masks' test says what 01 says of each line
pub matches_lines : (m : Masks) (p v : ℕ) → (matches m p v ≡ true) ↔ ((k : ℕ) → LineOk m p v k)
matches_lines m p v = (
  λ t k c. (test_lines c (mask_for c m) p v).0 ((matches_each m p v).0 t c) k,
  λ f. (matches_each m p v).1 (λ c. (test_lines c (mask_for c m) p v).1 (λ k. f k c)),
)

-- ---- the masks of a list of terms
abbrev pub on : Condition → ℕ → Term
on c k = record { line = k; condition = c }

-- a line added to the mask of its own condition, and to no other
with_own : (c : Condition) (m : Masks) (b : ℕ) → mask_for c (with_line m c b) ≡ bit_or (mask_for c m) b
with_own high m b = refl
with_own low m b = refl
with_own rising m b = refl
with_own falling m b = refl
with_own edge m b = refl

-- a fact of each condition
each : (P : Condition → Type 0) → P high → P low → P rising → P falling → P edge → (c : Condition) → P c
each P h l r f e high = h
each P h l r f e low = l
each P h l r f e rising = r
each P h l r f e falling = f
each P h l r f e edge = e

with_other : (m : Masks) (b : ℕ) (c d : Condition) → (c ≡ d) ⊎ (mask_for c (with_line m d b) ≡ mask_for c m)
with_other m b =
    each (λ c. (d : Condition) → (c ≡ d) ⊎ (mask_for c (with_line m d b) ≡ mask_for c m))
    (each _ (inl refl) (inr refl) (inr refl) (inr refl) (inr refl))
    (each _ (inr refl) (inl refl) (inr refl) (inr refl) (inr refl))
    (each _ (inr refl) (inr refl) (inl refl) (inr refl) (inr refl))
    (each _ (inr refl) (inr refl) (inr refl) (inl refl) (inr refl))
    (each _ (inr refl) (inr refl) (inr refl) (inr refl) (inl refl))

module _ (c : Condition) (k : ℕ) where
  -- line k of the mask for c, after one more term
  with_then : (m : Masks) (t : Term) → line (mask_for c (with_term m t)) k ≡ 1 → (line (mask_for c m) k ≡ 1) ⊎ (on c k ≡ t)
  with_then m t e = go (with_other m (2 ^ t.line) c t.condition) (dec_lt 0 (line (mask_for c m) k))
    where
      go : (c ≡ t.condition) ⊎ (mask_for c (with_term m t) ≡ mask_for c m) → Dec (0 < line (mask_for c m) k) → (line (mask_for c m) k ≡ 1) ⊎ (on c k ≡ t)
      go (inr s) d = inl (ap (λ (x : ℕ). line x k) (sym s) ∙ e)
      go (inl q) (yes d) = inl (omega (arith, line_lt (mask_for c m) k))
      go (inl q) (no d) = inr (ap₂ (λ (a : Condition) (j : ℕ). on a j) q (power_only t.line k added))
        where
          both : max (line (mask_for c m) k) (line (2 ^ t.line) k) ≡ 1
          both =
              sym (line_or (mask_for c m) (2 ^ t.line) k)
              ∙ ap (λ (x : ℕ). line x k) (sym (with_own c m (2 ^ t.line)))
              ∙ ap (λ (a : Condition). line (mask_for c (with_line m a (2 ^ t.line))) k) q
              ∙ e

          added : line (2 ^ t.line) k ≡ 1
          added = omega (arith, both)

  with_kept : (m : Masks) (t : Term) → line (mask_for c m) k ≡ 1 → line (mask_for c (with_term m t)) k ≡ 1
  with_kept m t e = go (with_other m (2 ^ t.line) c t.condition)
    where
      go : (c ≡ t.condition) ⊎ (mask_for c (with_term m t) ≡ mask_for c m) → line (mask_for c (with_term m t)) k ≡ 1
      go (inr s) = ap (λ (x : ℕ). line x k) s ∙ e
      go (inl q) =
          ap (λ (a : Condition). line (mask_for c (with_line m a (2 ^ t.line))) k) (sym q)
          ∙ ap (λ (x : ℕ). line x k) (with_own c m (2 ^ t.line))
          ∙ line_or (mask_for c m) (2 ^ t.line) k
          ∙ omega (arith, line_lt (2 ^ t.line) k)

  with_has : (m : Masks) → line (mask_for c (with_term m (on c k))) k ≡ 1
  with_has m = ap (λ (x : ℕ). line x k) (with_own c m (2 ^ k)) ∙ line_or (mask_for c m) (2 ^ k) k ∙ omega (arith, power_has k, line_lt (mask_for c m) k)

  -- after a list of terms
  masks_then : (ts : List Term) (m : Masks) → line (mask_for c (with_terms m ts)) k ≡ 1 → (line (mask_for c m) k ≡ 1) ⊎ Memᴰ (on c k) ts
  unfolding with_terms
  masks_then [] m e = inl e
  masks_then (t ∷ ts) m e = go (masks_then ts (with_term m t) e)
    where
      go : (line (mask_for c (with_term m t)) k ≡ 1) ⊎ Memᴰ (on c k) ts → (line (mask_for c m) k ≡ 1) ⊎ Memᴰ (on c k) (t ∷ ts)
      go (inr h) = inr (Memᴰ.tail h)
      go (inl h) = first (with_then m t h)
        where
          first : (line (mask_for c m) k ≡ 1) ⊎ (on c k ≡ t) → (line (mask_for c m) k ≡ 1) ⊎ Memᴰ (on c k) (t ∷ ts)
          first (inl x) = inl x
          first (inr q) = inr (Memᴰ.head q)

  masks_kept : (ts : List Term) (m : Masks) → line (mask_for c m) k ≡ 1 → line (mask_for c (with_terms m ts)) k ≡ 1
  unfolding with_terms
  masks_kept [] m e = e
  masks_kept (t ∷ ts) m e = masks_kept ts (with_term m t) (with_kept m t e)

  masks_has : (ts : List Term) (m : Masks) → Memᴰ (on c k) ts → line (mask_for c (with_terms m ts)) k ≡ 1
  unfolding with_terms
  masks_has [] m h = absurd (Memᴰ.not-nil h)
  masks_has (t ∷ ts) m h = go (Memᴰ.cases_cons h) (masks_has ts (with_term m t))
    where
      go : (on c k ≡ t) ⊎ Memᴰ (on c k) ts → (Memᴰ (on c k) ts → line (mask_for c (with_terms (with_term m t) ts)) k ≡ 1) → line (mask_for c (with_terms (with_term m t) ts)) k ≡ 1
      go (inl q) ih = masks_kept ts (with_term m t) (subst (λ (x : Term). line (mask_for c (with_term m x)) k ≡ 1) q (with_has m))
      go (inr l) ih = ih l

none_first : (c : Condition) → mask_for c no_masks ≡ 0
none_first = each _ refl refl refl refl refl

-- the lines named for a condition are those of its terms
pub named_line : (ts : List Term) (c : Condition) (k : ℕ) → (line (mask_for c (named_by ts)) k ≡ 1) ↔ Memᴰ (on c k) ts
named_line ts c k = (λ e. go (masks_then c k ts no_masks e), masks_has c k ts no_masks)
  where
    go : (line (mask_for c no_masks) k ≡ 1) ⊎ Memᴰ (on c k) ts → Memᴰ (on c k) ts
    go (inl x) = absurd (omega (arith, sym x ∙ ap (λ (z : ℕ). line z k) (none_first c) ∙ line_zero k))
    go (inr h) = h

-- ---- 02, CR 4: "a line with both counts as one with Edge, beside any other terms on it"
-- what the terms ask of line k
abbrev pub Asked : List Term → Condition → ℕ → Type 0
Asked ts high k = Memᴰ (on high k) ts
Asked ts low k = Memᴰ (on low k) ts
Asked ts rising k = Memᴰ (on rising k) ts × (Memᴰ (on falling k) ts → ⊥)
Asked ts falling k = Memᴰ (on falling k) ts × (Memᴰ (on rising k) ts → ⊥)
Asked ts edge k = Memᴰ (on edge k) ts ⊎ (Memᴰ (on rising k) ts × Memᴰ (on falling k) ts)

-- lines of x that y has not, and lines that x has or both y and z
less_one : (x y : ℕ) → x < 2 → y < 2 → (differ x (min x y) ≡ 1) ↔ ((x ≡ 1) × (y ≡ 1 → ⊥))
less_one x y hx hy =
    two_cases (λ (x : ℕ). (differ x (min x y) ≡ 1) ↔ ((x ≡ 1) × (y ≡ 1 → ⊥)))
    (λ e. absurd (omega arith), λ h. absurd (omega (arith, h.0)))
    (two_cases (λ (y : ℕ). (differ 1 (min 1 y) ≡ 1) ↔ ((◌≡◌ {A = ℕ} 1 1) × (y ≡ 1 → ⊥))) (λ e. (refl, λ z. omega arith), λ h. refl) (λ e. absurd (omega arith), λ h. absurd (h.1 refl)) y hy)
    x hx

more_one : (x y z : ℕ) → x < 2 → y < 2 → z < 2 → (max x (min y z) ≡ 1) ↔ ((x ≡ 1) ⊎ ((y ≡ 1) × (z ≡ 1)))
more_one x y z hx hy hz = (λ e. go e (dec_lt 0 x), back)
  where
    go : max x (min y z) ≡ 1 → Dec (0 < x) → (x ≡ 1) ⊎ ((y ≡ 1) × (z ≡ 1))
    go e (yes d) = inl (omega arith)
    go e (no d) = inr (omega arith, omega arith)

    back : (x ≡ 1) ⊎ ((y ≡ 1) × (z ≡ 1)) → max x (min y z) ≡ 1
    back (inl e) = omega arith
    back (inr h) = omega (arith, h.0, h.1)

line_less : (x y k : ℕ) → (line (bit_xor x (bit_and x y)) k ≡ 1) ↔ ((line x k ≡ 1) × (line y k ≡ 1 → ⊥))
line_less x y k = simp (line_xor, line_and) (less_one (line x k) (line y k) (line_lt x k) (line_lt y k))

line_more : (x y z k : ℕ) → (line (bit_or x (bit_and y z)) k ≡ 1) ↔ ((line x k ≡ 1) ⊎ ((line y k ≡ 1) × (line z k ≡ 1)))
line_more x y z k = simp (line_or, line_and) (more_one (line x k) (line y k) (line z k) (line_lt x k) (line_lt y k) (line_lt z k))

-- the mask for a condition has line k exactly where the terms ask that condition of line k
pub masks_line : (ts : List Term) (c : Condition) (k : ℕ) → (line (mask_for c (masks_of ts)) k ≡ 1) ↔ Asked ts c k
unfolding both_as_edge
masks_line ts c k = go c
  where
    m : Masks
    m = named_by ts

    -- on line k: a term of c and none of d
    less : (c d : Condition) (x : ℕ) → (line x k ≡ 1) ↔ ((line (mask_for c m) k ≡ 1) × (line (mask_for d m) k ≡ 1 → ⊥)) → (line x k ≡ 1) ↔ (Memᴰ (on c k) ts × (Memᴰ (on d k) ts → ⊥))
    less c d x h = (
      λ e. ((named_line ts c k).0 (h.0 e).0, λ t. (h.0 e).1 ((named_line ts d k).1 t)),
      λ a. h.1 ((named_line ts c k).1 a.0, λ e. a.1 ((named_line ts d k).0 e)),
    )

    up : (line m.edge k ≡ 1) ⊎ ((line m.rising k ≡ 1) × (line m.falling k ≡ 1)) → Asked ts edge k
    up (inl e) = inl ((named_line ts edge k).0 e)
    up (inr e) = inr ((named_line ts rising k).0 e.0, (named_line ts falling k).0 e.1)

    down : Asked ts edge k → (line m.edge k ≡ 1) ⊎ ((line m.rising k ≡ 1) × (line m.falling k ≡ 1))
    down (inl t) = inl ((named_line ts edge k).1 t)
    down (inr t) = inr ((named_line ts rising k).1 t.0, (named_line ts falling k).1 t.1)

    go : (c : Condition) → (line (mask_for c (masks_of ts)) k ≡ 1) ↔ Asked ts c k
    go high = named_line ts high k
    go low = named_line ts low k
    go rising = less rising falling _ (line_less m.rising m.falling k)
    go falling = less falling rising _ (rw (and_comm m.rising m.falling) (line_less m.falling m.rising k))
    go edge = (λ e. up ((line_more m.edge m.rising m.falling k).0 e), λ a. (line_more m.edge m.rising m.falling k).1 (down a))

-- ---- firing
-- "A sample v after p fires when every High line is 1 in v, every Low line 0, ..", lines with both counting as with Edge
pub fires_terms : (ts : List Term) (p v : ℕ) → (fires (masks_of ts) (Some p) v ≡ true) ↔ ((c : Condition) (k : ℕ) → Asked ts c k → LineHolds c k p v)
unfolding fires
fires_terms ts p v = (
  λ e c k a. (matches_lines (masks_of ts) p v).0 e k c ((masks_line ts c k).1 a),
  λ f. (matches_lines (masks_of ts) p v).1 (λ k c d. f c k ((masks_line ts c k).0 d)),
)

-- what a condition asks of the first sample: no sample before it can differ
abbrev pub AtFirst : Condition → Type 0
AtFirst high = Unit {0}
AtFirst low = Unit {0}
AtFirst rising = ⊥
AtFirst falling = ⊥
AtFirst edge = ⊥

-- no mask for Rising, Falling or Edge
still : (m : Masks) → (bit_or (bit_or m.rising m.falling) m.edge ≡ 0) ↔ ((c : Condition) (k : ℕ) → line (mask_for c m) k ≡ 1 → AtFirst c)
still m = (λ e. apart e, λ f. or_zero (or_zero (no_lines m.rising (f rising)) (no_lines m.falling (f falling))) (no_lines m.edge (f edge)))
  where
    none_set : (x k : ℕ) → x ≡ 0 → line x k ≡ 1 → ⊥
    none_set x k z d = omega (arith, sym d ∙ ap (λ (y : ℕ). line y k) z ∙ line_zero k)

    apart : bit_or (bit_or m.rising m.falling) m.edge ≡ 0 → (c : Condition) (k : ℕ) → line (mask_for c m) k ≡ 1 → AtFirst c
    apart e high k d = tt
    apart e low k d = tt
    apart e rising k d = none_set m.rising k (or_zero_left m.rising m.falling (or_zero_left _ m.edge e)) d
    apart e falling k d = none_set m.falling k (or_zero_right m.rising m.falling (or_zero_left _ m.edge e)) d
    apart e edge k d = none_set m.edge k (or_zero_right (bit_or m.rising m.falling) m.edge e) d

abbrev pub holds : Term → ℕ → ℕ → Type 0
holds t p v = LineHolds t.condition t.line p v

-- "The first sample .. fires only if there is no Rising, Falling or Edge term, tested with p = v."
pub fires_first : (ts : List Term) (v : ℕ) → (fires (masks_of ts) None v ≡ true) ↔ ((t : Term) → Memᴰ t ts → AtFirst t.condition × holds t v v)
unfolding fires
fires_first ts v = (
  λ e t h. down ((still m).0 (eqb-true _ _ ((and-eq-true_iff quiet (matches m v v)).0 e).0)) ((fires_terms ts v v).0 ((and-eq-true_iff quiet (matches m v v)).0 e).1) t.condition t.line h,
  λ f. (and-eq-true_iff quiet (matches m v v)).1 (
    eq-eqb _ _ ((still m).1 (λ c k d. (up f c k ((masks_line ts c k).0 d)).0)),
    (fires_terms ts v v).1 (λ c k a. (up f c k a).1),
  ),
)
  where
    m : Masks
    m = masks_of ts

    quiet : Bool
    quiet = eqb (bit_or (bit_or m.rising m.falling) m.edge) 0

    down : ((c : Condition) (k : ℕ) → line (mask_for c m) k ≡ 1 → AtFirst c) → ((c : Condition) (k : ℕ) → Asked ts c k → LineHolds c k v v)
        → (c : Condition) (k : ℕ) → Memᴰ (on c k) ts → AtFirst c × LineHolds c k v v
    down s f high k h = (tt, f high k h)
    down s f low k h = (tt, f low k h)
    down s f rising k h = absurd (s rising k ((masks_line ts rising k).1 (h, λ g. s edge k ((masks_line ts edge k).1 (inr (h, g))))))
    down s f falling k h = absurd (s falling k ((masks_line ts falling k).1 (h, λ g. s edge k ((masks_line ts edge k).1 (inr (g, h))))))
    down s f edge k h = absurd (s edge k ((masks_line ts edge k).1 (inl h)))

    up : ((t : Term) → Memᴰ t ts → AtFirst t.condition × holds t v v) → (c : Condition) (k : ℕ) → Asked ts c k → AtFirst c × LineHolds c k v v
    up f high k a = f (on high k) a
    up f low k a = f (on low k) a
    up f rising k a = f (on rising k) a.0
    up f falling k a = f (on falling k) a.0
    up f edge k (inl a) = f (on edge k) a
    up f edge k (inr a) = absurd (f (on rising k) a.0).0

-- ---- the first firing place
-- the sample at place k fires, with the one before it, or q at the start
abbrev pub fires_at : Masks → Option ℕ → List ℕ → ℕ → Bool
fires_at m q xs zero = fires m q (get_or xs 0 0)
fires_at m q xs (suc k) = fires m (Some (get_or xs k 0)) (get_or xs (suc k) 0)

pub record First (m : Masks) (q : Option ℕ) (xs : List ℕ) (t : ℕ) : Type 0 where
  pub at_most : t ≤ length xs
  pub here : t < length xs → fires_at m q xs t ≡ true
  pub before : (k : ℕ) → k < t → fires_at m q xs k ≡ false

first_later : (m : Masks) (q : Option ℕ) (v : ℕ) (vs : List ℕ) (t : ℕ) → fires m q v ≡ false → First m (Some v) vs t → First m q (v ∷ vs) (suc t)
first_later m q v vs t e f = record { at_most = omega (arith, f.at_most); here = λ h. moved t ∙ f.here (omega arith); before = earlier }
  where
    moved : (k : ℕ) → fires_at m q (v ∷ vs) (suc k) ≡ fires_at m (Some v) vs k
    moved zero = refl
    moved (suc k) = refl

    earlier : (k : ℕ) → k < suc t → fires_at m q (v ∷ vs) k ≡ false
    earlier zero h = e
    earlier (suc k) h = moved k ∙ f.before k (omega arith)

-- first_fire is the first place at which a sample fires, and the count where none does
pub first_is : (m : Masks) (q : Option ℕ) (xs : List ℕ) → First m q xs (first_fire m q xs)
unfolding first_fire
first_is m q [] = record { at_most = omega arith; here = λ h. absurd (omega arith); before = λ k h. absurd (omega arith) }
first_is m q (v ∷ vs) = go (fires m q v) refl (first_is m (Some v) vs)
  where
    go : (b : Bool) → fires m q v ≡ b → First m (Some v) vs (first_fire m (Some v) vs) → First m q (v ∷ vs) (cond b 0 (suc (first_fire m (Some v) vs)))
    go true e f = record { at_most = omega arith; here = λ h. e; before = λ k h. absurd (omega arith) }
    go false e f = first_later m q v vs (first_fire m (Some v) vs) e f

pub fire_le : (m : Masks) (q : Option ℕ) (xs : List ℕ) → first_fire m q xs ≤ length xs
fire_le m q xs = (first_is m q xs).at_most

-- ---- a loop that has passed i samples, the last of them `now`
module _ (m : Masks) (q now : Option ℕ) (xs : List ℕ) (i : ℕ) (so_far : i + first_fire m now (drop i xs) ≡ first_fire m q xs) where
  pub scan_hit : i < length xs → fires m now (get_or xs i 0) ≡ true → i ≡ first_fire m q xs
  unfolding first_fire
  scan_hit l e = sym (add-zero i) ∙ ap (λ (k : ℕ). i + k) (sym found) ∙ so_far
    where
      found : first_fire m now (drop i xs) ≡ 0
      found = rw (drop-cons xs i 0 l, e)

  pub scan_miss : i < length xs → fires m now (get_or xs i 0) ≡ false → i + 1 + first_fire m (Some (get_or xs i 0)) (drop (i + 1) xs) ≡ first_fire m q xs
  unfolding first_fire
  scan_miss l e = rw (add-one i) (suc-add i _ ∙ sym (add-suc i _) ∙ ap (λ (k : ℕ). i + k) (sym missed) ∙ so_far)
    where
      missed : first_fire m now (drop i xs) ≡ suc (first_fire m (Some (get_or xs i 0)) (drop (suc i) xs))
      missed = rw (drop-cons xs i 0 l, e)

  pub scan_end : length xs ≤ i → i ≡ first_fire m q xs
  unfolding first_fire
  scan_end l = sym (add-zero i) ∙ ap (λ (k : ℕ). i + k) (sym none_left) ∙ so_far
    where
      none_left : first_fire m now (drop i xs) ≡ 0
      none_left = rw (drop_of_length-le xs l)

-- ---- samples after samples
pub last_append : (q : Option ℕ) (xs ys : List ℕ) → last_of q (xs ++ ys) ≡ last_of (last_of q xs) ys
unfolding last_of
last_append q [] ys = refl
last_append q (v ∷ vs) ys = last_append (Some v) vs ys

pub last_turn : (now : Option ℕ) (xs : List ℕ) (i : ℕ) → i < length xs → last_of (Some (get_or xs i 0)) (drop (i + 1) xs) ≡ last_of now (drop i xs)
unfolding last_of
last_turn now xs i l = rw (add-one i) (sym (rw (drop-cons xs i 0 l)))

pub last_end : (now : Option ℕ) (xs : List ℕ) (i : ℕ) → length xs ≤ i → last_of now (drop i xs) ≡ now
unfolding last_of
last_end now xs i l = rw (drop_of_length-le xs l)

-- fired already: more samples change nothing
pub fire_stays : (m : Masks) (q : Option ℕ) (xs ys : List ℕ) → first_fire m q xs < length xs → first_fire m q (xs ++ ys) ≡ first_fire m q xs
unfolding first_fire
fire_stays m q [] ys h = absurd (omega arith)
fire_stays m q (v ∷ vs) ys h = go (fires m q v) (fire_stays m (Some v) vs ys) h
  where
    go : (b : Bool) → (first_fire m (Some v) vs < length vs → first_fire m (Some v) (vs ++ ys) ≡ first_fire m (Some v) vs) → cond b 0 (suc (first_fire m (Some v) vs)) < suc (length vs)
        → cond b 0 (suc (first_fire m (Some v) (vs ++ ys))) ≡ cond b 0 (suc (first_fire m (Some v) vs))
    go true ih h = refl
    go false ih h = ap suc (ih (omega arith))

-- not fired yet: the scan goes on in ys, from the last sample
pub fire_later : (m : Masks) (q : Option ℕ) (xs ys : List ℕ) → first_fire m q xs ≡ length xs → first_fire m q (xs ++ ys) ≡ length xs + first_fire m (last_of q xs) ys
unfolding first_fire last_of
fire_later m q [] ys h = sym (zero-add _)
fire_later m q (v ∷ vs) ys h = go (fires m q v) (fire_later m (Some v) vs ys) h
  where
    go : (b : Bool) → (first_fire m (Some v) vs ≡ length vs → first_fire m (Some v) (vs ++ ys) ≡ length vs + first_fire m (last_of (Some v) vs) ys) → cond b 0 (suc (first_fire m (Some v) vs)) ≡ suc (length vs)
        → cond b 0 (suc (first_fire m (Some v) (vs ++ ys))) ≡ suc (length vs) + first_fire m (last_of (Some v) vs) ys
    go true ih h = absurd (omega arith)
    go false ih h = omega (arith, ih (omega arith))
