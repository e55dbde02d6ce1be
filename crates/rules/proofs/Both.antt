-- 02, CR 4: what Rising and Falling on one line come to, list by list: one Edge term in their place, and nothing else.
use mathlib.Core.Path.{◌≡◌, refl, sym, ap, subst}
use mathlib.Core.List.Memᴰ
use mathlib.Core.List.{List, ◌∷◌, Memᴰ}
use mathlib.Core.Logic.{◌↔◌, ◌⊎◌, inl, inr}
use Prim.Native.Nat.{ℕ, ◌<◌}
use native.Mathlib.Decide.{dec_lt, ℕ_discrete}
use native.Mathlib.Omega.{arith}
use Rattle.rules.specs.Sample.{line}
use Rattle.rules.specs.Trigger.{Condition, rising, falling, edge, high, low, Term, Masks, named_by, masks_of}
use Rattle.rules.proofs.Bits.{line_lt, lines_ext}
use Rattle.rules.proofs.Trigger.{mask_for, on, Asked, named_line, masks_line}

-- masks with the same lines
lines_same : (x y : ℕ) → ((k : ℕ) → (line x k ≡ 1) ↔ (line y k ≡ 1)) → x ≡ y
lines_same x y h = lines_ext x y (λ k. go k (dec_lt 0 (line x k)) (dec_lt 0 (line y k)))
  where
    go : (k : ℕ) → Dec (0 < line x k) → Dec (0 < line y k) → line x k ≡ line y k
    go k (yes a) d = omega (arith, line_lt x k, (h k).0 (omega (arith, line_lt x k)))
    go k (no a) (yes b) = omega (arith, line_lt y k, (h k).1 (omega (arith, line_lt y k)))
    go k (no a) (no b) = omega arith

masks_same : (m n : Masks) → ((c : Condition) (k : ℕ) → (line (mask_for c m) k ≡ 1) ↔ (line (mask_for c n) k ≡ 1)) → m ≡ n
masks_same m n h = joined (same high) (same low) (same rising) (same falling) (same edge)
  where
    same : (c : Condition) → mask_for c m ≡ mask_for c n
    same c = lines_same (mask_for c m) (mask_for c n) (h c)

    made : (h l r f e : ℕ) → Masks
    made h l r f e = record { high = h; low = l; rising = r; falling = f; edge = e }

    joined : {h l r f e h' l' r' f' e' : ℕ} → h ≡ h' → l ≡ l' → r ≡ r' → f ≡ f' → e ≡ e' → made h l r f e ≡ made h' l' r' f' e'
    joined a b c d e = cc

-- terms that ask the same make the same masks
asked_masks : (ts us : List Term) → ((c : Condition) (k : ℕ) → Asked ts c k ↔ Asked us c k) → masks_of ts ≡ masks_of us
asked_masks ts us h = masks_same _ _ (λ c k. (λ e. (masks_line us c k).1 ((h c k).0 ((masks_line ts c k).0 e)), λ e. (masks_line ts c k).1 ((h c k).1 ((masks_line us c k).0 e))))

asked_by : (ts us : List Term) (k : ℕ) → ((c : Condition) → Memᴰ (on c k) ts ↔ Memᴰ (on c k) us) → (c : Condition) → Asked ts c k → Asked us c k
asked_by ts us k h high a = (h high).0 a
asked_by ts us k h low a = (h low).0 a
asked_by ts us k h rising a = ((h rising).0 a.0, λ t. a.1 ((h falling).1 t))
asked_by ts us k h falling a = ((h falling).0 a.0, λ t. a.1 ((h rising).1 t))
asked_by ts us k h edge (inl a) = inl ((h edge).0 a)
asked_by ts us k h edge (inr a) = inr ((h rising).0 a.0, (h falling).0 a.1)

asked_same : (ts us : List Term) (k : ℕ) → ((c : Condition) → Memᴰ (on c k) ts ↔ Memᴰ (on c k) us) → (c : Condition) → Asked ts c k ↔ Asked us c k
asked_same ts us k h c = (asked_by ts us k h c, asked_by us ts k (λ d. ((h d).1, (h d).0)) c)

-- neither the order of terms nor a repeated one changes the masks
pub masks_members : (ts us : List Term) → ((t : Term) → Memᴰ t ts ↔ Memᴰ t us) → masks_of ts ≡ masks_of us
masks_members ts us h = asked_masks ts us (λ c k. asked_same ts us k (λ d. h (on d k)) c)

-- where no line has both, the masks are the lines that the terms name, as in 01
pub masks_plain : (ts : List Term) → ((k : ℕ) → Memᴰ (on rising k) ts → Memᴰ (on falling k) ts → ⊥) → masks_of ts ≡ named_by ts
masks_plain ts h = masks_same _ _ (λ c k. (λ e. (named_line ts c k).1 (down c k ((masks_line ts c k).0 e)), λ e. (masks_line ts c k).1 (up c k ((named_line ts c k).0 e))))
  where
    down : (c : Condition) (k : ℕ) → Asked ts c k → Memᴰ (on c k) ts
    down high k a = a
    down low k a = a
    down rising k a = a.0
    down falling k a = a.0
    down edge k (inl a) = a
    down edge k (inr a) = absurd (h k a.0 a.1)

    up : (c : Condition) (k : ℕ) → Memᴰ (on c k) ts → Asked ts c k
    up high k t = t
    up low k t = t
    up rising k t = (t, h k t)
    up falling k t = (t, λ r. h k r t)
    up edge k t = inl t

-- "the two terms replaced by one Edge term"
pub masks_replaced : (k : ℕ) (ts : List Term) → (Memᴰ (on rising k) ts → ⊥) → (Memᴰ (on falling k) ts → ⊥) → masks_of (on rising k ∷ on falling k ∷ ts) ≡ masks_of (on edge k ∷ ts)
masks_replaced k ts nr nf = asked_masks two one (λ c j. at c j (ℕ_discrete k j))
  where
    two : List Term
    two = on rising k ∷ on falling k ∷ ts

    one : List Term
    one = on edge k ∷ ts

    past : (t u : Term) (us : List Term) → (t ≡ u → ⊥) → Memᴰ t (u ∷ us) → Memᴰ t us
    past t u us n h = go (Memᴰ.cases_cons h)
      where
        go : (t ≡ u) ⊎ Memᴰ t us → Memᴰ t us
        go (inl e) = absurd (n e)
        go (inr l) = l

    -- terms of another condition, or of another line
    kind : Condition → ℕ
    kind rising = 0
    kind falling = 1
    kind edge = 2
    kind high = 3
    kind low = 3

    unlike : (c d : Condition) → (kind c ≡ kind d → ⊥) → on c k ≡ on d k → ⊥
    unlike c d n e = n (ap (λ (t : Term). kind t.condition) e)

    kept : (c : Condition) → kind c ≡ 3 → Memᴰ (on c k) two ↔ Memᴰ (on c k) one
    kept c q = (
      λ h. Memᴰ.tail (past _ _ ts (unlike c falling (λ z. omega arith)) (past _ _ _ (unlike c rising (λ z. omega arith)) h)),
      λ h. Memᴰ.tail (Memᴰ.tail (past _ _ ts (unlike c edge (λ z. omega arith)) h)),
    )

    here : (c : Condition) → Asked two c k ↔ Asked one c k
    here high = kept high refl
    here low = kept low refl
    here rising = (λ a. absurd (a.1 (Memᴰ.tail (Memᴰ.head refl))), λ a. absurd (nr (past _ _ ts (unlike rising edge (λ z. omega arith)) a.0)))
    here falling = (λ a. absurd (a.1 (Memᴰ.head refl)), λ a. absurd (nf (past _ _ ts (unlike falling edge (λ z. omega arith)) a.0)))
    here edge = (λ a. inl (Memᴰ.head refl), λ a. inr (Memᴰ.head refl, Memᴰ.tail (Memᴰ.head refl)))

    elsewhere : (j : ℕ) → (k ≡ j → ⊥) → (c d : Condition) → on c j ≡ on d k → ⊥
    elsewhere j n c d e = n (sym (ap (λ (t : Term). t.line) e))

    at : (c : Condition) (j : ℕ) → Dec (k ≡ j) → Asked two c j ↔ Asked one c j
    at c j (yes e) = subst (λ (i : ℕ). Asked two c i ↔ Asked one c i) e (here c)
    at c j (no n) =
        asked_same two one j
        (λ d. (
          λ h. Memᴰ.tail (past _ _ ts (elsewhere j n d falling) (past _ _ _ (elsewhere j n d rising) h)),
          λ h. Memᴰ.tail (Memᴰ.tail (past _ _ ts (elsewhere j n d edge) h)),
        ))
        c
