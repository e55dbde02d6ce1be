-- An encoder's replay, added up: 02's claims of it, over any run. 02: CR 6.
use Prim.Native.Nat.{ℕ, zero, suc, ◌+◌, ◌-◌, ◌^◌, ◌≤◌, ◌<◌, min, max}
use mathlib.Core.Path.{◌≡◌, refl, sym, ap, ap₂, ◌∙◌}
use mathlib.Core.Bool.{Bool, true, false, cond, not, ◌&&◌}
use mathlib.Core.List.{List, [], ◌∷◌}
use native.Mathlib.Nat.{add-zero, add-suc, zero-add, add_assoc, add_comm}
use native.Mathlib.Omega.{arith}
use native.Mathlib.Decide.{ℕ_discrete}
use lib.Bits.{bit_and, bit_xor, differ}
use lib.Dec.{eqb}
use lib.IntN.{ℤ, pos, neg_ℤ, ◌+ℤ◌, ◌-ℤ◌, +ℤ_idl, +ℤ_idr, +ℤ_assoc, +ℤ_comm, neg_ℤ-+ℤ}
use borrow.Author.Tests.{eqb-true, eq-eqb, ne_eqb}
use Rattle.rules.specs.Sample.{line, cut_to, cut_lines, Within}
use Rattle.rules.specs.Node.{differs, count_of, changes}
use Rattle.rules.specs.Search.{changed}
use Rattle.rules.specs.Cutting.{Rising, cut_end, parts_by}
use Rattle.rules.specs.Encoder.{Turns, no_turns, turn_forward, turn_backward, turn_skipped, add_turns, follows, step_of, turn_of, turns_of, encoder_in, encoder, pair_mask, pair_changes, opposite}
use Rattle.rules.proofs.Bits.{line_lt, two_cases, sixteen, lines_ext, line_and, line_or, line_xor, line_zero, power_has, power_only}
use Rattle.rules.proofs.Density.{rises}

-- ---- a step is one of four
pub step_ind : (P : Turns → Type 0) → P turn_skipped → P turn_forward → P turn_backward → P no_turns → (a b a' b' : ℕ) → P (step_of a b a' b')
step_ind P s f k n a b a' b' = go (not (eqb a a') && not (eqb b b')) (follows a b a' b') (follows a' b' a b)
  where
    go : (x y z : Bool) → P (cond x turn_skipped (cond y turn_forward (cond z turn_backward no_turns)))
    go true y z = s
    go false true z = f
    go false false true = k
    go false false false = n

pub turn_ind : (P : Turns → Type 0) → P turn_skipped → P turn_forward → P turn_backward → P no_turns → (a b x y : ℕ) → P (turn_of a b x y)
unfolding turn_of
turn_ind P s f k n a b x y = step_ind P s f k n (line x a) (line x b) (line y a) (line y b)

-- ---- stretches
pub turns_eq : {x y : Turns} → x.position ≡ y.position → x.forward ≡ y.forward → x.backward ≡ y.backward → x.skipped ≡ y.skipped → x ≡ y
turns_eq p f b s = λ i. record { position = p i; forward = f i; backward = b i; skipped = s i }

pub add_none : (x : Turns) → add_turns x no_turns ≡ x
add_none x = turns_eq (+ℤ_idr x.position) (add-zero x.forward) (add-zero x.backward) (add-zero x.skipped)

pub none_add : (x : Turns) → add_turns no_turns x ≡ x
none_add x = turns_eq (+ℤ_idl x.position) (zero-add x.forward) (zero-add x.backward) (zero-add x.skipped)

pub add_assoc_turns : (x y z : Turns) → add_turns (add_turns x y) z ≡ add_turns x (add_turns y z)
add_assoc_turns x y z = turns_eq (+ℤ_assoc x.position y.position z.position) (add_assoc x.forward y.forward z.forward) (add_assoc x.backward y.backward z.backward) (add_assoc x.skipped y.skipped z.skipped)

-- two stretches side by side are the whole
pub turns_add : (s : ℕ → ℕ) (a b p m n : ℕ) → turns_of s a b p (m + n) ≡ add_turns (turns_of s a b p m) (turns_of s a b (p + m) n)
unfolding turns_of
turns_add s a b p m zero = ap (turns_of s a b p) (add-zero m) ∙ sym (add_none (turns_of s a b p m))
turns_add s a b p m (suc n) =
    ap (turns_of s a b p) (add-suc m n)
    ∙ ap₂ (λ (x : Turns) (y : Turns). add_turns x y) (turns_add s a b p m n) (ap₂ (λ (i j : ℕ). turn_of a b (s i) (s j)) (sym (add_assoc p m n)) (ap (λ (k : ℕ). p + k) (sym (add-suc m n)) ∙ sym (add_assoc p m (suc n))))
    ∙ add_assoc_turns (turns_of s a b p m) (turns_of s a b (p + m) n) (turn_of a b (s (p + m + n)) (s (p + m + suc n)))

-- ---- "Position is forward minus backward"
abbrev pub Balanced : Turns → Type 0
Balanced t = t.position ≡ pos t.forward -ℤ pos t.backward

-- (f − b) + (g − c) is (f + g) − (b + c)
between : (f b g c : ℤ) → (f -ℤ b) +ℤ (g -ℤ c) ≡ (f +ℤ g) -ℤ (b +ℤ c)
between f b g c =
    +ℤ_assoc f (neg_ℤ b) (g -ℤ c)
    ∙ ap (λ (z : ℤ). f +ℤ z) (sym (+ℤ_assoc (neg_ℤ b) g (neg_ℤ c)) ∙ ap (λ (z : ℤ). z +ℤ neg_ℤ c) (+ℤ_comm (neg_ℤ b) g) ∙ +ℤ_assoc g (neg_ℤ b) (neg_ℤ c))
    ∙ sym (+ℤ_assoc f g (neg_ℤ b +ℤ neg_ℤ c))
    ∙ ap (λ (z : ℤ). (f +ℤ g) +ℤ z) (sym (neg_ℤ-+ℤ b c))

pub balanced_add : (x y : Turns) → Balanced x → Balanced y → Balanced (add_turns x y)
balanced_add x y p q = ap₂ (λ (m n : ℤ). m +ℤ n) p q ∙ between (pos x.forward) (pos x.backward) (pos y.forward) (pos y.backward)

pub turns_balanced : (s : ℕ → ℕ) (a b p n : ℕ) → Balanced (turns_of s a b p n)
unfolding turns_of
turns_balanced s a b p zero = refl
turns_balanced s a b p (suc n) = balanced_add (turns_of s a b p n) (turn_of a b (s (p + n)) (s (p + suc n))) (turns_balanced s a b p n) (turn_ind Balanced refl refl refl refl a b (s (p + n)) (s (p + suc n)))

pub position_is : (s : ℕ → ℕ) (len a b : ℕ) → Balanced (encoder s len a b)
position_is s len a b = turns_balanced s a b 0 (len - 1)

-- ---- how many there are
abbrev pub steps : Turns → ℕ
steps t = t.forward + t.backward + t.skipped

pub turns_few : (s : ℕ → ℕ) (a b p n : ℕ) → steps (turns_of s a b p n) ≤ n
unfolding turns_of
turns_few s a b p zero = omega arith
turns_few s a b p (suc n) = omega (arith, turns_few s a b p n, turn_ind (λ t. steps t ≤ 1) (omega arith) (omega arith) (omega arith) (omega arith) a b (s (p + n)) (s (p + suc n)))

-- ---- lines a and b, and their mask
mask_left : (a b : ℕ) → line (pair_mask a b) a ≡ 1
mask_left a b = line_or (2 ^ a) (2 ^ b) a ∙ omega (arith, power_has a, line_lt (2 ^ b) a)

mask_right : (a b : ℕ) → line (pair_mask a b) b ≡ 1
mask_right a b = line_or (2 ^ a) (2 ^ b) b ∙ omega (arith, power_has b, line_lt (2 ^ a) b)

-- a line of a mask, in numbers that are the same under it
pub line_under : (m k x y : ℕ) → line m k ≡ 1 → bit_and x m ≡ bit_and y m → line x k ≡ line y k
line_under m k x y h e = omega (arith, line_and x m k, line_and y m k, ap (λ (z : ℕ). line z k) e, h, line_lt x k, line_lt y k)

-- the two lines of two numbers
abbrev pub SameLines : ℕ → ℕ → ℕ → ℕ → Type 0
SameLines a b x y = (line x a ≡ line y a) × (line x b ≡ line y b)

pub lines_under : (a b x y : ℕ) → bit_and x (pair_mask a b) ≡ bit_and y (pair_mask a b) → SameLines a b x y
lines_under a b x y e = (line_under (pair_mask a b) a x y (mask_left a b) e, line_under (pair_mask a b) b x y (mask_right a b) e)

-- and back: the mask has no third line
pub under_lines : (a b x y : ℕ) → SameLines a b x y → bit_and x (pair_mask a b) ≡ bit_and y (pair_mask a b)
under_lines a b x y e = lines_ext _ _ (λ k. line_and x (pair_mask a b) k ∙ each k ∙ sym (line_and y (pair_mask a b) k))
  where
    each : (k : ℕ) → min (line x k) (line (pair_mask a b) k) ≡ min (line y k) (line (pair_mask a b) k)
    each k = go (ℕ_discrete k a) (ℕ_discrete k b)
      where
        off : (k ≡ a → ⊥) → (k ≡ b → ⊥) → line (pair_mask a b) k ≡ 0
        off p q = line_or (2 ^ a) (2 ^ b) k ∙ ap₂ max (clear a p) (clear b q)
          where
            clear : (j : ℕ) → (k ≡ j → ⊥) → line (2 ^ j) k ≡ 0
            clear j n = two_cases (λ (z : ℕ). line (2 ^ j) k ≡ z → line (2 ^ j) k ≡ 0) (λ e. e) (λ e. absurd (n (power_only j k e))) (line (2 ^ j) k) (line_lt (2 ^ j) k) refl

        go : Dec (k ≡ a) → Dec (k ≡ b) → min (line x k) (line (pair_mask a b) k) ≡ min (line y k) (line (pair_mask a b) k)
        go (yes p) d = ap (λ (z : ℕ). min z (line (pair_mask a b) k)) (ap (line x) p ∙ e.0 ∙ ap (line y) (sym p))
        go (no p) (yes q) = ap (λ (z : ℕ). min z (line (pair_mask a b) k)) (ap (line x) q ∙ e.1 ∙ ap (line y) (sym q))
        go (no p) (no q) = ap (λ (z : ℕ). min (line x k) z) (off p q) ∙ omega arith ∙ ap (λ (z : ℕ). min (line y k) z) (sym (off p q))

-- ---- what a step is, by the lines
same_turn : (a b x y x' y' : ℕ) → SameLines a b x x' → SameLines a b y y' → turn_of a b x y ≡ turn_of a b x' y'
unfolding turn_of
same_turn a b x y x' y' e f = ap₂ (λ (c d : ℕ). step_of c d (line y a) (line y b)) e.0 e.1 ∙ ap₂ (λ (c d : ℕ). step_of (line x' a) (line x' b) c d) f.0 f.1

-- something is counted exactly where a line moves
step_count : (a b a' b' : ℕ) → a < 2 → b < 2 → a' < 2 → b' < 2 → steps (step_of a b a' b') ≡ cond (eqb a a' && eqb b b') 0 1
step_count =
    sixteen (λ (a b a' b' : ℕ). steps (step_of a b a' b') ≡ cond (eqb a a' && eqb b b') 0 1)
    refl refl refl refl refl refl refl refl refl refl refl refl refl refl refl refl

-- and where none does, there is no turn
step_none : (a b a' b' : ℕ) → a < 2 → b < 2 → a' < 2 → b' < 2 → cond (eqb a a' && eqb b b') (step_of a b a' b') no_turns ≡ no_turns
step_none =
    sixteen (λ (a b a' b' : ℕ). cond (eqb a a' && eqb b b') (step_of a b a' b') no_turns ≡ no_turns)
    refl refl refl refl refl refl refl refl refl refl refl refl refl refl refl refl

-- the other way round it is the opposite
step_back : (a b a' b' : ℕ) → a < 2 → b < 2 → a' < 2 → b' < 2 → step_of a' b' a b ≡ opposite (step_of a b a' b')
step_back =
    sixteen (λ (a b a' b' : ℕ). step_of a' b' a b ≡ opposite (step_of a b a' b'))
    refl refl refl refl refl refl refl refl refl refl refl refl refl refl refl refl

pub turn_same : (a b x y : ℕ) → SameLines a b x y → turn_of a b x y ≡ no_turns
unfolding turn_of
turn_same a b x y e =
    sym (rw (eq-eqb _ _ e.0) (rw (eq-eqb _ _ e.1) refl))
    ∙ step_none (line x a) (line x b) (line y a) (line y b) (line_lt x a) (line_lt x b) (line_lt y a) (line_lt y b)

pub turn_back : (a b x y : ℕ) → turn_of a b y x ≡ opposite (turn_of a b x y)
unfolding turn_of
turn_back a b x y = step_back (line x a) (line x b) (line y a) (line y b) (line_lt x a) (line_lt x b) (line_lt y a) (line_lt y b)

-- ---- "the three counts add up to the places at which A or B changes"
turn_count : (a b x y : ℕ) → steps (turn_of a b x y) ≡ differs (bit_and y (pair_mask a b)) (bit_and x (pair_mask a b))
unfolding turn_of
turn_count a b x y =
    step_count (line x a) (line x b) (line y a) (line y b) (line_lt x a) (line_lt x b) (line_lt y a) (line_lt y b)
    ∙ ap (λ (t : Bool). cond t 0 1) (go (ℕ_discrete (bit_and y (pair_mask a b)) (bit_and x (pair_mask a b))))
  where
    go : Dec (bit_and y (pair_mask a b) ≡ bit_and x (pair_mask a b)) → (eqb (line x a) (line y a) && eqb (line x b) (line y b)) ≡ eqb (bit_and y (pair_mask a b)) (bit_and x (pair_mask a b))
    go (yes e) =
        let same = lines_under a b x y (sym e) in
        ap₂ (λ (p q : Bool). p && q) (eq-eqb _ _ same.0) (eq-eqb _ _ same.1) ∙ sym (eq-eqb _ _ e)
    go (no n) = both (eqb (line x a) (line y a)) (eqb (line x b) (line y b)) refl refl ∙ sym (ne_eqb _ _ n)
      where
        both : (p q : Bool) → eqb (line x a) (line y a) ≡ p → eqb (line x b) (line y b) ≡ q → (p && q) ≡ false
        both false q ep eq = refl
        both true false ep eq = refl
        both true true ep eq = absurd (n (sym (under_lines a b x y (eqb-true _ _ ep, eqb-true _ _ eq))))

counts_go : (s : ℕ → ℕ) (a b p n : ℕ) → steps (turns_of s a b p n) ≡ count_of (cut_lines (pair_mask a b) s) p n
unfolding turns_of count_of
counts_go s a b p zero = refl
counts_go s a b p (suc n) =
    omega (arith, counts_go s a b p n, turn_count a b (s (p + n)) (s (p + suc n)) ∙ ap (λ (i : ℕ). differs (cut_to (pair_mask a b) (s (p + suc n))) (cut_to (pair_mask a b) (s i))) at)
  where
    at : p + n ≡ p + suc n - 1
    at = omega arith

pub counts_are : (s : ℕ → ℕ) (len a b : ℕ) → steps (encoder s len a b) ≡ pair_changes s len a b
counts_are s len a b = counts_go s a b 0 (len - 1) ∙ ap (count_of (cut_lines (pair_mask a b) s) 0) (omega arith)

-- ---- what is seen of a run
-- lines a and b of two runs, at the n places behind p and at p
pub turns_same : (s t : ℕ → ℕ) (a b p q n : ℕ) → ((i : ℕ) → i ≤ n → SameLines a b (s (p + i)) (t (q + i))) → turns_of s a b p n ≡ turns_of t a b q n
unfolding turns_of
turns_same s t a b p q zero h = refl
turns_same s t a b p q (suc n) h =
    ap₂ (λ (x y : Turns). add_turns x y) (turns_same s t a b p q n (λ i l. h i (omega arith))) (same_turn a b (s (p + n)) (s (p + suc n)) (t (q + n)) (t (q + suc n)) (h n (omega arith)) (h (suc n) (omega arith)))

-- stored samples alone matter, and of them lines a and b
pub encoder_same : (s t : ℕ → ℕ) (len a b : ℕ) → ((i : ℕ) → i < len → SameLines a b (s i) (t i)) → encoder s len a b ≡ encoder t len a b
unfolding turns_of
encoder_same s t zero a b h = refl
encoder_same s t (suc len) a b h =
    turns_same s t a b 0 0 (suc len - 1)
    (λ i l.
    let here = h i (omega (arith, l)) in (
      ap (λ (j : ℕ). line (s j) a) (zero-add i) ∙ here.0 ∙ ap (λ (j : ℕ). line (t j) a) (sym (zero-add i)),
      ap (λ (j : ℕ). line (s j) b) (zero-add i) ∙ here.1 ∙ ap (λ (j : ℕ). line (t j) b) (sym (zero-add i)),
    ))

-- a viewer of chosen lines, a and b among them
pub lines_chosen : (v a b x y : ℕ) → Within (pair_mask a b) v → cut_to v x ≡ cut_to v y → SameLines a b x y
lines_chosen v a b x y w e = (line_under v a x y (chosen a (mask_left a b)) e, line_under v b x y (chosen b (mask_right a b)) e)
  where
    chosen : (k : ℕ) → line (pair_mask a b) k ≡ 1 → line v k ≡ 1
    chosen k h = omega (arith, line_and (pair_mask a b) v k, ap (λ (z : ℕ). line z k) w, h, line_lt v k)

-- ---- where no masked line changes, nothing turns
differ_none : (x y : ℕ) → x < 2 → y < 2 → differ x y ≡ 0 → x ≡ y
differ_none x y hx hy =
    two_cases (λ (x : ℕ). differ x y ≡ 0 → x ≡ y) (λ e. sym e) (two_cases (λ (y : ℕ). differ 1 y ≡ 0 → 1 ≡ y) (λ e. e) (λ e. refl) y hy) x hx

-- a masked line that does not change
unchanged : (m k x y : ℕ) → line m k ≡ 1 → bit_and (bit_xor y x) m ≡ 0 → line x k ≡ line y k
unchanged m k x y h e = sym (differ_none (line y k) (line x k) (line_lt y k) (line_lt x k) (sym (line_xor y x k) ∙ still))
  where
    still : line (bit_xor y x) k ≡ 0
    still = omega (arith, line_and (bit_xor y x) m k, ap (λ (z : ℕ). line z k) e, line_zero k, h, line_lt (bit_xor y x) k)

quiet_lines : (s : ℕ → ℕ) (a b i : ℕ) → changed s (pair_mask a b) i ≡ false → SameLines a b (s (i - 1)) (s i)
quiet_lines s a b i e = (unchanged (pair_mask a b) a (s (i - 1)) (s i) (mask_left a b) none, unchanged (pair_mask a b) b (s (i - 1)) (s i) (mask_right a b) none)
  where
    back : (t : Bool) → not t ≡ false → t ≡ true
    back true e = refl
    back false e = sym e

    none : bit_and (changes s i) (pair_mask a b) ≡ 0
    none = eqb-true _ _ (back (eqb (bit_and (changes s i) (pair_mask a b)) 0) e)

pub turns_quiet : (s : ℕ → ℕ) (a b p n : ℕ) → ((i : ℕ) → p < i → i ≤ p + n → changed s (pair_mask a b) i ≡ false) → turns_of s a b p n ≡ no_turns
unfolding turns_of
turns_quiet s a b p zero h = refl
turns_quiet s a b p (suc n) h =
    ap₂ (λ (x y : Turns). add_turns x y) (turns_quiet s a b p n (λ i k l. h i k (omega arith)))
    (ap (λ (i : ℕ). turn_of a b (s i) (s (p + suc n))) at ∙ turn_same a b (s (p + suc n - 1)) (s (p + suc n)) (quiet_lines s a b (p + suc n) (h (p + suc n) (omega arith) (omega arith))))
  where
    at : p + n ≡ p + suc n - 1
    at = omega arith

-- ---- "Reading the same samples in reverse order gives the opposite position."
opposite_add : (x y : Turns) → opposite (add_turns x y) ≡ add_turns (opposite y) (opposite x)
opposite_add x y =
    turns_eq (neg_ℤ-+ℤ x.position y.position ∙ +ℤ_comm (neg_ℤ x.position) (neg_ℤ y.position))
    (add_comm x.backward y.backward) (add_comm x.forward y.forward) (add_comm x.skipped y.skipped)

-- t has at the n places behind q, and at q, what s has from p + n down to p
pub turns_reversed : (s t : ℕ → ℕ) (a b p q n : ℕ) → ((i : ℕ) → i ≤ n → t (q + i) ≡ s (p + (n - i))) → turns_of t a b q n ≡ opposite (turns_of s a b p n)
unfolding turns_of
turns_reversed s t a b p q zero h = refl
turns_reversed s t a b p q (suc n) h =
    ap₂ (λ (x y : Turns). add_turns x y)
    (turns_reversed s t a b (p + 1) q n (λ i l. h i (omega (arith, l)) ∙ ap s (omega (arith, l))))
    (ap₂ (turn_of a b) (h n (omega arith) ∙ ap s (omega arith)) (h (suc n) (omega arith) ∙ ap s (omega arith)) ∙ turn_back a b (s p) (s (p + 1)))
    ∙ sym (opposite_add (turn_of a b (s p) (s (p + 1))) (turns_of s a b (p + 1) n))
    ∙ ap opposite (sym first)
  where
    -- the first turn, and the others
    first : turns_of s a b p (suc n) ≡ add_turns (turn_of a b (s p) (s (p + 1))) (turns_of s a b (p + 1) n)
    first = ap (turns_of s a b p) at ∙ turns_add s a b p 1 n ∙ ap (λ (x : Turns). add_turns x (turns_of s a b (p + 1) n)) one
      where
        at : suc n ≡ 1 + n
        at = omega arith

        one : turns_of s a b p 1 ≡ turn_of a b (s p) (s (p + 1))
        one = none_add (turn_of a b (s (p + 0)) (s (p + 1))) ∙ ap (λ (i : ℕ). turn_of a b (s i) (s (p + 1))) (add-zero p)

pub reversed : (s t : ℕ → ℕ) (len a b : ℕ) → ((i : ℕ) → i < len → t i ≡ s (len - 1 - i)) → encoder t len a b ≡ opposite (encoder s len a b)
unfolding turns_of
reversed s t zero a b h = refl
reversed s t (suc n) a b h = turns_reversed s t a b 0 0 (suc n - 1) (λ i l. ap t (zero-add i) ∙ h i (omega (arith, l)) ∙ ap s (sym (zero-add (suc n - 1 - i))))

-- ---- any cutting of a run: each part with its border
pub parts_turn : (s : ℕ → ℕ) (a b x y : ℕ) (cs : List ℕ) → Rising x (y ∷ cs) → parts_by no_turns add_turns (encoder_in s a b) x (y ∷ cs) ≡ encoder_in s a b x (cut_end y cs)
parts_turn s a b x y [] r = add_none (encoder_in s a b x y)
parts_turn s a b x y (z ∷ cs) r =
    ap (add_turns (encoder_in s a b x y)) (parts_turn s a b y z cs r.1 ∙ ap (λ (i : ℕ). turns_of s a b i (cut_end z cs - 1 - (y - 1))) border)
    ∙ sym (turns_add s a b (x - 1) (y - 1 - (x - 1)) (cut_end z cs - 1 - (y - 1)))
    ∙ ap (turns_of s a b (x - 1)) count
  where
    border : y - 1 ≡ x - 1 + (y - 1 - (x - 1))
    border = omega (arith, r.0)

    count : y - 1 - (x - 1) + (cut_end z cs - 1 - (y - 1)) ≡ cut_end z cs - 1 - (x - 1)
    count = omega (arith, r.0, r.1.0, rises z cs r.1.1)

-- the whole run, cut anywhere
pub cut_turns : (s : ℕ → ℕ) (len a b y : ℕ) (cs : List ℕ) → Rising 0 (y ∷ cs) → cut_end y cs ≡ len → parts_by no_turns add_turns (encoder_in s a b) 0 (y ∷ cs) ≡ encoder s len a b
cut_turns s len a b y cs r e = parts_turn s a b 0 y cs r ∙ ap (turns_of s a b 0) (omega (arith, e))
