-- Stretches told to a list one after the other, as far as it reaches.
use mathlib.Core.Path.{◌≡◌, refl, sym, ap, ap₂, ◌∙◌}
use mathlib.Core.Bool.{Bool, true, false, cond}
use mathlib.Core.List.{List, [], ◌∷◌, ◌++◌}
use Prim.Native.Nat.{ℕ, suc, ◌+◌, ◌*◌, ◌≤◌, ◌<◌}
use native.Mathlib.Decide.{dec_lt}
use native.Mathlib.Omega.{arith}
use lib.Dec.{ltb}
use lib.ListN.{length, set, drop}
use lib.Seq.{take_all}
use borrow.Author.Tests.{lt-ltb, le-ltb}
use Rattle.rules.specs.ShelfCalls.{written_to}
use Rattle.rules.specs.Stretches.{Stretch, pairs_of}
use Rattle.rules.proofs.Stretches.{pairs_length}
use Rattle.shelf_stretches.specs.Told.{with_pair, told_to}

-- a pair behind the first
pair_past : (m f c a b : ℕ) (l : List ℕ) → with_pair (suc m) f c (a ∷ b ∷ l) ≡ a ∷ b ∷ with_pair m f c l
pair_past m f c a b l =
    ap₂ (λ (i j : ℕ). cond (ltb j (length (a ∷ b ∷ l))) (set (set (a ∷ b ∷ l) i f) j c) (a ∷ b ∷ l)) first second
    ∙ ap (λ (t : Bool). cond t (a ∷ b ∷ set (set l (2 * m) f) (2 * m + 1) c) (a ∷ b ∷ l)) (same (dec_lt (2 * m + 1) (length l)))
    ∙ out (ltb (2 * m + 1) (length l))
  where
    first : 2 * suc m ≡ suc (suc (2 * m))
    first = omega arith

    second : 2 * suc m + 1 ≡ suc (suc (2 * m + 1))
    second = omega arith

    same : Dec (2 * m + 1 < length l) → ltb (suc (suc (2 * m + 1))) (length (a ∷ b ∷ l)) ≡ ltb (2 * m + 1) (length l)
    same (yes h) = lt-ltb (suc (suc (2 * m + 1))) (length (a ∷ b ∷ l)) (omega (arith, h)) ∙ sym (lt-ltb (2 * m + 1) (length l) h)
    same (no h) = le-ltb (suc (suc (2 * m + 1))) (length (a ∷ b ∷ l)) (omega (arith, h)) ∙ sym (le-ltb (2 * m + 1) (length l) (omega (arith, h)))

    out : (t : Bool) → cond t (a ∷ b ∷ set (set l (2 * m) f) (2 * m + 1) c) (a ∷ b ∷ l) ≡ a ∷ b ∷ cond t (set (set l (2 * m) f) (2 * m + 1) c) l
    out true = refl
    out false = refl

-- no pair where there is no room for one
pair_none : (m f c : ℕ) (l : List ℕ) → length l ≤ 2 * m + 1 → with_pair m f c l ≡ l
pair_none m f c l h = ap (λ (t : Bool). cond t (set (set l (2 * m) f) (2 * m + 1) c) l) (le-ltb (2 * m + 1) (length l) h)

-- one stretch more
pub told_next : (done : List Stretch) (s : Stretch) (l : List ℕ) → told_to (done ++ (s ∷ [])) l ≡ with_pair (length done) s.first s.count (told_to done l)
unfolding told_to
told_next [] s [] = refl
told_next [] s (x ∷ []) = refl
told_next [] s (x ∷ y ∷ l) = sym (ap (λ (t : Bool). cond t (s.first ∷ s.count ∷ l) (x ∷ y ∷ l)) (lt-ltb 1 (length (x ∷ y ∷ l)) (omega arith)))
told_next (d ∷ done) s [] = sym (pair_none (length (d ∷ done)) s.first s.count [] (omega arith))
told_next (d ∷ done) s (x ∷ []) = sym (pair_none (length (d ∷ done)) s.first s.count (x ∷ []) (omega arith))
told_next (d ∷ done) s (x ∷ y ∷ l) =
    ap (λ (r : List ℕ). d.first ∷ d.count ∷ r) (told_next done s l) ∙ sym (pair_past (length done) s.first s.count d.first d.count (told_to done l))

pub told_length : (ss : List Stretch) (l : List ℕ) → length (told_to ss l) ≡ length l
unfolding told_to
told_length [] l = refl
told_length (s ∷ ss) [] = refl
told_length (s ∷ ss) (x ∷ []) = refl
told_length (s ∷ ss) (x ∷ y ∷ l) = omega (arith, told_length ss l)

-- a list with room has them all
told_front : (ss : List Stretch) (l : List ℕ) → 2 * length ss ≤ length l → told_to ss l ≡ pairs_of ss ++ drop (2 * length ss) l
unfolding told_to pairs_of
told_front [] l h = refl
told_front (s ∷ ss) [] h = absurd (omega arith)
told_front (s ∷ ss) (x ∷ []) h = absurd (omega arith)
told_front (s ∷ ss) (x ∷ y ∷ l) h =
    ap (λ (r : List ℕ). s.first ∷ s.count ∷ r) (told_front ss l (omega arith))
    ∙ ap (λ (k : ℕ). s.first ∷ s.count ∷ (pairs_of ss ++ drop k (x ∷ y ∷ l))) past
  where
    past : suc (suc (2 * length ss)) ≡ 2 * length (s ∷ ss)
    past = omega arith

pub told_all : (ss : List Stretch) (l : List ℕ) → 2 * length ss ≤ length l → told_to ss l ≡ written_to (2 * length ss) (pairs_of ss) l
told_all ss l h = told_front ss l h ∙ ap (λ (r : List ℕ). r ++ drop (2 * length ss) l) (sym (take_all (2 * length ss) (pairs_of ss) (omega (arith, pairs_length ss))))
