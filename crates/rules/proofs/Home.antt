-- "after forty trial turns forward and back the log model must have come home": a run that reads the same from its end is at 0, and so are trial turns. 02: CR 6.
use Prim.Native.Nat.{ℕ, zero, suc, ◌-◌, ◌<◌}
use mathlib.Core.Path.{◌≡◌, refl, sym, ap, ap₂, ◌∙◌}
use mathlib.Core.List.{List, [], ◌∷◌, ◌++◌, append_assoc, append-nil, reverse, reverse-cons, reverse-append, reverse-reverse}
use native.Mathlib.Nat.{not-suc-le-zero}
use native.Mathlib.Decide.{dec_lt}
use native.Mathlib.Omega.{arith}
use lib.IntN.{ℤ, pos, negsuc, neg_ℤ}
use lib.ListN.{length, get_or, length-reverse, get_or-append}
use lib.Seq.{get_or-append_seam}
use Rattle.rules.specs.Encoder.{Turns, encoder, opposite, trials}
use Rattle.rules.proofs.Encoder.{reversed}

-- ---- a list read from its end
pub at_reverse : (run : List ℕ) (i : ℕ) → i < length run → get_or (reverse run) i 0 ≡ get_or run (length run - 1 - i) 0
at_reverse [] i h = absurd (not-suc-le-zero h)
at_reverse (x ∷ xs) i h = ap (λ (l : List ℕ). get_or l i 0) (reverse-cons x xs) ∙ go (dec_lt i (length xs)) (λ k. at_reverse xs i k)
  where
    go : Dec (i < length xs) → (i < length xs → get_or (reverse xs) i 0 ≡ get_or xs (length xs - 1 - i) 0) → get_or (reverse xs ++ (x ∷ [])) i 0 ≡ get_or (x ∷ xs) (suc (length xs) - 1 - i) 0
    go (yes k) rest =
        get_or-append (reverse xs) (x ∷ []) 0 i (omega (arith, length-reverse xs))
        ∙ rest k
        ∙ ap (λ (j : ℕ). get_or (x ∷ xs) j 0) next
      where
        next : suc (length xs - 1 - i) ≡ suc (length xs) - 1 - i
        next = omega arith
    go (no k) rest =
        ap (λ (j : ℕ). get_or (reverse xs ++ (x ∷ [])) j 0) last
        ∙ get_or-append_seam (reverse xs) x [] 0
        ∙ ap (λ (j : ℕ). get_or (x ∷ xs) j 0) first
      where
        last : i ≡ length (reverse xs)
        last = omega (arith, length-reverse xs)

        first : 0 ≡ suc (length xs) - 1 - i
        first = omega arith

-- the answers of a run and of its reverse
pub reverse_turns : (run : List ℕ) (a b : ℕ) → encoder (λ i. get_or (reverse run) i 0) (length (reverse run)) a b ≡ opposite (encoder (λ i. get_or run i 0) (length run) a b)
reverse_turns run a b =
    ap (λ (n : ℕ). encoder (λ i. get_or (reverse run) i 0) n a b) (length-reverse run)
    ∙ reversed (λ i. get_or run i 0) (λ i. get_or (reverse run) i 0) (length run) a b (at_reverse run)

-- ---- coming home
-- at 0, with as many steps forward as backward
pub record Home (t : Turns) : Type 0 where
  pub position : t.position ≡ pos 0
  pub steps : t.forward ≡ t.backward

own_opposite : (z : ℤ) → z ≡ neg_ℤ z → z ≡ pos 0
own_opposite (pos zero) e = refl
own_opposite (pos (suc n)) e = cc
own_opposite (negsuc n) e = cc

pub same_home : (run : List ℕ) (a b : ℕ) → reverse run ≡ run → Home (encoder (λ i. get_or run i 0) (length run) a b)
same_home run a b e = record { position = own_opposite _ (ap (λ (t : Turns). t.position) same); steps = ap (λ (t : Turns). t.forward) same }
  where
    same : encoder (λ i. get_or run i 0) (length run) a b ≡ opposite (encoder (λ i. get_or run i 0) (length run) a b)
    same = ap (λ (l : List ℕ). encoder (λ i. get_or l i 0) (length l) a b) (sym e) ∙ reverse_turns run a b

-- ---- trial turns read the same from their end
module _ (run : List ℕ) where
  abbrev there_and_back : List ℕ
  there_and_back = run ++ reverse run

  back_and_there : reverse there_and_back ≡ there_and_back
  back_and_there = reverse-append run (reverse run) ∙ ap (λ (l : List ℕ). l ++ reverse run) (reverse-reverse run)

  -- one more in front is one more behind
  one_more : (n : ℕ) → there_and_back ++ trials n run ≡ trials n run ++ there_and_back
  unfolding trials
  one_more zero = append-nil there_and_back
  one_more (suc n) = ap (λ (l : List ℕ). there_and_back ++ l) (one_more n) ∙ sym (append_assoc there_and_back (trials n run) there_and_back)

  trials_same : (n : ℕ) → reverse (trials n run) ≡ trials n run
  unfolding trials
  trials_same zero = refl
  trials_same (suc n) = reverse-append there_and_back (trials n run) ∙ ap₂ (λ (k l : List ℕ). k ++ l) (trials_same n) back_and_there ∙ sym (one_more n)

pub trials_home : (run : List ℕ) (n a b : ℕ) → Home (encoder (λ i. get_or (trials n run) i 0) (length (trials n run)) a b)
trials_home run n a b = same_home (trials n run) a b (trials_same run n)
