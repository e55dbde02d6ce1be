-- The first place on a search's way, in either direction: there is one answer, it is the computed one, and it depends on nothing but the places asked. 02: CR 9.
use mathlib.Core.Path.{◌≡◌, refl, sym, ap, ◌∙◌}
use mathlib.Core.Bool.{Bool, true, false, false≢true}
use Rattle.std.specs.Prelude.{Option, None, Some}
use Prim.Native.Nat.{ℕ, ◌≤◌, ◌<◌}
use native.Mathlib.Decide.{dec_lt}
use native.Mathlib.Omega.{arith}
use Rattle.rules.specs.Search.{next_at, previous_at}
use Rattle.rules.specs.Unknown.{search_at, Asked, Sooner, Nearest}
use Rattle.rules.proofs.Search.{next_some, next_none, previous_some, previous_none}

-- ---- places on the way
pub not_both : (back : Bool) (i j : ℕ) → Sooner back i j → Sooner back j i → ⊥
not_both true i j h k = omega arith
not_both false i j h k = omega arith

pub asked_least : (back : Bool) (len from i : ℕ) → Asked back len from i → 1 ≤ i
asked_least true len from i a = a.0
asked_least false len from i a = omega (arith, a.0)

pub asked_most : (back : Bool) (len from i : ℕ) → Asked back len from i → i < len
asked_most true len from i a = a.2
asked_most false len from i a = a.1

-- of two places one comes first, or they are one
pub data Order (back : Bool) (i j : ℕ) : Type 0 where
  first : Sooner back i j → Order back i j
  same : i ≡ j → Order back i j
  second : Sooner back j i → Order back i j

pub order : (back : Bool) (i j : ℕ) → Order back i j
order back i j = go back (dec_lt i j) (dec_lt j i)
  where
    go : (b : Bool) → Dec (i < j) → Dec (j < i) → Order b i j
    go true (yes h) k = second h
    go true (no h) (yes k) = first k
    go true (no h) (no k) = same (omega arith)
    go false (yes h) k = first h
    go false (no h) (yes k) = second k
    go false (no h) (no k) = same (omega arith)

-- ---- there is one answer
pub nearest_one : (back : Bool) (P : ℕ → Type 0) (len from : ℕ) (a b : Option ℕ) → Nearest back P len from a → Nearest back P len from b → a ≡ b
unfolding Nearest
nearest_one back P len from None None h k = refl
nearest_one back P len from None (Some j) h k = absurd (h j k.0 k.1)
nearest_one back P len from (Some i) None h k = absurd (k i h.0 h.1)
nearest_one back P len from (Some i) (Some j) h k = go (order back i j)
  where
    go : Order back i j → Some i ≡ Some j
    go (first x) = absurd (k.2 i h.0 x h.1)
    go (same e) = ap (λ (x : ℕ). Some x) e
    go (second x) = absurd (h.2 j k.0 x k.1)

-- where two properties agree at the places asked, an answer for one is an answer for the other
pub nearest_as : (back : Bool) (P Q : ℕ → Type 0) (len from : ℕ) → ((i : ℕ) → Asked back len from i → P i → Q i) → ((i : ℕ) → Asked back len from i → Q i → P i)
    → (a : Option ℕ) → Nearest back P len from a → Nearest back Q len from a
unfolding Nearest
nearest_as back P Q len from to of None h = λ i a q. h i a (of i a q)
nearest_as back P Q len from to of (Some i) h = (h.0, to i h.0 h.1, λ j a x q. h.2 j a x (of j a q))

-- ---- and it is the computed one
abbrev pub Holds : (ℕ → Bool) → ℕ → Type 0
Holds test i = test i ≡ true

not_held : {b : Bool} → b ≡ false → b ≡ true → ⊥
not_held e f = false≢true (sym e ∙ f)

pub search_nearest : (back : Bool) (test : ℕ → Bool) (len from : ℕ) → Nearest back (Holds test) len from (search_at back test len from)
unfolding Nearest
search_nearest true test len from = go (previous_at test len from) refl
  where
    go : (a : Option ℕ) → previous_at test len from ≡ a → Nearest true (Holds test) len from a
    go None e = λ i a h. not_held ((previous_none test len from).0 e i a.0 a.1 a.2) h
    go (Some i) e = let f = previous_some test len from i e in ((f.above, f.upto, f.below), f.holds, λ j a x h. not_held (f.most j x a.1 a.2) h)
search_nearest false test len from = go (next_at test len from) refl
  where
    go : (a : Option ℕ) → next_at test len from ≡ a → Nearest false (Holds test) len from a
    go None e = λ i a h. not_held ((next_none test len from).0 e i a.0 a.1) h
    go (Some i) e = let f = next_some test len from i e in ((f.after, f.below), f.holds, λ j a x h. not_held (f.least j a.0 x) h)

-- an answer that is right is the computed one
pub is_search : (back : Bool) (test : ℕ → Bool) (len from : ℕ) (a : Option ℕ) → Nearest back (Holds test) len from a → a ≡ search_at back test len from
is_search back test len from a h = nearest_one back (Holds test) len from a (search_at back test len from) h (search_nearest back test len from)

-- tests that agree at the places asked find the same
pub search_same : (back : Bool) (p q : ℕ → Bool) (len from : ℕ) → ((i : ℕ) → 1 ≤ i → i < len → p i ≡ q i) → search_at back p len from ≡ search_at back q len from
search_same back p q len from e =
    is_search back q len from (search_at back p len from)
    (nearest_as back (Holds p) (Holds q) len from (λ i a h. sym (agrees i a) ∙ h) (λ i a h. agrees i a ∙ h) (search_at back p len from) (search_nearest back p len from))
  where
    agrees : (i : ℕ) → Asked back len from i → p i ≡ q i
    agrees i a = e i (asked_least back len from i a) (asked_most back len from i a)
