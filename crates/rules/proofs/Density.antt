-- "Over any cutting of a stored range into parts of at least one sample, the parts and their borders add up to the whole." 02: CR 5.
-- And the count of a summary of stored samples is the density, since it is never cut.
use Prim.Native.Nat.{ℕ, ◌+◌, ◌≤◌, ◌<◌, min}
use mathlib.Core.Path.{◌≡◌, refl, sym, ap, ◌∙◌}
use mathlib.Core.List.{List, [], ◌∷◌}
use native.Mathlib.Decide.{dec_lt}
use native.Mathlib.Omega.{arith}
use borrow.Author.Tests.{lt-ltb, le-ltb}
use Rattle.rules.specs.Node.{changes_in, most_count, node_of}
use Rattle.rules.specs.Search.{summary, count_in, density}
use Rattle.rules.specs.Cutting.{Rising, cut_end, parts_sum, borders_sum}
use Rattle.rules.proofs.Node.{changes_add, changes_none, changes_cap}

-- ---- cuttings
pub rises : (c : ℕ) (cs : List ℕ) → Rising c cs → c ≤ cut_end c cs
rises c [] r = omega arith
rises c (d ∷ cs) r = omega (arith, r.0, rises d cs r.1)

-- for any count of parts
pub parts_add : (s : ℕ → ℕ) (a c : ℕ) (cs : List ℕ) → Rising a (c ∷ cs) → parts_sum (changes_in s) a (c ∷ cs) + borders_sum s (c ∷ cs) ≡ changes_in s a (cut_end c cs)
parts_add s a c [] r = omega arith
parts_add s a c (d ∷ cs) r = omega (arith, parts_add s c d cs r.1, changes_add s a c (cut_end d cs) r.0 (omega (arith, r.1.0, rises d cs r.1.1)))

-- what a call gives of each part of a stored range
parts_same : (f g : ℕ → ℕ → ℕ) (len : ℕ) → ((a b : ℕ) → b ≤ len → f a b ≡ g a b) → (a : ℕ) (cs : List ℕ) → Rising a cs → cut_end a cs ≤ len → parts_sum f a cs ≡ parts_sum g a cs
parts_same f g len h a [] r k = refl
parts_same f g len h a (c ∷ cs) r k = omega (arith, h a c (omega (arith, rises c cs r.1)), parts_same f g len h c cs r.1 k)

pub densities_add : (s : ℕ → ℕ) (len a c : ℕ) (cs : List ℕ) → Rising a (c ∷ cs) → cut_end c cs ≤ len → parts_sum (density s len) a (c ∷ cs) + borders_sum s (c ∷ cs) ≡ density s len a (cut_end c cs)
densities_add s len a c cs r k = ap (λ (x : ℕ). x + borders_sum s (c ∷ cs)) (parts_same (density s len) (changes_in s) len stored a (c ∷ cs) r k) ∙ parts_add s a c cs r ∙ sym (stored a (cut_end c cs) k)
  where
    stored : (a b : ℕ) → b ≤ len → density s len a b ≡ changes_in s a b
    stored a b h = ap (changes_in s a) upto
      where
        upto : min b len ≡ b
        upto = omega arith

-- ---- summaries
pub summary_count : (s : ℕ → ℕ) (len a b : ℕ) → len ≤ most_count → count_in (summary s len a b) ≡ density s len a b
unfolding node_of
summary_count s len a b h = go (dec_lt a (min b len))
  where
    go : Dec (a < min b len) → count_in (summary s len a b) ≡ density s len a b
    go (yes k) = rw (lt-ltb a (min b len) k) (changes_cap s a (min b len) k (omega arith))
    go (no k) = rw (le-ltb a (min b len) (omega arith)) (sym (changes_none s a (min b len) (omega arith)))
