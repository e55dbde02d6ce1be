-- Whatever the call answers is 02's density of the run, and these add up.
use mathlib.Core.Path.{◌≡◌, sym, ap, ap₂, ◌∙◌}
use mathlib.Core.List.{List, [], ◌∷◌}
use Prim.Native.Nat.{ℕ, ◌+◌, ◌≤◌, ◌<◌}
use native.Mathlib.Omega.{arith}
use lib.ListN.{length}
use Rattle.rules.specs.Search.{density}
use Rattle.rules.specs.Cutting.{Rising, cut_end, parts_sum, borders_sum}
use Rattle.rules.proofs.Density.{densities_add}
use Rattle.std.specs.Prelude.{Ok}
use Rattle.claim_captures.specs.Words.{at, AddUp}
use Rattle.claim_captures.specs.Claim.{DensitiesAdd}
use Rattle.claim_captures.proofs.Answers.{answers}
use Rattle.claim_captures.proofs.Alike.{given_same}

module _ (run : List ℕ) (part : ℕ → ℕ → ℕ) (is : (x y : ℕ) → x < y → y ≤ length run → part x y ≡ density (at run) (length run) x y) where
  -- each part of a cutting is a stored range
  parts_are : (a first : ℕ) (rest : List ℕ) → Rising a (first ∷ rest) → cut_end first rest ≤ length run
      → (parts_sum part a (first ∷ rest) ≡ parts_sum (density (at run) (length run)) a (first ∷ rest)) × (first ≤ cut_end first rest)
  parts_are a first [] r h = (ap (λ (n : ℕ). n + 0) (is a first r.0 h), omega arith)
  parts_are a first (next ∷ rest) r h =
      let more = parts_are first next rest r.1 h in
      (ap₂ (λ (x y : ℕ). x + y) (is a first r.0 (omega (arith, r.1.0, more.1))) more.0, omega (arith, r.1.0, more.1))

  pub add_up : AddUp run part
  add_up a first rest r h =
      let all = parts_are a first rest r h in
      ap (λ (n : ℕ). n + borders_sum (at run) (first ∷ rest)) all.0
      ∙ densities_add (at run) (length run) a first rest r h
      ∙ sym (is a (cut_end first rest) (omega (arith, r.0, all.1)) h)

pub additive : DensitiesAdd
additive run mark c m h part may = add_up run part (λ x y l k. given_same _ _ (((answers c m h).density_is x y).is (Ok (part x y)) (may x y l k)))
