-- What the nodes that are written depend on, whatever their level.
-- 02, CR 2: "over any lent memory the first-level nodes that append or push writes depend on len, that node and the samples it now stores, and on none stored before".
use Prim.Native.Nat.{ℕ, ◌+◌, ◌*◌, ◌/◌, ◌%◌, ◌≤◌, ◌<◌}
use mathlib.Core.Path.{◌≡◌, sym, ap, ap₂, ◌∙◌, subst}
use mathlib.Core.List.{List}
use native.Mathlib.Nat.{div-add-mod'}
use native.Mathlib.Decide.{ℕ_discrete}
use native.Mathlib.Omega.{arith}
use lib.ListN.{length}
use Rattle.rules.specs.Node.{span, node_start}
use Rattle.rules.specs.Refusal.{node_size}
use Rattle.rules.proofs.Touched.{node_last, running_same}
use Rattle.node.specs.Memory.{node_in}
use Rattle.rebuild.specs.Rebuild.{level_after}
use Rattle.rebuild.proofs.Right.{after_none, node_runs}

-- two memories into which n samples have come behind the first len: `one` and `two` were their level l before, s and t are their samples now.
-- The node that was unfinished, if there was one, is the same in both, and so are the new samples
pub record SameNew (len n l : ℕ) (one two : List ℕ) (s t : ℕ → ℕ) : Type 0 where
  pub unfinished : (len % span l ≡ 0 → ⊥) → node_in one (len / span l) ≡ node_in two (len / span l)
  pub samples : (i : ℕ) → len ≤ i → i < len + n → s i ≡ t i

-- each node that covers a new sample is the same in both then
module _ (len n l : ℕ) (s t : ℕ → ℕ) (one two : List ℕ) (same : SameNew len n l one two s t)
    (room : (n ≡ 0 → ⊥) → (j : ℕ) → node_start l j < len + n → j * node_size + node_size ≤ length one)
    (room' : (n ≡ 0 → ⊥) → (j : ℕ) → node_start l j < len + n → j * node_size + node_size ≤ length two) where
  pub written_same : (j : ℕ) → len / span l ≤ j → node_start l j < len + n → node_in (level_after s one len n l) j ≡ node_in (level_after t two len n l) j
  written_same j low high = pick (ℕ_discrete n 0)
    where
      kept : node_start l j < len → node_in one j ≡ node_in two j
      kept h = subst (λ (x : ℕ). node_in one x ≡ node_in two x) at (same.unfinished (λ z. omega (arith, div-add-mod' len (span l), ap (λ (x : ℕ). x * span l) at)))
        where
          at : len / span l ≡ j
          at = omega (arith, node_last len l j (omega arith))

      pick : Dec (n ≡ 0) → node_in (level_after s one len n l) j ≡ node_in (level_after t two len n l) j
      pick (yes e) =
          ap (λ (x : List ℕ). node_in x j) (after_none s one len n l e)
          ∙ kept (omega arith)
          ∙ sym (ap (λ (x : List ℕ). node_in x j) (after_none t two len n l e))
      pick (no e) =
          node_runs s one len n l e (room e) j low high
          ∙ running_same s t (node_in one) (node_in two) len (len + n) l j low high (omega arith) kept same.samples
          ∙ sym (node_runs t two len n l e (room' e) j low high)

  -- the same, where the second memory's numbers are called otherwise
  pub written_alike : (len' n' : ℕ) → len ≡ len' → n ≡ n' → (one' two' : List ℕ) → one' ≡ level_after s one len n l → two' ≡ level_after t two len' n' l
      → (j : ℕ) → len / span l ≤ j → node_start l j < len + n → node_in one' j ≡ node_in two' j
  written_alike len' n' el en one' two' e e' j low high =
      ap (λ (x : List ℕ). node_in x j) e ∙ written_same j low high ∙ ap (λ (x : List ℕ). node_in x j) (ap₂ (λ (x y : ℕ). level_after t two x y l) el en ∙ sym e')
