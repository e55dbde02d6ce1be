-- Two runs whose nodes agree under a mask are searched alike: the same places in the same steps, and so the same bursts.
use mathlib.Core.Path.{◌≡◌, refl, sym, ap₂, ◌∙◌, fun_ext}
use Prim.Native.Nat.{ℕ}
use Rattle.rules.specs.Walk.{Walked, all_levels, run_reader, next_search, previous_search}
use Rattle.rules.specs.Burst.{bursted_by, burst_search}
use Rattle.rules.proofs.Found.{TrueNodes}
use Rattle.rules.proofs.Steps.{AlikeNodes, next_alike, previous_alike, next_searched, previous_searched}

run_true : (s : ℕ → ℕ) (len : ℕ) → TrueNodes all_levels (run_reader s) s len
run_true s len = record { is = λ l p _ _ _ _. refl }

module _ (s₁ s₂ : ℕ → ℕ) (len mask : ℕ) (g : AlikeNodes all_levels (run_reader s₁) (run_reader s₂) len mask) where
  pub next_by_nodes : (from : ℕ) → next_search s₁ len mask from ≡ next_search s₂ len mask from
  next_by_nodes from =
      sym (next_searched (run_reader s₁) s₁ len mask (run_true s₁ len) from)
      ∙ next_alike all_levels (run_reader s₁) (run_reader s₂) len mask g from
      ∙ next_searched (run_reader s₂) s₂ len mask (run_true s₂ len) from

  pub previous_by_nodes : (from : ℕ) → previous_search s₁ len mask from ≡ previous_search s₂ len mask from
  previous_by_nodes from =
      sym (previous_searched (run_reader s₁) s₁ len mask (run_true s₁ len) from)
      ∙ previous_alike all_levels (run_reader s₁) (run_reader s₂) len mask g from
      ∙ previous_searched (run_reader s₂) s₂ len mask (run_true s₂ len) from

  pub burst_by_nodes : (sample gap tolerance budget : ℕ) → burst_search s₁ len mask sample gap tolerance budget ≡ burst_search s₂ len mask sample gap tolerance budget
  burst_by_nodes sample gap tolerance budget =
      ap₂ (λ (back fore : ℕ → Walked). bursted_by back fore len sample gap tolerance budget) (fun_ext previous_by_nodes) (fun_ext next_by_nodes)
