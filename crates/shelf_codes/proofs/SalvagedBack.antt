-- What was salvaged, written as numbers, reads back, whatever stood there before.
use mathlib.Core.Path.{◌≡◌, subst⁻¹}
use mathlib.Core.List.{List}
use Prim.Native.Nat.{ℕ}
use lib.ListN.{length}
use Rattle.rules.specs.Sample.{list_from}
use Rattle.rules.specs.Salvage.{Salvaged}
use Rattle.rules.proofs.SampleBytes.{list_whole}
use Rattle.codes.specs.Record.{store_numbers}
use Rattle.codes.proofs.ReadBack.{store_back}
use Rattle.shelf_codes.specs.Salvaged.{count_numbers, salvaged_in}

pub salvaged_back : (numbers counts : List ℕ) → length numbers ≡ 5 → length counts ≡ 2 → (s : Salvaged) → salvaged_in (store_numbers s.store numbers) (count_numbers s counts) ≡ s
unfolding list_from
salvaged_back numbers counts size two s =
    subst⁻¹ (λ (l : List ℕ). salvaged_in (store_numbers s.store numbers) (count_numbers s l) ≡ s) (list_whole 2 counts two)
    (λ i. record { store = store_back numbers size s.store i; stretches = s.stretches; replaced = s.replaced })
