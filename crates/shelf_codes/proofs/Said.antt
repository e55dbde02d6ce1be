-- What block 0 says, written as numbers, reads back, whatever stood there before.
use mathlib.Core.Path.{◌≡◌, refl, subst⁻¹}
use mathlib.Core.List.{List, [], ◌∷◌}
use Rattle.std.specs.Prelude.{Option, None, Some}
use Prim.Native.Nat.{ℕ}
use lib.ListN.{length, get_or}
use Rattle.rules.specs.Sample.{list_from}
use Rattle.rules.specs.Shelf as rule
use Rattle.rules.proofs.SampleBytes.{list_whole}
use Rattle.shelf_codes.specs.Said.{said_numbers, said_in}

mark_back : (unit len a b c d : ℕ) (m : Option ℕ) → said_in (said_numbers (record { unit = unit; mark = m; len = len }) (a ∷ b ∷ c ∷ d ∷ [])) ≡ record { unit = unit; mark = m; len = len }
mark_back unit len a b c d None = refl
mark_back unit len a b c d (Some k) = refl

pub said_back : (old : List ℕ) → length old ≡ 4 → (h : rule.Heading) → said_in (said_numbers h old) ≡ h
unfolding list_from
said_back old size h =
    subst⁻¹ (λ (l : List ℕ). said_in (said_numbers h l) ≡ h) (list_whole 4 old size) (mark_back h.unit h.len (get_or old 0 0) (get_or old 1 0) (get_or old 2 0) (get_or old 3 0) h.mark)
