-- The claim over the exports' contracts.
use mathlib.Core.Path.{◌≡◌, refl, sym, ap, ap₂, ◌∙◌}
use mathlib.Core.List.{List, [], ◌∷◌}
use Prim.Native.Nat.{ℕ, zero, suc}
use lib.ListN.{length}
use Rattle.rules.specs.Answer.{Answer, given, unless}
use Rattle.rules.specs.Shelf.{heading_in}
use Rattle.rules.specs.Salvage as rule
use Rattle.codes.specs.Record.{store_numbers}
use Rattle.shelf_codes.specs.Salvaged.{count_numbers, SalvagedOut, salvaged_in}
use Rattle.shelf_codes.proofs.SalvagedBack.{salvaged_back}
use Rattle.claim_captures.specs.Words.{Memory}
use Rattle.claim_captures.proofs.Answers.{anywhere, somewhere}
use Rattle.claim_shelf.proofs.Written.{lent_in}
use Rattle.claim_shelf.proofs.NewStore.{filled_is}
use Rattle.claim_salvage.proofs.Salvaged.{WasSalvaged}
use Rattle.claim_salvage.proofs.Files.{salvages}
use Rattle.claim_salvage.proofs.Claim.{salvage_leaves}
use Rattle.claim_shelf_exports.proofs.Claim.{wrote, was_read}
use Rattle.claim_salvage_exports.specs.Claim.{Salvage, FilesSalvaged}

-- what stands behind the pointers, read, is what the code says
told : (n : ℕ) (s : rule.Salvaged) {code : ℕ} {numbers numbers' counts counts' : List ℕ} → length numbers ≡ 5 → length counts ≡ 2 → SalvagedOut (unless n s) code numbers numbers' counts counts'
    → unless code (salvaged_in numbers' counts') ≡ unless n s
told zero s {code} {numbers} {numbers'} {counts} {counts'} five two o =
    ap (λ (k : ℕ). unless k (salvaged_in numbers' counts')) o.counts_are.code_is
    ∙ ap given (ap₂ salvaged_in o.record_is.value_is o.counts_are.value_is ∙ salvaged_back numbers counts five two s)
told (suc n) s {code} {numbers} {numbers'} {counts} {counts'} five two o = ap (λ (k : ℕ). unless k (salvaged_in numbers' counts')) o.counts_are.code_is

was_salvaged : (capacity : ℕ) (file : List ℕ) (m : Memory) (list : List ℕ) (answer : Answer rule.Salvaged) (m' : Memory) (list' : List ℕ) → Salvage capacity file m list answer m' list' → WasSalvaged capacity file m list answer m' list'
was_salvaged capacity file m list answer m' list' (numbers, counts, five, two, code, numbers', counts', (κs, p, f, l, n, k, promised), told_is) = record {
  answer_is = sym told_is ∙ told (rule.salvage_refusal capacity (lent_in m) (length list) file) (rule.salvaged_of capacity file) five two promised.answer_is;
  memory = promised.memory;
  list_is = promised.list_is;
}

-- ---- there is always an answer
out_for : (n : ℕ) (s : rule.Salvaged) (numbers counts : List ℕ) → (code : ℕ) × (numbers' counts' : List ℕ) × SalvagedOut (unless n s) code numbers numbers' counts counts'
out_for zero s numbers counts =
    (0, store_numbers s.store numbers, count_numbers s counts, record { record_is = record { code_is = refl; value_is = refl }; counts_are = record { code_is = refl; value_is = refl } })
out_for (suc n) s numbers counts = (suc n, numbers, counts, record { record_is = record { code_is = refl; value_is = refl }; counts_are = record { code_is = refl; value_is = refl } })

may_salvage : (capacity : ℕ) (file : List ℕ) (m : Memory) (list : List ℕ) → (answer : Answer rule.Salvaged) × (m' : Memory) × (list' : List ℕ) × Salvage capacity file m list answer m' list'
may_salvage capacity file m list =
    let five : List ℕ = 0 ∷ 0 ∷ 0 ∷ 0 ∷ 0 ∷ [] in
    let two : List ℕ = 0 ∷ 0 ∷ [] in
    let v = out_for (rule.salvage_refusal capacity (lent_in m) (length list) file) (rule.salvaged_of capacity file) five two in (
      unless v.0 (salvaged_in v.1 v.2),
      salvage_leaves capacity file m list,
      rule.salvage_list capacity (lent_in m) list file,
      (
        five,
        two,
        refl,
        refl,
        v.0,
        v.1,
        v.2,
        (
          ([], ([], ([], ([], ([], ([], ([], ([], ([], tt))))))))),
          somewhere,
          anywhere,
          anywhere,
          anywhere,
          anywhere,
          record {
            answer_is = v.3;
            memory = filled_is (heading_in file).unit (rule.salvage_count capacity (lent_in m) (length list) file) (rule.salvaged_bytes file) m;
            list_is = refl;
          },
        ),
        refl,
      ),
    )

pub files_salvaged : FilesSalvaged
files_salvaged = salvages wrote was_read was_salvaged may_salvage
