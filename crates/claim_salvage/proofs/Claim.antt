-- The claim over the calls' contracts.
use mathlib.Core.Path.{refl, sym, ◌∙◌}
use mathlib.Core.Bool.{not, ◌||◌}
use mathlib.Core.List.{List, []}
use Prim.Native.Nat.{ℕ}
use lib.Dec.{ltb}
use lib.ListN.{length}
use Rattle.rules.specs.Answer.{Answer}
use Rattle.rules.specs.Shelf.{heading_in, head_test}
use Rattle.rules.specs.ShelfCalls.{capacity_wrong, store_short}
use Rattle.rules.specs.Salvage as rule
use Rattle.answer.specs.declared.Refusal.TheVariants.{Head}
use Rattle.claim_alike.proofs.Rows.{Told, result_for}
use Rattle.shelf_salvage.specs.declared.Salvaged as call
use Rattle.shelf_salvage.specs.Salvage.{salvaged_as, salvage_of}
use Rattle.claim_captures.specs.Words.{Memory}
use Rattle.claim_captures.proofs.Answers.{anywhere, somewhere}
use Rattle.claim_shelf.proofs.Written.{lent_in}
use Rattle.claim_shelf.proofs.NewStore.{filled_with, filled_is}
use Rattle.claim_shelf.proofs.Claim.{record_for, file_told, wrote, was_read}
use Rattle.claim_salvage.specs.Claim.{Salvage, FilesSalvaged}
use Rattle.claim_salvage.proofs.Salvaged.{WasSalvaged}
use Rattle.claim_salvage.proofs.Files.{salvages}

was_salvaged : (capacity : ℕ) (file : List ℕ) (m : Memory) (list : List ℕ) (answer : Answer rule.Salvaged) (m' : Memory) (list' : List ℕ) → Salvage capacity file m list answer m' list' → WasSalvaged capacity file m list answer m' list'
was_salvaged capacity file m list answer m' list' (v, (κs, p, f, l, promised), v-is) = record { answer_is = sym v-is ∙ promised.answer_is; memory = promised.memory; list_is = promised.list_is }

-- ---- there is always an answer
-- the code's record of what was salvaged
abbrev salvaged_for : rule.Salvaged → call.Salvaged
salvaged_for s = record { store = record_for s.store; stretches = s.stretches; replaced = s.replaced }

-- the memory that a salvaging leaves
module _ (capacity : ℕ) (file : List ℕ) (m : Memory) (list : List ℕ) where
  abbrev pub salvage_leaves : Memory
  salvage_leaves = filled_with (heading_in file).unit (rule.salvage_count capacity (lent_in m) (length list) file) (rule.salvaged_bytes file) m

  row : Told (rule.salvage_refusal capacity (lent_in m) (length list) file)
  row = file_told 17 (Head, refl) (capacity_wrong capacity) (not (head_test file)) (store_short capacity (lent_in m) (heading_in file) || ltb (length list) (rule.list_need file))

  may_salvage : (answer : Answer rule.Salvaged) × (m' : Memory) × (list' : List ℕ) × Salvage capacity file m list answer m' list'
  may_salvage =
      let v = result_for salvaged_as (rule.salvage_refusal capacity (lent_in m) (length list) file) (salvaged_for (rule.salvaged_of capacity file)) _ refl row in (
        salvage_of v.0,
        salvage_leaves,
        rule.salvage_list capacity (lent_in m) list file,
        (
          v.0,
          (
            ([], ([], ([], ([], ([], ([], ([], tt))))))),
            somewhere,
            anywhere,
            anywhere,
            record {
              answer_is = v.1;
              memory = filled_is (heading_in file).unit (rule.salvage_count capacity (lent_in m) (length list) file) (rule.salvaged_bytes file) m;
              list_is = refl;
            },
          ),
          refl,
        ),
      )

pub files_salvaged : FilesSalvaged
files_salvaged = salvages wrote was_read was_salvaged may_salvage
