-- Files off a bad disk over the exports, to be held beside include/logic_core.h: `Salvages` (claim_salvage) says what is promised. 02: CR 8.
-- No range is asked of capacity, memory and list, nor of what stands behind an out pointer.
use Rattle.std.specs.Prelude.{◌≡◌, List, ℕ, length}
use contract.Lifetimes.{Lfts}
use denote.Ref.{at_last}
use Rattle.rules.specs.Answer.{Answer, unless}
use Rattle.rules.specs.Salvage.{Salvaged}
use Rattle.shelf_codes.specs.Salvaged.{salvaged_in}
use Rattle.logic_core.proofs.shelf.lc_salvage.Reads as lc-salvage
use Rattle.claim_captures.specs.Words.{Memory, Ref, Places, lending_mut, shown_at}
use Rattle.claim_salvage.specs.Files.{Salvages}
use Rattle.claim_shelf_exports.specs.Claim.{Writes, Reads}

-- lc_salvage may give a code, and leave these numbers, these counts, this memory and this list
abbrev pub MaySalvage : ℕ → List ℕ → Memory → List ℕ → List ℕ → List ℕ → ℕ → List ℕ → List ℕ → Memory → List ℕ → Type 0
MaySalvage capacity file m list numbers counts code numbers' counts' m' list' =
    (κs : Lfts 9) × (p : Places) × (f l n k : Ref)
    × lc-salvage.Post κs (capacity, lending_mut (shown_at f file) p m (at_last l list, (at_last n numbers, (at_last k counts, tt)))) code (capacity, lending_mut (shown_at f file) p m' (at_last l list', (at_last n numbers', (at_last k counts', tt))))

-- what it says: code 0 with the record and the counts behind the pointers, or the number of a refusal
abbrev pub Salvage : ℕ → List ℕ → Memory → List ℕ → Answer Salvaged → Memory → List ℕ → Type 0
Salvage capacity file m list answer m' list' =
    (numbers counts : List ℕ) × (length numbers ≡ 5) × (length counts ≡ 2) × (code : ℕ) × (numbers' counts' : List ℕ)
    × MaySalvage capacity file m list numbers counts code numbers' counts' m' list' × (unless code (salvaged_in numbers' counts') ≡ answer)

-- ---- the claim
abbrev pub FilesSalvaged : Type 0
FilesSalvaged = Salvages Writes Reads Salvage
