-- Files off a bad disk, over the calls' own contracts: `Post` of a call's generated `Reads` is what its `ensures` says. 02: CR 8. `Salvages` says what is promised.
use Rattle.std.specs.Prelude.{◌≡◌, List, ℕ, Result}
use contract.Lifetimes.{Lfts}
use denote.Ref.{at_last}
use Rattle.rules.specs.Answer.{Answer}
use Rattle.rules.specs.Salvage.{Salvaged}
use Rattle.answer.specs.declared.Refusal.{Refusal}
use Rattle.shelf_salvage.specs.declared.Salvaged as call
use Rattle.shelf_salvage.specs.Salvage.{salvage_of}
use Rattle.shelf_salvage.proofs.salvage.Reads as salvage-call
use Rattle.claim_captures.specs.Words.{Memory, Ref, Places, lending_mut, shown_at}
use Rattle.claim_shelf.specs.Claim.{Writes, Reads}
use Rattle.claim_salvage.specs.Files.{Salvages}

-- salvage may answer v and leave m' and this list
abbrev pub MaySalvage : ℕ → List ℕ → Memory → List ℕ → Result call.Salvaged Refusal → Memory → List ℕ → Type 0
MaySalvage capacity file m list v m' list' =
    (κs : Lfts 7) × (p : Places) × (f l : Ref)
    × salvage-call.Post κs (capacity, lending_mut (shown_at f file) p m (at_last l list, tt)) v (capacity, lending_mut (shown_at f file) p m' (at_last l list', tt))

-- its answer, as 02's
abbrev pub Salvage : ℕ → List ℕ → Memory → List ℕ → Answer Salvaged → Memory → List ℕ → Type 0
Salvage capacity file m list answer m' list' = (v : Result call.Salvaged Refusal) × MaySalvage capacity file m list v m' list' × (salvage_of v ≡ answer)

-- ---- the claim
abbrev pub FilesSalvaged : Type 0
FilesSalvaged = Salvages Writes Reads Salvage
