-- Searches across unknown stretches over the exports, to be held beside include/logic_core.h: `Searches` (claim_unknown) says what is promised. 02: CR 9.
-- A capture is its record's five numbers and its memory. No range is asked of list, mask and place, nor of what stands behind the out pointer.
use Rattle.std.specs.Prelude.{◌≡◌, Bool, true, false, List, ℕ, Option, None}
use contract.Lifetimes.{Lfts}
use denote.Ref.{at_last}
use Rattle.rules.specs.Answer.{Answer}
use Rattle.rules.specs.Unknown.{Sureness, certain, possible}
use Rattle.codes.specs.Code.{perhaps_in}
use Rattle.codes.specs.Record.{capture_in}
use Rattle.logic_core.proofs.unknown_stretches.lc_next_certain.Reads as lc-next-certain
use Rattle.logic_core.proofs.unknown_stretches.lc_prev_certain.Reads as lc-prev-certain
use Rattle.logic_core.proofs.unknown_stretches.lc_next_possible.Reads as lc-next-possible
use Rattle.logic_core.proofs.unknown_stretches.lc_prev_possible.Reads as lc-prev-possible
use Rattle.claim_captures.specs.Words.{Memory, Ref, Places, shown_at}
use Rattle.claim_exports.specs.Questions.{One, lending, LookAlike}
use Rattle.claim_exports.specs.Claim.{Recording, run, mark, asked}
use Rattle.claim_exports.specs.Filled.{Filling, stored}
use Rattle.claim_unknown.specs.Searches.{Searches, SalvagedSearched, MadeAlike}
use Rattle.claim_shelf_exports.specs.Claim.{Writes, Reads}
use Rattle.claim_salvage_exports.specs.Claim.{Salvage}

-- each export may give a code, and leave this number behind `place`; it leaves what it was lent
abbrev pub MayLocate : Sureness → Bool → List ℕ → Memory → List ℕ → ℕ → ℕ → ℕ → ℕ → ℕ → Type 0
MayLocate certain false numbers m list mask from place code place' =
    (κs : Lfts 5) × (n : Ref) × (p : Places) × (l : Ref) × (o : One)
    × lc-next-certain.Post κs (lending (shown_at n numbers) p m (shown_at l list, (mask, (from, (at_last o place, tt))))) code (lending (shown_at n numbers) p m (shown_at l list, (mask, (from, (at_last o place', tt)))))
MayLocate certain true numbers m list mask from place code place' =
    (κs : Lfts 5) × (n : Ref) × (p : Places) × (l : Ref) × (o : One)
    × lc-prev-certain.Post κs (lending (shown_at n numbers) p m (shown_at l list, (mask, (from, (at_last o place, tt))))) code (lending (shown_at n numbers) p m (shown_at l list, (mask, (from, (at_last o place', tt)))))
MayLocate possible false numbers m list mask from place code place' =
    (κs : Lfts 5) × (n : Ref) × (p : Places) × (l : Ref) × (o : One)
    × lc-next-possible.Post κs (lending (shown_at n numbers) p m (shown_at l list, (mask, (from, (at_last o place, tt))))) code (lending (shown_at n numbers) p m (shown_at l list, (mask, (from, (at_last o place', tt)))))
MayLocate possible true numbers m list mask from place code place' =
    (κs : Lfts 5) × (n : Ref) × (p : Places) × (l : Ref) × (o : One)
    × lc-prev-possible.Post κs (lending (shown_at n numbers) p m (shown_at l list, (mask, (from, (at_last o place, tt))))) code (lending (shown_at n numbers) p m (shown_at l list, (mask, (from, (at_last o place', tt)))))

abbrev pub Locates : Sureness → Bool → List ℕ → Memory → List ℕ → ℕ → ℕ → Answer (Option ℕ) → Type 0
Locates sure back numbers m list mask from answer =
    (place code place' : ℕ) × MayLocate sure back numbers m list mask from place code place' × (perhaps_in code place' ≡ answer)

-- ---- the claims
abbrev pub UnknownSearched : Type 0
UnknownSearched = Searches capture_in LookAlike Locates

abbrev pub SalvagedAcross : Type 0
SalvagedAcross = SalvagedSearched capture_in LookAlike Locates Writes Salvage

-- captures that a list of pushes or of appends made through the exports
pub data Stored : List ℕ → Option ℕ → List ℕ → Memory → Type 0 where
  recorded : (r : Recording) → Stored (run r) (mark r) (asked r) r.memory.store
  appended : (a : Filling) → Stored (stored a) None a.numbers a.memory

abbrev pub AllAlike : Type 0
AllAlike = MadeAlike capture_in LookAlike Locates Stored Reads Salvage

-- where there is no place to tell, what stood behind the pointer stays
abbrev pub PlaceKept : Type 0
PlaceKept =
    (sure : Sureness) (back : Bool) (numbers : List ℕ) (m : Memory) (list : List ℕ) (mask from place code place' : ℕ)
    → MayLocate sure back numbers m list mask from place code place' → (code ≡ 0 → ⊥) → place' ≡ place
