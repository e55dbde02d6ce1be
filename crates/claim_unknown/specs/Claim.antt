-- Searches across unknown stretches, over the calls' own contracts: `Post` of a call's generated `Reads` is what its `ensures` says. 02: CR 9. `Searches` says what is promised.
use Rattle.std.specs.Prelude.{◌≡◌, Bool, true, false, List, ℕ}
use Rattle.std.specs.Prelude.{Option, None, Result}
use contract.Lifetimes.{Lfts}
use Rattle.rules.specs.Answer.{Answer}
use Rattle.rules.specs.Unknown.{Sureness, certain, possible}
use Rattle.answer.specs.declared.Refusal.{Refusal}
use Rattle.capture.specs.declared.Capture.{Capture}
use Rattle.unknown.specs.Answer.{located_of}
use Rattle.unknown.proofs.next_certain.Reads as next-certain
use Rattle.unknown.proofs.prev_certain.Reads as prev-certain
use Rattle.unknown.proofs.next_possible.Reads as next-possible
use Rattle.unknown.proofs.prev_possible.Reads as prev-possible
use Rattle.claim_captures.specs.Words.{Memory, Ref, Places, lending, shown_at}
use Rattle.claim_captures.specs.Claim as captures
use Rattle.claim_appends.specs.Claim.{Filling, stored}
use Rattle.claim_recording.specs.Claim.{Recording, run, mark, store}
use Rattle.claim_shelf.specs.Claim.{Writes, Reads}
use Rattle.claim_salvage.specs.Claim.{Salvage}
use Rattle.claim_unknown.specs.Searches.{Searches, SalvagedSearched, MadeAlike}

-- each call may answer v; it leaves what it was lent
abbrev pub MayLocate : Sureness → Bool → Capture → Memory → List ℕ → ℕ → ℕ → Result (Option ℕ) Refusal → Type 0
MayLocate certain false c m list mask from v = (κs : Lfts 2) × (p : Places) × (l : Ref) × next-certain.Post κs (lending c p m (shown_at l list, (mask, (from, tt)))) v (lending c p m (shown_at l list, (mask, (from, tt))))
MayLocate certain true c m list mask from v = (κs : Lfts 2) × (p : Places) × (l : Ref) × prev-certain.Post κs (lending c p m (shown_at l list, (mask, (from, tt)))) v (lending c p m (shown_at l list, (mask, (from, tt))))
MayLocate possible false c m list mask from v = (κs : Lfts 2) × (p : Places) × (l : Ref) × next-possible.Post κs (lending c p m (shown_at l list, (mask, (from, tt)))) v (lending c p m (shown_at l list, (mask, (from, tt))))
MayLocate possible true c m list mask from v = (κs : Lfts 2) × (p : Places) × (l : Ref) × prev-possible.Post κs (lending c p m (shown_at l list, (mask, (from, tt)))) v (lending c p m (shown_at l list, (mask, (from, tt))))

-- its answer, as 02's
abbrev pub Locates : Sureness → Bool → Capture → Memory → List ℕ → ℕ → ℕ → Answer (Option ℕ) → Type 0
Locates sure back c m list mask from answer = (v : Result (Option ℕ) Refusal) × MayLocate sure back c m list mask from v × (located_of v ≡ answer)

-- ---- the claims
abbrev pub UnknownSearched : Type 0
UnknownSearched = Searches (λ (c : Capture). c) captures.LookAlike Locates

abbrev pub SalvagedAcross : Type 0
SalvagedAcross = SalvagedSearched (λ (c : Capture). c) captures.LookAlike Locates Writes Salvage

-- captures that a list of pushes or of appends made
pub data Stored : List ℕ → Option ℕ → Capture → Memory → Type 0 where
  recorded : (r : Recording) → Stored (run r) (mark r) (store r) r.memory.store
  appended : (a : Filling) → Stored (stored a) None a.capture a.memory

abbrev pub AllAlike : Type 0
AllAlike = MadeAlike (λ (c : Capture). c) captures.LookAlike Locates Stored Reads Salvage
