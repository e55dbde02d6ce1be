-- The claims over the calls' contracts.
use mathlib.Core.Path.{◌≡◌, refl, sym, ◌∙◌}
use mathlib.Core.Bool.{Bool, true, false}
use mathlib.Core.List.{List, [], ◌∷◌}
use Rattle.std.specs.Prelude.{Option, Result}
use Prim.Native.Nat.{ℕ}
use Rattle.rules.specs.Answer.{Answer}
use Rattle.rules.specs.Unknown.{Sureness, certain, possible, unknown_refusal, list_row}
use Rattle.answer.specs.declared.Refusal.{Refusal}
use Rattle.answer.specs.declared.Refusal.TheVariants.{Stretches}
use Rattle.capture.specs.declared.Capture.{Capture}
use Rattle.capture.specs.Record.{store_of, lent_of}
use Rattle.unknown.specs.Answer.{located_of, certain_of, possible_of}
use Rattle.claim_alike.proofs.Rows.{Told, result_for}
use Rattle.claim_captures.specs.Words.{Memory, levels}
use Rattle.claim_captures.specs.Claim as captures
use Rattle.claim_captures.proofs.Rows.{store_told}
use Rattle.claim_captures.proofs.Answers.{anywhere, somewhere}
use Rattle.claim_captures.proofs.Alike.{captures_alike}
use Rattle.claim_appends.proofs.Stored.{appends_stored}
use Rattle.claim_recording.proofs.Selection.{selection}
use Rattle.claim_shelf.specs.Claim.{Writes, Reads}
use Rattle.claim_salvage.specs.Claim.{Salvage}
use Rattle.claim_salvage.proofs.Claim.{files_salvaged}
use Rattle.claim_unknown.specs.Claim.{Locates, UnknownSearched, SalvagedAcross, Stored, recorded, appended, AllAlike}
use Rattle.claim_unknown.proofs.Searches.{answer_of, searches}
use Rattle.claim_unknown.proofs.Salvaged.{salvaged_searched, made_alike}

-- the place that the call's contract says, or the refusal of its row
located_for : (sure : Sureness) (back : Bool) (c : Capture) (m : Memory) (list : List ℕ) (mask from : ℕ) → (v : Result (Option ℕ) Refusal) × (located_of v ≡ answer_of sure back c m.samples (levels m) list mask from)
unfolding certain_of possible_of
located_for sure back c m list mask from = go sure
  where
    row : Told (unknown_refusal (store_of c) (lent_of m.samples (levels m)) list)
    row = store_told (store_of c) (lent_of m.samples (levels m)) (list_row c.len list ∷ []) ((Stretches, refl), tt)

    go : (w : Sureness) → (v : Result (Option ℕ) Refusal) × (located_of v ≡ answer_of w back c m.samples (levels m) list mask from)
    go certain = result_for (λ x. x) (unknown_refusal (store_of c) (lent_of m.samples (levels m)) list) _ _ refl row
    go possible = result_for (λ x. x) (unknown_refusal (store_of c) (lent_of m.samples (levels m)) list) _ _ refl row

told : (sure : Sureness) (back : Bool) (c : Capture) (m : Memory) (list : List ℕ) (mask from : ℕ) (answer : Answer (Option ℕ)) → Locates sure back c m list mask from answer
    → answer ≡ answer_of sure back c m.samples (levels m) list mask from
told certain false c m list mask from answer (v, (κs, p, l, promised), v-is) = sym v-is ∙ promised
told certain true c m list mask from answer (v, (κs, p, l, promised), v-is) = sym v-is ∙ promised
told possible false c m list mask from answer (v, (κs, p, l, promised), v-is) = sym v-is ∙ promised
told possible true c m list mask from answer (v, (κs, p, l, promised), v-is) = sym v-is ∙ promised

may : (sure : Sureness) (back : Bool) (c : Capture) (m : Memory) (list : List ℕ) (mask from : ℕ) → (answer : Answer (Option ℕ)) × Locates sure back c m list mask from answer
may sure back c m list mask from = let v = located_for sure back c m list mask from in (located_of v.0, allowed sure back v.0 v.1)
  where
    allowed : (w : Sureness) (b : Bool) (v : Result (Option ℕ) Refusal) → located_of v ≡ answer_of w b c m.samples (levels m) list mask from → Locates w b c m list mask from (located_of v)
    allowed certain false v e = (v, (([], ([], tt)), somewhere, anywhere, e), refl)
    allowed certain true v e = (v, (([], ([], tt)), somewhere, anywhere, e), refl)
    allowed possible false v e = (v, (([], ([], tt)), somewhere, anywhere, e), refl)
    allowed possible true v e = (v, (([], ([], tt)), somewhere, anywhere, e), refl)

pub unknown_searched : UnknownSearched
unknown_searched = searches (λ (c : Capture). c) captures.LookAlike Locates told may (λ run₁ mark₁ c₁ m₁ run₂ mark₂ c₂ m₂ one two v. (captures_alike run₁ mark₁ c₁ m₁ run₂ mark₂ c₂ m₂ one two v).2)

pub salvaged_across : SalvagedAcross
salvaged_across = salvaged_searched (λ (c : Capture). c) captures.LookAlike Locates unknown_searched Writes Reads Salvage files_salvaged

stored_held : (run : List ℕ) (mark : Option ℕ) (c : Capture) (m : Memory) → Stored run mark c m → captures.Held run mark c m
stored_held run mark c m (recorded r) = (selection r).held
stored_held run mark c m (appended a) = (appends_stored a).held

pub all_alike : AllAlike
all_alike = made_alike (λ (c : Capture). c) captures.LookAlike Locates unknown_searched Stored stored_held Writes Reads Salvage files_salvaged
