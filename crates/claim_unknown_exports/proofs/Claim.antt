-- The claims over the exports' contracts.
use mathlib.Core.Path.{◌≡◌, refl, sym, ap, ap₂, ◌∙◌, subst}
use mathlib.Core.Bool.{Bool, true, false, cond}
use mathlib.Core.List.{List, []}
use Rattle.std.specs.Prelude.{Option, None, Some}
use Prim.Native.Nat.{ℕ, zero, suc, ◌≤◌}
use native.Mathlib.Nat.{suc-ne-zero}
use native.Mathlib.Omega.{arith}
use Rattle.rules.specs.Answer.{Answer, refused, given, unless}
use Rattle.rules.specs.Refusal.{Store, Lent, store_wrong, lent_short}
use Rattle.rules.specs.Unknown.{Sureness, certain, possible, unknown_refusal, list_wrong}
use Rattle.codes.specs.Code.{none_code, perhaps, perhaps_in, Out}
use Rattle.codes.specs.Record.{capture_in, number}
use Rattle.codes.proofs.ReadBack.{refusal_back}
use Rattle.capture.specs.declared.Capture.{Capture}
use Rattle.capture.specs.Record.{store_of, lent_of}
use Rattle.node.specs.Memory.{reader_of}
use Rattle.unknown.specs.Crossing.{certain_in}
use Rattle.unknown.specs.Meeting.{possible_in}
use Rattle.unknown.specs.Answer.{certain_of, possible_of}
use Rattle.claim_captures.specs.Words.{Memory, levels}
use Rattle.claim_captures.proofs.Answers.{anywhere, somewhere}
use Rattle.claim_exports.specs.Questions.{LookAlike}
use Rattle.claim_captures.specs.Claim.{Held}
use Rattle.claim_exports.proofs.Alike.{exports_alike}
use Rattle.claim_exports.proofs.Recordings.{recording_held}
use Rattle.claim_exports.proofs.Fillings.{filling_held}
use Rattle.claim_exports.proofs.Answers.{nowhere}
use Rattle.claim_unknown.proofs.Searches.{answer_of, searches}
use Rattle.claim_unknown.proofs.Salvaged.{salvaged_searched, made_alike}
use Rattle.claim_shelf_exports.specs.Claim.{Writes, Reads}
use Rattle.claim_salvage_exports.specs.Claim.{Salvage}
use Rattle.claim_salvage_exports.proofs.Claim.{files_salvaged}
use Rattle.claim_unknown_exports.specs.Claim.{MayLocate, Locates, UnknownSearched, SalvagedAcross, Stored, recorded, appended, AllAlike, PlaceKept}

-- ---- codes
-- a refusal's number is none of 0 and 100
small : (st : Store) (lent : Lent) (list : List ℕ) → unknown_refusal st lent list ≤ 18
small st lent list = go (store_wrong st) (lent_short st lent) (list_wrong st.len list)
  where
    go : (a b c : Bool) → cond a 1 (cond b 2 (cond c 18 0)) ≤ 18
    go true b c = omega arith
    go false true c = omega arith
    go false false true = omega arith
    go false false false = omega arith

-- the code and what stands behind the pointer, read, are the answer
read_back : (n : ℕ) → n ≤ 18 → (a : Option ℕ) {code old new : ℕ} → Out number (perhaps (unless n a)) code old new → perhaps_in code new ≡ unless n a
read_back zero h None o = ap₂ perhaps_in o.code_is o.value_is
read_back zero h (Some i) o = ap₂ perhaps_in o.code_is o.value_is
read_back (suc n) h a {code} {old} {new} o =
    ap (λ (k : ℕ). perhaps_in k new) o.code_is ∙ refusal_back (suc n) new (omega (arith, h)) (suc-ne-zero n)

kept : (n : ℕ) (a : Option ℕ) {code old new : ℕ} → Out number (perhaps (unless n a)) code old new → (code ≡ 0 → ⊥) → new ≡ old
kept zero None o h = o.value_is
kept zero (Some i) o h = absurd (h o.code_is)
kept (suc n) a o h = o.value_is

-- what the contracts say, whichever the export
promised : (sure : Sureness) (back : Bool) (numbers : List ℕ) (m : Memory) (list : List ℕ) (mask from place code place' : ℕ) → MayLocate sure back numbers m list mask from place code place'
    → Out number (perhaps (answer_of sure back (capture_in numbers) m.samples (levels m) list mask from)) code place place'
promised certain false numbers m list mask from place code place' (κs, n, p, l, o, e) = e
promised certain true numbers m list mask from place code place' (κs, n, p, l, o, e) = e
promised possible false numbers m list mask from place code place' (κs, n, p, l, o, e) = e
promised possible true numbers m list mask from place code place' (κs, n, p, l, o, e) = e

-- an answer is a row's refusal, or what was searched
pub record Unless (answer : Answer (Option ℕ)) : Type 0 where
  pub refusal : ℕ
  pub found : Option ℕ
  pub few : refusal ≤ 18
  pub is : answer ≡ unless refusal found

split : (sure : Sureness) (back : Bool) (c : Capture) (m : Memory) (list : List ℕ) (mask from : ℕ) → Unless (answer_of sure back c m.samples (levels m) list mask from)
unfolding certain_of possible_of
split certain back c m list mask from = record { refusal = unknown_refusal (store_of c) (lent_of m.samples (levels m)) list; found = certain_in back (reader_of c.unitsize m.samples (levels m)) c.len list mask from; few = small (store_of c) (lent_of m.samples (levels m)) list; is = refl }
split possible back c m list mask from = record { refusal = unknown_refusal (store_of c) (lent_of m.samples (levels m)) list; found = possible_in back c.unitsize (reader_of c.unitsize m.samples (levels m)) c.len list mask from; few = small (store_of c) (lent_of m.samples (levels m)) list; is = refl }

told : (sure : Sureness) (back : Bool) (numbers : List ℕ) (m : Memory) (list : List ℕ) (mask from : ℕ) (answer : Answer (Option ℕ)) → Locates sure back numbers m list mask from answer
    → answer ≡ answer_of sure back (capture_in numbers) m.samples (levels m) list mask from
told sure back numbers m list mask from answer (place, code, place', may, e) =
    let u = split sure back (capture_in numbers) m list mask from in
    sym e ∙ read_back u.refusal u.few u.found (subst (λ (a : Answer (Option ℕ)). Out number (perhaps a) code place place') u.is (promised sure back numbers m list mask from place code place' may)) ∙ sym u.is

-- ---- there is always an answer
reply_for_lem : (a : Answer (Option ℕ)) (old : ℕ) → (code new : ℕ) × Out number (perhaps a) code old new
reply_for_lem (refused n) old = (n, old, record { code_is = refl; value_is = refl })
reply_for_lem (given None) old = (none_code, old, record { code_is = refl; value_is = refl })
reply_for_lem (given (Some i)) old = (0, i, record { code_is = refl; value_is = refl })

may : (sure : Sureness) (back : Bool) (numbers : List ℕ) (m : Memory) (list : List ℕ) (mask from : ℕ) → (answer : Answer (Option ℕ)) × Locates sure back numbers m list mask from answer
may sure back numbers m list mask from =
    let r = reply_for_lem (answer_of sure back (capture_in numbers) m.samples (levels m) list mask from) 0 in
    (perhaps_in r.0 r.1, (0, r.0, r.1, allowed sure back r.0 r.1 r.2, refl))
  where
    allowed : (w : Sureness) (b : Bool) (code new : ℕ) → Out number (perhaps (answer_of w b (capture_in numbers) m.samples (levels m) list mask from)) code 0 new → MayLocate w b numbers m list mask from 0 code new
    allowed certain false code new o = (([], ([], ([], ([], ([], tt))))), anywhere, somewhere, anywhere, nowhere, o)
    allowed certain true code new o = (([], ([], ([], ([], ([], tt))))), anywhere, somewhere, anywhere, nowhere, o)
    allowed possible false code new o = (([], ([], ([], ([], ([], tt))))), anywhere, somewhere, anywhere, nowhere, o)
    allowed possible true code new o = (([], ([], ([], ([], ([], tt))))), anywhere, somewhere, anywhere, nowhere, o)

pub unknown_searched : UnknownSearched
unknown_searched = searches capture_in LookAlike Locates told may (λ run₁ mark₁ c₁ m₁ run₂ mark₂ c₂ m₂ one two v. exports_alike c₁ m₁ c₂ m₂ one two v)

pub salvaged_across : SalvagedAcross
salvaged_across = salvaged_searched capture_in LookAlike Locates unknown_searched Writes Reads Salvage files_salvaged

stored_held : (run : List ℕ) (mark : Option ℕ) (numbers : List ℕ) (m : Memory) → Stored run mark numbers m → Held run mark (capture_in numbers) m
stored_held run mark numbers m (recorded r) = recording_held r
stored_held run mark numbers m (appended a) = filling_held a

pub all_alike : AllAlike
all_alike = made_alike capture_in LookAlike Locates unknown_searched Stored stored_held Writes Reads Salvage files_salvaged

pub place_kept : PlaceKept
place_kept sure back numbers m list mask from place code place' may h =
    let u = split sure back (capture_in numbers) m list mask from in
    kept u.refusal u.found (subst (λ (a : Answer (Option ℕ)). Out number (perhaps a) code place place') u.is (promised sure back numbers m list mask from place code place' may)) h
