-- What searches across unknown stretches promise, from two things that are known of the calls: what they answer of a capture with right levels, and that there is an answer.
use mathlib.Core.Path.{◌≡◌, sym, ap, ap₂, ◌∙◌, subst, subst⁻¹}
use mathlib.Core.Bool.{Bool}
use mathlib.Core.List.{List, [], ◌∷◌}
use mathlib.Core.Logic.{◌↔◌}
use Rattle.std.specs.Prelude.{Option}
use Prim.Native.Nat.{ℕ, ◌^◌, ◌<◌}
use native.Mathlib.Omega.{arith}
use lib.ListN.{length}
use Rattle.rules.specs.Sample.{sample_of}
use Rattle.rules.specs.Answer.{Answer, given, unless}
use Rattle.rules.specs.Refusal.{first_of}
use Rattle.rules.specs.Search.{changed}
use Rattle.rules.specs.Stretches.{apart, covers, pairs_in}
use Rattle.rules.specs.Unknown.{Sureness, certain, possible, search_at, unknown_search, unknown_refusal, Change, Nearest, list_row}
use Rattle.rules.proofs.Refusal.{sound}
use Rattle.rules.proofs.Unknown.{unknown_is, none_unknown, insides_alike, lines_alike}
use Rattle.capture.specs.declared.Capture.{Capture}
use Rattle.capture.specs.Record.{store_of, lent_of}
use Rattle.capture.proofs.Answer.{unless_given}
use Rattle.unknown.specs.Answer.{certain_of, possible_of}
use Rattle.unknown.proofs.Right.{certain_is, possible_is}
use Rattle.claim_captures.specs.Words.{Memory, levels, at, Same}
use Rattle.claim_captures.specs.Claim.{Held}
use Rattle.claim_captures.proofs.Answers.{agree, right, asked_run}
use Rattle.claim_unknown.specs.Searches.{Answers, LookAlike, KnownSame, Searches}

-- what a call's contract says it answers
abbrev pub answer_of : Sureness → Bool → Capture → List ℕ → (ℕ → List ℕ) → List ℕ → ℕ → ℕ → Answer (Option ℕ)
answer_of certain back c samples levels list mask from = certain_of back c samples levels list mask from
answer_of possible back c samples levels list mask from = possible_of back c samples levels list mask from

-- ---- over a run
module _ {run : List ℕ} {mark : Option ℕ} (c : Capture) (m : Memory) (h : Held run mark c m) where
  abbrev t : ℕ → ℕ
  t = sample_of c.unitsize m.samples

  words : (j : ℕ) → j < c.len → t j < 256 ^ c.unitsize
  words j l = omega (arith, agree c m h j l, h.words j (omega (arith, l, h.len_is)))

  -- over memory, where levels are right
  over_memory : (sure : Sureness) (back : Bool) (list : List ℕ) (mask from : ℕ)
      → answer_of sure back c m.samples (levels m) list mask from
      ≡ unless (unknown_refusal (store_of c) (lent_of m.samples (levels m)) list) (unknown_search sure back c.unitsize t c.len (pairs_in list) mask from)
  over_memory certain back list mask from = certain_is back c m.samples (levels m) list mask from (right c m h) words
  over_memory possible back list mask from = possible_is back c m.samples (levels m) list mask from (right c m h) words

  -- and over the run
  pub over_run : (sure : Sureness) (back : Bool) (list : List ℕ) (mask from : ℕ)
      → answer_of sure back c m.samples (levels m) list mask from
      ≡ unless (first_of (list_row (length run) list ∷ [])) (unknown_search sure back c.unitsize (at run) (length run) (pairs_in list) mask from)
  over_run sure back list mask from =
      over_memory sure back list mask from
      ∙ asked_run c m h (λ x n. list_row n list ∷ []) (λ f x n. unknown_search sure back c.unitsize f n (pairs_in list) mask from)
      (λ z. insides_alike sure back c.unitsize (covers (pairs_in list)) t (at run) c.len mask from (λ i l e. agree c m h i l))

-- ---- the promises
module _ {C : Type 0} (record_of : C → Capture) (Looks : ℕ → C → Memory → C → Memory → Type 0) (Ask : Sureness → Bool → C → Memory → List ℕ → ℕ → ℕ → Answer (Option ℕ) → Type 0)
    (told : (sure : Sureness) (back : Bool) (c : C) (m : Memory) (list : List ℕ) (mask from : ℕ) (answer : Answer (Option ℕ)) → Ask sure back c m list mask from answer
    → answer ≡ answer_of sure back (record_of c) m.samples (levels m) list mask from)
    (may : (sure : Sureness) (back : Bool) (c : C) (m : Memory) (list : List ℕ) (mask from : ℕ) → (answer : Answer (Option ℕ)) × Ask sure back c m list mask from answer)
    (looks : (run₁ : List ℕ) (mark₁ : Option ℕ) (c₁ : C) (m₁ : Memory) (run₂ : List ℕ) (mark₂ : Option ℕ) (c₂ : C) (m₂ : Memory) → Held run₁ mark₁ (record_of c₁) m₁ → Held run₂ mark₂ (record_of c₂) m₂
    → (v : ℕ) → Looks v c₁ m₁ c₂ m₂ ↔ Same v run₁ mark₁ run₂ mark₂) where
  module _ {run : List ℕ} {mark : Option ℕ} (c : C) (m : Memory) (h : Held run mark (record_of c) m) where
    abbrev u : ℕ
    u = (record_of c).unitsize

    pub is : (sure : Sureness) (back : Bool) (list : List ℕ) (mask from : ℕ) (answer : Answer (Option ℕ)) → Ask sure back c m list mask from answer
        → answer ≡ unless (first_of (list_row (length run) list ∷ [])) (unknown_search sure back u (at run) (length run) (pairs_in list) mask from)
    is sure back list mask from answer a = told sure back c m list mask from answer a ∙ over_run (record_of c) m h sure back list mask from

    meant : (sure : Sureness) (back : Bool) (list : List ℕ) (mask from : ℕ) (found : Option ℕ) → Ask sure back c m list mask from (given found)
        → Nearest back (Change sure u (length run) (covers (pairs_in list)) (at run) mask) (length run) from found
    meant sure back list mask from found a =
        subst (Nearest back (Change sure u (length run) (covers (pairs_in list)) (at run) mask) (length run) from)
        (unless_given (unknown_search sure back u (at run) (length run) (pairs_in list) mask from) (first_of (list_row (length run) list ∷ [])) found (sym (is sure back list mask from (given found) a))).1
        (unknown_is u (length run) (sound (store_of (record_of c)) (lent_of m.samples (levels m)) h.passes).unit_size (covers (pairs_in list)) (at run) h.words sure back mask from)

    ordinary : (sure : Sureness) (back : Bool) (mask from : ℕ) (answer : Answer (Option ℕ)) → Ask sure back c m [] mask from answer → answer ≡ given (search_at back (changed (at run) mask) (length run) from)
    unfolding apart pairs_in
    ordinary sure back mask from answer a = is sure back [] mask from answer a ∙ ap given (none_unknown sure back u (at run) (length run) mask from)

    pub answers : Answers record_of Looks Ask run c m
    answers = record { is = is; meant = meant; ordinary = ordinary; may = λ sure back list mask from. may sure back c m list mask from }

  module _ {run₁ : List ℕ} {mark₁ : Option ℕ} (c₁ : C) (m₁ : Memory) {run₂ : List ℕ} {mark₂ : Option ℕ} (c₂ : C) (m₂ : Memory)
      (one : Held run₁ mark₁ (record_of c₁) m₁) (two : Held run₂ mark₂ (record_of c₂) m₂) (unit : (record_of c₁).unitsize ≡ (record_of c₂).unitsize) where
    -- two runs of one length whose searches are the same
    same_answers : (sure : Sureness) (back : Bool) (list : List ℕ) (mask from : ℕ) → length run₁ ≡ length run₂
        → unknown_search sure back (record_of c₁).unitsize (at run₁) (length run₁) (pairs_in list) mask from ≡ unknown_search sure back (record_of c₁).unitsize (at run₂) (length run₁) (pairs_in list) mask from
        → (answer₁ answer₂ : Answer (Option ℕ)) → Ask sure back c₁ m₁ list mask from answer₁ → Ask sure back c₂ m₂ list mask from answer₂ → answer₁ ≡ answer₂
    same_answers sure back list mask from len e answer₁ answer₂ a b =
        is c₁ m₁ one sure back list mask from answer₁ a
        ∙ ap (unless (first_of (list_row (length run₁) list ∷ []))) e
        ∙ ap₂ (λ (k n : ℕ). unless (first_of (list_row n list ∷ [])) (unknown_search sure back k (at run₂) n (pairs_in list) mask from)) unit len
        ∙ sym (is c₂ m₂ two sure back list mask from answer₂ b)

    pub insides : (list : List ℕ) → KnownSame list run₁ run₂ → (sure : Sureness) (back : Bool) (mask from : ℕ) (answer₁ answer₂ : Answer (Option ℕ))
        → Ask sure back c₁ m₁ list mask from answer₁ → Ask sure back c₂ m₂ list mask from answer₂ → answer₁ ≡ answer₂
    insides list k sure back mask from =
        same_answers sure back list mask from k.len (insides_alike sure back (record_of c₁).unitsize (covers (pairs_in list)) (at run₁) (at run₂) (length run₁) mask from k.samples)

    pub alike : (v : ℕ) (list₁ list₂ : List ℕ) → LookAlike record_of Looks Ask v c₁ m₁ list₁ c₂ m₂ list₂ ↔ (Same v run₁ mark₁ run₂ mark₂ × (list₁ ≡ list₂))
    alike v list₁ list₂ = (λ l. ((looks run₁ mark₁ c₁ m₁ run₂ mark₂ c₂ m₂ one two v).0 l.captures, l.lists), λ t. back_alike t.0 t.1)
      where
        back_alike : Same v run₁ mark₁ run₂ mark₂ → list₁ ≡ list₂ → LookAlike record_of Looks Ask v c₁ m₁ list₁ c₂ m₂ list₂
        back_alike s e = record {
          captures = (looks run₁ mark₁ c₁ m₁ run₂ mark₂ c₂ m₂ one two v).1 s;
          lists = e;
          searches = λ sure back mask from _ w _ answer₁ answer₂ a b.
              same_answers sure back list₁ mask from s.runs.len (lines_alike sure back (record_of c₁).unitsize (covers (pairs_in list₁)) (at run₁) (at run₂) (length run₁) mask from v w s.runs.lines)
              answer₁ answer₂ a (subst⁻¹ (λ (l : List ℕ). Ask sure back c₂ m₂ l mask from answer₂) e b);
        }

  pub searches : Searches record_of Looks Ask
  searches = record {
    answers = λ run mark c m h. answers c m h;
    alike = λ run₁ mark₁ c₁ m₁ run₂ mark₂ c₂ m₂ one two unit. alike c₁ m₁ c₂ m₂ one two unit;
    insides = λ run₁ mark₁ c₁ m₁ run₂ mark₂ c₂ m₂ one two unit. insides c₁ m₁ c₂ m₂ one two unit;
  }
