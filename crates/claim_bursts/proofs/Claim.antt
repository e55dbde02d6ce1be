-- What the calls and the exports may answer is the rule's burst of the run, so the rule's promises are theirs.
use mathlib.Core.Path.{◌≡◌, refl, sym, ap, ◌∙◌}
use mathlib.Core.Bool.{Bool, true, false, cond}
use mathlib.Core.List.{List, [], ◌∷◌}
use Rattle.std.specs.Prelude.{Option, None, Some, Result}
use Prim.Native.Nat.{ℕ, zero, suc, ◌≤◌}
use native.Mathlib.Nat.{suc-ne-zero}
use native.Mathlib.Omega.{arith}
use lib.IntN.{ℤ, pos}
use lib.ListN.{length}
use Rattle.rules.specs.Answer.{Answer, refused, given, unless}
use Rattle.rules.specs.Walk.{Counted, through}
use Rattle.rules.specs.Refusal.{first_of}
use Rattle.rules.specs.Burst.{Burst, most_place, burst, burst_search}
use Rattle.rules.specs.Mill.{MillBurst, origin_of, place_at, shown_burst, beyond, before_first, mill_search_rows}
use Rattle.rules.proofs.Bursts.{says_meet}
use Rattle.rules.proofs.BurstList.{lists_once}
use Rattle.answer.specs.declared.Refusal.{Refusal}
use Rattle.answer.specs.declared.Counted as told
use Rattle.capture.specs.declared.Capture.{Capture}
use Rattle.capture.proofs.Answer.{unless_given}
use Rattle.codes.specs.Code.{perhaps_in}
use Rattle.codes.specs.Record.{capture_in}
use Rattle.codes.proofs.ReadBack.{refusal_back}
use Rattle.claim_captures.specs.Words.{Memory, at}
use Rattle.claim_captures.specs.Claim.{Held}
use Rattle.claim_captures.proofs.Answers.{bounds, answers}
use Rattle.claim_captures.proofs.Alike.{given_same}
use Rattle.claim_appends.specs.Claim as appends
use Rattle.claim_appends.proofs.Stored.{appends_stored}
use Rattle.claim_recording.specs.Claim as recordings
use Rattle.claim_recording.proofs.Selection.{selection}
use Rattle.mill_search.specs.declared.Burst as mill-call
use Rattle.mill_search.specs.Answer as mill-told
use Rattle.claim_mill.specs.Claim as mills
use Rattle.claim_mill.proofs.Answers.{mill_answers}
use Rattle.claim_exports.specs.Questions.{Bursted, bursted, mark_in}
use Rattle.claim_exports.specs.Claim as exported
use Rattle.claim_exports.specs.Filled as filled
use Rattle.claim_exports.proofs.Answers.{exports_answer}
use Rattle.claim_exports.proofs.Recordings.{recording_held}
use Rattle.claim_exports.proofs.Fillings.{filling_held}
use Rattle.claim_mill_exports.specs.Claim as mill-exports
use Rattle.claim_mill_exports.proofs.Answers.{mill_exports_answer}
use Rattle.claim_bursts.specs.Claim.{Promised, Asker, service, mill, place_of, Unrefused, Says, burst_in, mill_burst_in, ExportSays, BurstsThatMeet}
use Rattle.claim_bursts.proofs.Shown.{shown_one}

promised : {Q : Type 0} (s : ℕ → ℕ) (len : ℕ) → len ≤ most_place → (place : Q → ℕ) (Says : ℕ → Q → ℕ → ℕ → ℕ → Option Burst → Type 0)
    → ((mask : ℕ) (q : Q) (gap tolerance budget : ℕ) (o : Option Burst) → Says mask q gap tolerance budget o → burst s len mask (place q) gap tolerance budget ≡ o)
    → Promised s len place Says
promised {Q} s len few place Says is = let h = says_meet s len few place Says is in record { meet = h; lists = lists_once s len place Says h }

-- ---- codes
-- a refusal's number is none of 0 and 100
small : (grant mask : ℕ) (mark : Option ℕ) (p : ℤ) → first_of (mill_search_rows grant mask mark p) ≤ 13
small grant mask mark p = go (beyond grant mask) (before_first (origin_of mark) p)
  where
    go : (a b : Bool) → cond a 12 (cond b 13 0) ≤ 13
    go true b = omega arith
    go false true = omega arith
    go false false = omega arith

-- code and numbers, read, are what was found
read_back : (found : Option Burst) (steps : ℕ) (ends : List ℕ) → perhaps_in (bursted found steps ends).code (burst_in (bursted found steps ends).ends) ≡ given found
read_back None steps ends = refl
read_back (Some b) steps ends = refl

module _ (first last : ℤ) (jumps : List ℕ) (read : ℕ) where
  abbrev written : Answer (Counted MillBurst) → mill-exports.Bursted
  written x = mill-exports.bursted x first last jumps read

  abbrev read_in : mill-exports.Bursted → Answer (Option MillBurst)
  read_in v = perhaps_in v.code (mill_burst_in v.first v.last v.jumps)

  mill_read_back : (found : Option MillBurst) (steps : ℕ) → read_in (written (given (record { found = found; steps = steps }))) ≡ given found
  mill_read_back None steps = refl
  mill_read_back (Some b) steps = refl

  mill_read : (n : ℕ) → n ≤ 13 → (w : Counted MillBurst) (x : Option MillBurst) → read_in (written (unless n w)) ≡ given x → w.found ≡ x
  mill_read zero h w x e = given_same _ _ (sym (mill_read_back w.found w.steps) ∙ e)
  mill_read (suc n) h w x e = absurd (never (sym (refusal_back (suc n) (mill_burst_in first last jumps) (omega (arith, h)) (suc-ne-zero n)) ∙ e))
    where
      never : {A : Type 0} {y : A} {k : ℕ} → refused k ≡ given y → ⊥
      never q = let one : ◌≡◌ {A = ℕ} 0 1 = cc in omega arith

-- ---- a capture that holds a run
few : (run : List ℕ) (mark : Option ℕ) (c : Capture) (m : Memory) → Held run mark c m → length run ≤ most_place
few run mark c m h = omega (arith, h.len_is, (bounds c m h).len_most, (bounds c m h).capacity_most)

module _ (run : List ℕ) (mark : Option ℕ) (c : Capture) (m : Memory) (h : Held run mark c m) where
  -- what a mill is told
  moved_to : (grant mask : ℕ) (sample : ℤ) (gap tolerance budget : ℕ) (v : Result (told.Counted mill-call.Burst) Refusal) (w : Counted MillBurst) → mills.MayBurst c m grant mask sample gap tolerance budget v → mill-told.burst_as v ≡ given w
      → shown_burst (origin_of mark) (burst (at run) (length run) mask (place_at (origin_of mark) sample) gap tolerance budget) ≡ w.found
  moved_to grant mask sample gap tolerance budget v w may e =
      ap (λ (x : Counted MillBurst). x.found)
      (unless_given (through (shown_burst (origin_of mark)) (burst_search (at run) (length run) mask (place_at (origin_of mark) sample) gap tolerance budget)) (first_of (mill_search_rows grant mask mark sample)) w
      (sym (((mill_answers c m h grant).burst_is mask sample gap tolerance budget).is v may) ∙ e)).1

  said : (mask : ℕ) (q : Asker) (gap tolerance budget : ℕ) (o : Option Burst) → Says c m mask q gap tolerance budget o → burst (at run) (length run) mask (place_of mark q) gap tolerance budget ≡ o
  said mask (service sample) gap tolerance budget o (v, read, may, e) =
      ap (λ (w : Counted Burst). w.found) (given_same _ _ (sym (((answers c m h).burst_is mask sample gap tolerance budget).is v may) ∙ e))
  said mask (mill grant sample) gap tolerance budget o (v, read, may, e) =
      shown_one (origin_of mark) (burst (at run) (length run) mask (place_at (origin_of mark) sample) gap tolerance budget) o
      (moved_to grant mask sample gap tolerance budget v (through (shown_burst (origin_of c.trigger)) (record { found = o; steps = read })) may e ∙ ap (λ (x : Option ℕ). shown_burst (origin_of x) o) h.mark_is)

  says : (mask : ℕ) (q : Asker) (gap tolerance budget : ℕ) → Unrefused mark mask q → (o : Option Burst) × Says c m mask q gap tolerance budget o
  says mask (service sample) gap tolerance budget u =
      let a = (answers c m h).burst_is mask sample gap tolerance budget in
      let w = burst_search (at run) (length run) mask sample gap tolerance budget in
      (w.found, (a.answer, w.steps, a.allowed, a.is a.answer a.allowed))
  says mask (mill grant sample) gap tolerance budget u =
      let a = (mill_answers c m h grant).burst_is mask sample gap tolerance budget in
      let w = burst_search (at run) (length run) mask (place_at (origin_of mark) sample) gap tolerance budget in
      (w.found, (a.answer, w.steps, a.allowed, a.is a.answer a.allowed ∙ ap (λ (n : ℕ). unless n (through (shown_burst (origin_of mark)) w)) u ∙ ap (λ (x : Option ℕ). given (through (shown_burst (origin_of x)) w)) (sym h.mark_is)))

  calls : Promised (at run) (length run) (place_of mark) (Says c m)
  calls = promised (at run) (length run) (few run mark c m h) (place_of mark) (Says c m) said

module _ (run : List ℕ) (mark : Option ℕ) (numbers : List ℕ) (m : Memory) (h : Held run mark (capture_in numbers) m) where
  export_moved_to : (grant mask : ℕ) (sample : ℤ) (gap tolerance budget : ℕ) (first last : ℤ) (jumps : List ℕ) → length jumps ≡ 2 → (read : ℕ) (v : mill-exports.Bursted) (x : Option MillBurst)
      → mill-exports.MayBurst numbers m grant mask sample gap tolerance budget first last jumps read v → read_in first last jumps read v ≡ given x
      → shown_burst (origin_of mark) (burst (at run) (length run) mask (place_at (origin_of mark) sample) gap tolerance budget) ≡ x
  export_moved_to grant mask sample gap tolerance budget first last jumps size read v x may e =
      let z = ((mill_exports_answer numbers m h grant).burst_is mask sample gap tolerance budget first last jumps size read).is v may in
      mill_read first last jumps read (first_of (mill_search_rows grant mask mark sample)) (small grant mask mark sample)
      (through (shown_burst (origin_of mark)) (burst_search (at run) (length run) mask (place_at (origin_of mark) sample) gap tolerance budget)) x (sym (ap (read_in first last jumps read) z) ∙ e)

  export_said : (mask : ℕ) (q : Asker) (gap tolerance budget : ℕ) (o : Option Burst) → ExportSays numbers m mask q gap tolerance budget o
      → burst (at run) (length run) mask (place_of mark q) gap tolerance budget ≡ o
  export_said mask (service sample) gap tolerance budget o (ends, read, size, v, may, e) =
      let w = burst_search (at run) (length run) mask sample gap tolerance budget in
      let z = ((exports_answer numbers m h).burst_is mask sample gap tolerance budget ends size read).is v may in
      given_same _ _ (sym (read_back w.found w.steps ends) ∙ sym (ap (λ (x : Bursted). perhaps_in x.code (burst_in x.ends)) z) ∙ e)
  export_said mask (mill grant sample) gap tolerance budget o (first, last, jumps, read, size, v, may, e) =
      shown_one (origin_of mark) (burst (at run) (length run) mask (place_at (origin_of mark) sample) gap tolerance budget) o
      (export_moved_to grant mask sample gap tolerance budget first last jumps size read v (shown_burst (origin_of (mark_in numbers)) o) may e ∙ ap (λ (x : Option ℕ). shown_burst (origin_of x) o) h.mark_is)

  export_says : (mask : ℕ) (q : Asker) (gap tolerance budget : ℕ) → Unrefused mark mask q → (o : Option Burst) × ExportSays numbers m mask q gap tolerance budget o
  export_says mask (service sample) gap tolerance budget u =
      let ends : List ℕ = 0 ∷ 0 ∷ 0 ∷ 0 ∷ [] in
      let a = (exports_answer numbers m h).burst_is mask sample gap tolerance budget ends refl 0 in
      let w = burst_search (at run) (length run) mask sample gap tolerance budget in
      (w.found, (ends, 0, refl, a.answer, a.allowed, ap (λ (x : Bursted). perhaps_in x.code (burst_in x.ends)) (a.is a.answer a.allowed) ∙ read_back w.found w.steps ends))
  export_says mask (mill grant sample) gap tolerance budget u =
      let jumps : List ℕ = 0 ∷ 0 ∷ [] in
      let a = (mill_exports_answer numbers m h grant).burst_is mask sample gap tolerance budget (pos 0) (pos 0) jumps refl 0 in
      let w = burst_search (at run) (length run) mask (place_at (origin_of mark) sample) gap tolerance budget in (
        w.found,
        (
          pos 0,
          pos 0,
          jumps,
          0,
          refl,
          a.answer,
          a.allowed,
          ap (read_in (pos 0) (pos 0) jumps 0) (a.is a.answer a.allowed ∙ ap (λ (n : ℕ). written (pos 0) (pos 0) jumps 0 (unless n (through (shown_burst (origin_of mark)) w))) u)
              ∙ mill_read_back (pos 0) (pos 0) jumps 0 (shown_burst (origin_of mark) w.found) w.steps
              ∙ ap (λ (x : Option ℕ). given (shown_burst (origin_of x) w.found)) (sym h.mark_is),
        ),
      )

  exports : Promised (at run) (length run) (place_of mark) (ExportSays numbers m)
  exports = promised (at run) (length run) (few run mark (capture_in numbers) m h) (place_of mark) (ExportSays numbers m) export_said

pub bursts_that_meet : BurstsThatMeet
bursts_that_meet = record {
  rule = λ s len l. promised s len l (λ (sample : ℕ). sample) (λ mask sample gap tolerance budget answer. burst s len mask sample gap tolerance budget ≡ answer) (λ mask sample gap tolerance budget answer e. e);
  calls = calls;
  may = says;
  moved = λ run mark c m h grant mask sample gap tolerance budget v w may e.
      (burst (at run) (length run) mask (place_at (origin_of mark) sample) gap tolerance budget, sym (moved_to run mark c m h grant mask sample gap tolerance budget v w may e));
  recorded = λ r. calls (recordings.run r) (recordings.mark r) (recordings.store r) r.memory.store (selection r).held;
  appended = λ a. calls (appends.stored a) None a.capture a.memory (appends_stored a).held;
  exports = exports;
  export_may = export_says;
  export_moved = λ run mark numbers m h grant mask sample gap tolerance budget first last jumps size read v x may e.
      (burst (at run) (length run) mask (place_at (origin_of mark) sample) gap tolerance budget, sym (export_moved_to run mark numbers m h grant mask sample gap tolerance budget first last jumps size read v x may e));
  pushed = λ r. exports (exported.run r) (exported.mark r) (exported.asked r) r.memory.store (recording_held r);
  filled = λ a. exports (filled.stored a) None a.numbers a.memory (filling_held a);
}
