-- A store that the exports filled is one that the calls filled: the numbers read back as the record that each call returned. So they hold the samples that were taken.
use mathlib.Core.Path.{◌≡◌, refl, sym, ap, ap₂, ◌∙◌, subst, subst⁻¹}
use mathlib.Core.List.{List, [], ◌∷◌}
use mathlib.Core.Logic.{inl, inr}
use Rattle.std.specs.Prelude.{None, Result, Ok, Err}
use Prim.Native.Nat.{ℕ, zero, suc, ◌+◌}
use native.Mathlib.Nat.{suc-ne-zero}
use lib.ListN.{length, length-set}
use lib.Seq.{length-sets}
use Rattle.rules.specs.Answer.{given, unless}
use Rattle.rules.specs.Sample.{sample_count}
use Rattle.rules.specs.Refusal.{Store, fresh, store_refusal, room_row}
use Rattle.answer.specs.declared.Refusal.{Refusal}
use Rattle.answer.specs.declared.Refusal.TheVariants.{Full}
use Rattle.answer.specs.Answered as answered
use Rattle.claim_alike.proofs.Rows.{Told as RowTold}
use Rattle.capture.specs.declared.Capture.{Capture}
use Rattle.capture.specs.Record.{store_of, lent_of}
use Rattle.capture.specs.Numbers.{len_at}
use Rattle.store.specs.Stored.{Stored}
use Rattle.append.specs.Append.{Appends, record_of, grown, refusal_of, taken_of}
use Rattle.append.proofs.Answer.{taken_all, appends_refused, appends_done}
use Rattle.codes.specs.Code.{plain, Out}
use Rattle.codes.specs.Record.{capture_in, store_numbers}
use Rattle.codes.proofs.ReadBack.{store_back, len_back}
use Rattle.logic_core.specs.Asked.{AppendsOut}
use Rattle.claim_captures.specs.Words.{Memory, levels}
use Rattle.claim_captures.specs.Claim.{Held}
use Rattle.claim_captures.proofs.Rows.{store_told}
use Rattle.claim_captures.proofs.Answers.{anywhere, somewhere}
use Rattle.claim_appends.specs.Claim as calls
use Rattle.claim_appends.specs.Claim.Appending.{stop as called-stop, step as called-step}
use Rattle.claim_appends.proofs.Existence.{append_told}
use Rattle.claim_appends.proofs.Stored.{appends_stored}
use Rattle.claim_captures.proofs.Turns.{replayed, reversed}
use Rattle.claim_exports.specs.Questions.{SaysTurns}
use Rattle.claim_exports.specs.Filled.{MayStore, MayAppend, Appending, Filling, stored, Stores, Filled, DensitiesAdd, EncodersReplay, EncodersReverse}
use Rattle.claim_exports.specs.Filled.Appending.{stop, step}
use Rattle.claim_exports.proofs.Answers.{exports_answer}
use Rattle.claim_exports.proofs.Alike.{exports_alike, additive}
use Rattle.claim_exports.proofs.Turns.{exports_replay}

-- ---- start
-- code 0: no row refuses, and the numbers are the new store's
code_zero : (n : ℕ) (st : Store) (old new : List ℕ) → Out store_numbers (plain (unless n st)) 0 old new → (n ≡ 0) × (new ≡ store_numbers st old)
code_zero zero st old new out = (refl, out.value_is)
code_zero (suc n) st old new out = absurd (suc-ne-zero n (sym out.code_is))

store_size : (st : Store) (old : List ℕ) → length (store_numbers st old) ≡ length old
store_size st old = simp length-sets

module _ (channels capacity : ℕ) (m : Memory) (blank : List ℕ) (size : length blank ≡ 5) (numbers : List ℕ) (may : MayStore channels capacity m blank 0 numbers) where
  started : (store_refusal (fresh channels capacity) (lent_of m.samples (levels m)) ≡ 0) × (numbers ≡ store_numbers (fresh channels capacity) blank)
  started = code_zero (store_refusal (fresh channels capacity) (lent_of m.samples (levels m))) (fresh channels capacity) blank numbers may.3

  fresh_is : store_of (capture_in numbers) ≡ fresh channels capacity
  fresh_is = ap (λ (l : List ℕ). store_of (capture_in l)) started.1 ∙ store_back blank size (fresh channels capacity)

  fresh_size : length numbers ≡ 5
  fresh_size = ap length started.1 ∙ store_size (fresh channels capacity) blank ∙ size

-- ---- one append
module _ (numbers : List ℕ) (size : length numbers ≡ 5) (m : Memory) (bytes : List ℕ) (code : ℕ) (numbers' : List ℕ) (m' : Memory) (may : MayAppend numbers m bytes code numbers' m') where
  abbrev c : Capture
  c = capture_in numbers

  out : AppendsOut c bytes m.samples (levels m) code numbers numbers' m'.samples (levels m')
  out = may.4

  -- the answer of the call under it
  told : (v : Result Capture Refusal) × Appends c bytes m.samples (levels m) v m'.samples (levels m')
  told = go (append_told c m bytes)
    where
      go : RowTold (refusal_of c m.samples (levels m) bytes) → (v : Result Capture Refusal) × Appends c bytes m.samples (levels m) v m'.samples (levels m')
      go (inl z) = (
        Ok (grown c (sample_count c.unitsize bytes)),
        appends_done c bytes m.samples (levels m) (sym z) m'.samples (levels m')
            (subst (λ (n : ℕ). Stored c.unitsize c.len n bytes m.samples (levels m) m'.samples (levels m')) (taken_all c bytes m.samples (levels m) z) out.memory),
      )
      go (inr r) =
          let d = appends_refused c bytes m.samples (levels m) r.0 r.1 in
          (Err r.0, record { answer_is = d.answer_is; number_is = d.number_is; record_is = d.record_is; memory = out.memory })

  reads : capture_in numbers' ≡ grown c (taken_of c m.samples (levels m) bytes)
  reads = ap capture_in out.numbers_are ∙ len_back numbers size (c.len + taken_of c m.samples (levels m) bytes)

  appended_size : length numbers' ≡ 5
  appended_size = ap length out.numbers_are ∙ length-set numbers len_at (c.len + taken_of c m.samples (levels m) bytes) ∙ size

  may_append : calls.MayAppend c m bytes told.0 m'
  may_append = (([], ([], ([], ([], ([], ([], tt)))))), somewhere, anywhere, told.1)

  -- the record that it returned is what the numbers read
  record_told : record_of c told.0 ≡ capture_in numbers'
  record_told = told.1.record_is ∙ sym reads

  code_told : code ≡ answered.refusal_of told.0
  code_told = out.code_is ∙ sym told.1.number_is

-- ---- a list
record Told (numbers : List ℕ) (m : Memory) (appends : List (List ℕ)) (codes numbers'' : List ℕ) (m'' : Memory) : Type 0 where
  said : List ℕ
  appended : calls.Appending (capture_in numbers) m appends said (capture_in numbers'') m''
  codes_are : codes ≡ said

all_told : (numbers : List ℕ) → length numbers ≡ 5 → {m : Memory} {appends : List (List ℕ)} {codes numbers'' : List ℕ} {m'' : Memory} → Appending numbers m appends codes numbers'' m'' → Told numbers m appends codes numbers'' m''
all_told numbers size stop = record { said = []; appended = called-stop; codes_are = refl }
all_told numbers size {m = m} (step {bytes = bytes} {code = code} {numbers' = numbers'} {m' = m'} {appends = appends} {numbers'' = numbers''} {m'' = m''} may rest) =
    let v = told numbers size m bytes code numbers' m' may in
    let more = all_told numbers' (appended_size numbers size m bytes code numbers' m' may) rest in
    record {
      said = answered.refusal_of v.0 ∷ more.said;
      appended = called-step (may_append numbers size m bytes code numbers' m' may) (subst⁻¹ (λ (x : Capture). calls.Appending x m' appends more.said (capture_in numbers'') m'') (record_told numbers size m bytes code numbers' m' may) more.appended);
      codes_are = ap₂ (λ (n : ℕ) (ns : List ℕ). n ∷ ns) (code_told numbers size m bytes code numbers' m' may) more.codes_are;
    }

-- ---- the store that the calls filled
module _ (a : Filling) where
  done : Told a.fresh a.before a.appends a.codes a.numbers a.memory
  done = all_told a.fresh (fresh_size a.channels a.capacity a.before a.blank a.five a.fresh a.started) a.appended

  abbrev filled_by : calls.Filling
  filled_by = record {
    channels = a.channels;
    capacity = a.capacity;
    before = a.before;
    fresh = capture_in a.fresh;
    started = (
      ([], tt),
      somewhere,
      ap given (fresh_is a.channels a.capacity a.before a.blank a.five a.fresh a.started)
          ∙ sym (ap (λ (n : ℕ). unless n (fresh a.channels a.capacity)) (started a.channels a.capacity a.before a.blank a.five a.fresh a.started).0),
    );
    appends = a.appends;
    are_bytes = a.are_bytes;
    numbers = done.said;
    capture = capture_in a.numbers;
    memory = a.memory;
    appended = done.appended;
  }

  pub filling_held : Held (stored a) None (capture_in a.numbers) a.memory
  filling_held = (appends_stored filled_by).held

  stores : Stores a
  stores = record {
    len_is = filling_held.len_is;
    mark_is = filling_held.mark_is;
    codes_are = done.codes_are ∙ (appends_stored filled_by).numbers_are;
  }

pub filled : Filled
filled one two v = (
  stores one,
  stores two,
  exports_answer one.numbers one.memory (filling_held one),
  exports_answer two.numbers two.memory (filling_held two),
  exports_alike one.numbers one.memory two.numbers two.memory (filling_held one) (filling_held two) v,
)

pub densities_add : DensitiesAdd
densities_add a = additive a.numbers a.memory (filling_held a)

pub encoders_replay : EncodersReplay
encoders_replay a = replayed (stored a) (SaysTurns a.numbers a.memory) (exports_replay a.numbers a.memory (filling_held a))

pub encoders_reverse : EncodersReverse
encoders_reverse one two =
    reversed (stored one) (SaysTurns one.numbers one.memory) (stored two) (SaysTurns two.numbers two.memory) (exports_replay one.numbers one.memory (filling_held one)) (exports_replay two.numbers two.memory (filling_held two))
