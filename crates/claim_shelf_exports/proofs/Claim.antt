-- The claims over the exports' contracts.
use mathlib.Core.Path.{◌≡◌, refl, sym, ap, ◌∙◌, subst}
use mathlib.Core.List.{List, [], ◌∷◌}
use Prim.Native.Nat.{ℕ, zero, suc}
use lib.ListN.{length, take}
use Rattle.rules.specs.Answer.{Answer, given, unless}
use Rattle.rules.specs.Refusal.{Store}
use Rattle.rules.specs.Shelf.{heading_of, heading_in, bytes_in, file_len}
use Rattle.rules.specs.ShelfCalls.{write_refusal, write_output, store_in, read_refusal, read_count}
use Rattle.capture.specs.Record.{store_of}
use Rattle.codes.specs.Code.{plain, Out}
use Rattle.codes.specs.Record.{capture_in, number, store_numbers}
use Rattle.codes.proofs.ReadBack.{store_back}
use Rattle.claim_captures.specs.Words.{Memory}
use Rattle.claim_captures.proofs.Answers.{anywhere, somewhere}
use Rattle.claim_exports.specs.Claim.{asked, run, mark}
use Rattle.claim_exports.proofs.Alike.{exports_alike}
use Rattle.claim_exports.proofs.Recordings.{recording_held}
use Rattle.claim_shelf.proofs.Written.{lent_in, Wrote}
use Rattle.claim_shelf.proofs.Taken.{WasRead}
use Rattle.claim_shelf.proofs.Files.{files}
use Rattle.claim_shelf.proofs.NewStore.{filled_is}
use Rattle.claim_shelf.proofs.Claim.{itself, read_leaves, held_again}
use Rattle.claim_shelf_exports.specs.Claim.{Writes, Reads, FilesUndone, FiledAlike, RecordingsFiled}

-- what stands behind a pointer, read, is what the code says
told : {A B : Type 0} (write : A → B → B) (read : B → A) (n : ℕ) (x : A) {code : ℕ} {old new : B} → Out write (plain (unless n x)) code old new → read (write x old) ≡ x
    → unless code (read new) ≡ unless n x
told write read zero x {code} {old} {new} o back =
    ap (λ (k : ℕ). unless k (read new)) o.code_is ∙ ap given (ap read o.value_is ∙ back)
told write read (suc n) x {code} {old} {new} o back = ap (λ (k : ℕ). unless k (read new)) o.code_is

pub wrote : (st : Store) (m : Memory) (output : List ℕ) (answer : Answer ℕ) (output' : List ℕ) → Writes st m output answer output' → Wrote st m output answer output'
wrote st m output answer output' (numbers, old, code, new, st-is, (κs, n, p, o, k, promised), told_is) =
    subst (λ (x : Store). Wrote x m output answer output') st-is
    (record {
      answer_is = sym told_is ∙ told number (λ v. v) (write_refusal (store_of (capture_in numbers)) (lent_in m) (length output)) (file_len (heading_of (store_of (capture_in numbers)))) promised.length_is refl;
      output_is = promised.output_is;
    })

pub was_read : (capacity : ℕ) (file : List ℕ) (m : Memory) (answer : Answer Store) (m' : Memory) → Reads capacity file m answer m' → WasRead capacity file m answer m'
was_read capacity file m answer m' (numbers, five, code, numbers', (κs, p, f, n, promised), told_is) = record {
  answer_is = sym told_is ∙ told store_numbers (λ l. store_of (capture_in l)) (read_refusal capacity (lent_in m) file) (store_in capacity (heading_in file)) promised.record_is (store_back numbers five (store_in capacity (heading_in file)));
  memory = promised.memory;
}

-- ---- there is always an answer
-- what an export gives and leaves behind a pointer
code_for : {A B : Type 0} (write : A → B → B) (n : ℕ) (x : A) (old : B) → (code : ℕ) × (new : B) × Out write (plain (unless n x)) code old new
code_for write zero x old = (0, write x old, record { code_is = refl; value_is = refl })
code_for write (suc n) x old = (suc n, old, record { code_is = refl; value_is = refl })

abbrev blank : List ℕ
blank = 0 ∷ 0 ∷ 0 ∷ 0 ∷ 0 ∷ []

may_write : (st : Store) (m : Memory) (output : List ℕ) → (answer : Answer ℕ) × (output' : List ℕ) × Writes st m output answer output'
may_write st m output =
    let numbers = store_numbers st blank in
    let own = store_of (capture_in numbers) in
    let v = code_for number (write_refusal own (lent_in m) (length output)) (file_len (heading_of own)) 0 in (
      unless v.0 v.1,
      write_output own (lent_in m) m.samples output,
      (numbers, 0, v.0, v.1, store_back blank refl st, (([], ([], ([], ([], ([], tt))))), anywhere, somewhere, anywhere, record { ref_ptr = (0, 0); ghost_name = 0; now = 0 }, record { length_is = v.2; output_is = refl }), refl),
    )

may_read : (capacity : ℕ) (file : List ℕ) (m : Memory) → (answer : Answer Store) × (m' : Memory) × Reads capacity file m answer m'
may_read capacity file m =
    let v = code_for store_numbers (read_refusal capacity (lent_in m) file) (store_in capacity (heading_in file)) blank in (
      unless v.0 (store_of (capture_in v.1)),
      read_leaves capacity file m,
      (blank, refl, v.0, v.1, (([], ([], ([], ([], ([], ([], ([], tt))))))), somewhere, anywhere, anywhere, record { record_is = v.2; memory = filled_is (heading_in file).unit (read_count capacity (lent_in m) file) (bytes_in file) m }), refl),
    )

pub files_undone : FilesUndone
files_undone = files wrote was_read may_write may_read

-- ---- alike
pub filed_alike : FiledAlike
filed_alike run mark numbers m h output old n output' w capacity m₂ zeroes numbers₂ m₂' five e r v =
    (exports_alike numbers m numbers₂ m₂' h
    (held_again h (wrote (store_of (capture_in numbers)) m output (given n) output' (numbers, old, 0, n, refl, w, refl)) e
    (was_read capacity (take n output') m₂ (given (store_of (capture_in numbers₂))) m₂' (zeroes, five, 0, numbers₂, r, refl)) (capture_in numbers₂) refl)
    v).1 (itself v run mark)

pub recordings_filed : RecordingsFiled
recordings_filed r output old n output' w capacity m zeroes numbers m' five e x v =
    filed_alike (run r) (mark r) (asked r) r.memory.store (recording_held r) output old n output' w capacity m zeroes numbers m' five e x v
