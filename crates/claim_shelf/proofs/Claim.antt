-- The claims over the calls' contracts.
use mathlib.Core.Path.{◌≡◌, refl, sym, ap, ◌∙◌, subst, subst⁻¹}
use mathlib.Core.Bool.{Bool, not}
use mathlib.Core.List.{List, [], ◌∷◌}
use Rattle.std.specs.Prelude.{Option, Ok}
use Prim.Native.Nat.{ℕ, ◌+◌}
use native.Mathlib.Omega.{arith}
use lib.ListN.{length, take}
use Rattle.rules.specs.Sample.{sample_of, list_from}
use Rattle.rules.specs.Answer.{Answer, given}
use Rattle.rules.specs.Refusal.{Store, first_of}
use Rattle.rules.specs.Shelf.{heading_of, heading_in, bytes_in, file_len, file_test}
use Rattle.rules.specs.ShelfCalls.{output_row, write_refusal, write_output, store_in, capacity_wrong, store_short, read_refusal, read_count}
use Rattle.rules.proofs.Sample.{list_same}
use Rattle.rules.proofs.SampleBytes.{list_whole}
use Rattle.claim_alike.proofs.Rows.{Known, Told, first_told, result_for}
use Rattle.answer.specs.declared.Refusal.TheVariants.{Record, Room, File}
use Rattle.answer.specs.Answered.{answer_of}
use Rattle.capture.specs.declared.Capture.{Capture}
use Rattle.capture.specs.Record.{store_of}
use Rattle.shelf_head.specs.Head.{length_of}
use Rattle.claim_captures.specs.Words.{Memory, at, OfUnit, Same}
use Rattle.claim_captures.specs.Claim.{Held}
use Rattle.claim_captures.proofs.Rows.{store_told}
use Rattle.claim_captures.proofs.Answers.{anywhere, somewhere}
use Rattle.claim_captures.proofs.Alike.{captures_alike}
use Rattle.claim_recording.specs.Claim.{run, mark, store}
use Rattle.claim_recording.proofs.Selection.{selection}
use Rattle.claim_shelf.specs.Files.{run_in, Enough}
use Rattle.claim_shelf.specs.Files as Read
use Rattle.claim_shelf.specs.Claim.{Writes, Reads, FilesUndone, FiledAlike, RecordingsFiled}
use Rattle.claim_shelf.proofs.Written.{lent_in, Wrote}
use Rattle.claim_shelf.proofs.NewStore.{filled_with, filled_is}
use Rattle.claim_shelf.proofs.Taken.{WasRead}
use Rattle.claim_shelf.proofs.Files.{read_same, files}

pub wrote : (st : Store) (m : Memory) (output : List ℕ) (answer : Answer ℕ) (output' : List ℕ) → Writes st m output answer output' → Wrote st m output answer output'
wrote st m output answer output' (c, v, c-is, (κs, p, o, promised), v-is) =
    subst (λ (x : Store). Wrote x m output answer output') c-is (record { answer_is = sym v-is ∙ promised.answer_is; output_is = promised.output_is })

pub was_read : (capacity : ℕ) (file : List ℕ) (m : Memory) (answer : Answer Store) (m' : Memory) → Reads capacity file m answer m' → WasRead capacity file m answer m'
was_read capacity file m answer m' (v, (κs, p, f, promised), v-is) = record { answer_is = sym v-is ∙ promised.answer_is; memory = promised.memory }

-- ---- there is always an answer
-- the code's record of a store
abbrev pub record_for : Store → Capture
record_for st = record { unitsize = st.unit; capacity = st.capacity; len = st.len; trigger = st.mark }

-- rows 1, that of a file, and 15
pub file_told : (number : ℕ) → Known number → (wrong bad short : Bool) → Told (first_of (record { number = 1; holds = wrong } ∷ record { number = number; holds = bad } ∷ record { number = 15; holds = short } ∷ []))
file_told number k wrong bad short =
    first_told (record { number = 1; holds = wrong } ∷ record { number = number; holds = bad } ∷ record { number = 15; holds = short } ∷ []) ((Record, refl), (k, ((Room, refl), tt)))

module _ (st : Store) (m : Memory) (output : List ℕ) where
  write_row : Told (write_refusal st (lent_in m) (length output))
  write_row = store_told st (lent_in m) (output_row st (length output) ∷ []) ((Room, refl), tt)

  may_write : (answer : Answer ℕ) × (output' : List ℕ) × Writes st m output answer output'
  may_write =
      let v = result_for (λ x. x) (write_refusal st (lent_in m) (length output)) (file_len (heading_of st)) _ refl write_row in (
        length_of v.0,
        write_output st (lent_in m) m.samples output,
        (record_for st, v.0, refl, (([], ([], tt)), somewhere, anywhere, record { answer_is = v.1; output_is = refl }), refl),
      )

module _ (capacity : ℕ) (file : List ℕ) (m : Memory) where
  -- the memory that a reading leaves
  abbrev pub read_leaves : Memory
  read_leaves = filled_with (heading_in file).unit (read_count capacity (lent_in m) file) (bytes_in file) m

  read_row : Told (read_refusal capacity (lent_in m) file)
  read_row = file_told 16 (File, refl) (capacity_wrong capacity) (not (file_test file)) (store_short capacity (lent_in m) (heading_in file))

  may_read : (answer : Answer Store) × (m' : Memory) × Reads capacity file m answer m'
  may_read =
      let v = result_for store_of (read_refusal capacity (lent_in m) file) (record_for (store_in capacity (heading_in file))) _ refl read_row in (
        answer_of store_of v.0,
        read_leaves,
        (v.0, (([], ([], ([], ([], ([], ([], tt)))))), somewhere, anywhere, record { answer_is = v.1; memory = filled_is (heading_in file).unit (read_count capacity (lent_in m) file) (bytes_in file) m }), refl),
      )

pub files_undone : FilesUndone
files_undone = files wrote was_read may_write may_read

-- ---- alike
-- a run is the same as itself to every viewer
pub itself : (v : ℕ) (run : List ℕ) (mark : Option ℕ) → Same v run mark run mark
itself v run mark = record { marks = refl; runs = record { len = refl; lines = λ i h. refl } }

-- what was read from a capture's file holds its run
module _ {run : List ℕ} {mark : Option ℕ} {c : Capture} {m : Memory} {output : List ℕ} {n : ℕ} {output' : List ℕ} (h : Held run mark c m) (w : Wrote (store_of c) m output (given n) output') where
  same_run : run_in (store_of c) m ≡ run
  same_run =
      list_same (sample_of c.unitsize m.samples) (at run) 0 0 c.len (λ i l. h.samples_are (0 + i) (omega (arith, l, h.len_is)))
      ∙ ap (list_from (at run) 0) h.len_is
      ∙ sym (list_whole (length run) run refl)

  pub held_again : {capacity : ℕ} {m₂ : Memory} {st₂ : Store} {m₂' : Memory} → Enough capacity (store_of c) m₂ → WasRead capacity (take n output') m₂ (given st₂) m₂'
      → (d : Capture) → store_of d ≡ st₂ → Held run mark d m₂'
  held_again {capacity} {m₂} {st₂} {m₂'} e r d d-is =
      subst (λ (x : List ℕ). Held x mark d m₂') same_run
      (subst (λ (x : Option ℕ). Held (run_in (store_of c) m) x d m₂') h.mark_is (again.held d (d-is ∙ given_same again.answer_is)))
    where
      again : Read.Same capacity (store_of c) m (given st₂) m₂'
      again = read_same w e r (subst⁻¹ (λ (x : List ℕ). OfUnit c.unitsize (at x) (length x)) same_run h.words)

      given_same : {x y : Store} → given x ≡ given y → x ≡ y
      given_same q = cc

pub filed_alike : FiledAlike
filed_alike run mark c m h output n output' w capacity m₂ d m₂' e r v =
    (captures_alike run mark c m run mark d m₂' h
    (held_again h (wrote (store_of c) m output (given n) output' (c, Ok n, refl, w, refl)) e (was_read capacity (take n output') m₂ (given (store_of d)) m₂' (Ok d, r, refl)) d refl)
    v).2.1 (itself v run mark)

pub recordings_filed : RecordingsFiled
recordings_filed r output n output' w capacity m d m' e x v =
    filed_alike (run r) (mark r) (store r) r.memory.store (selection r).held output n output' w capacity m d m' e x v
