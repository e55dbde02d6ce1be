-- What was written, by the equations of a writing: the file stands in front of the output.
use mathlib.Core.Path.{◌≡◌, sym, ap, ◌∙◌}
use mathlib.Core.Bool.{false}
use mathlib.Core.List.{List, [], ◌∷◌, ◌++◌}
use mathlib.Core.Logic.{◌↔◌}
use Prim.Native.Nat.{ℕ, ◌*◌, ◌≤◌}
use native.Mathlib.Nat.{mul-le-mul_right, le_trans}
use native.Mathlib.Omega.{arith}
use lib.ListN.{length, take, drop}
use lib.Seq.{take_at, take_all}
use Rattle.rules.specs.Answer.{Answer, given, unrefused}
use Rattle.rules.specs.Refusal.{Store, Lent, first_of, store_wrong}
use Rattle.rules.specs.Shelf.{heading_of, filed_of, file_of, file_len}
use Rattle.rules.specs.ShelfCalls.{output_row, write_refusal, write_answer, written_to, write_output}
use Rattle.rules.proofs.Refusal.{Sound, MarkInside, row_passed, rows_passed}
use Rattle.rules.proofs.Shelf.{Filled, store_filled, file_length, one_capture}
use Rattle.capture.specs.Record.{lent_of}
use Rattle.capture.proofs.Answer.{unless_given}
use Rattle.claim_captures.specs.Words.{Memory, levels}

abbrev pub lent_in : Memory → Lent
lent_in m = lent_of m.samples (levels m)

pub record Wrote (st : Store) (m : Memory) (output : List ℕ) (answer : Answer ℕ) (output' : List ℕ) : Type 0 where
  pub answer_is : answer ≡ write_answer st (lent_in m) (length output)
  pub output_is : output' ≡ write_output st (lent_in m) m.samples output

-- a length was given
module _ {st : Store} {m : Memory} {output : List ℕ} {n : ℕ} {output' : List ℕ} (w : Wrote st m output (given n) output') where
  given_is : (write_refusal st (lent_in m) (length output) ≡ 0) × (file_len (heading_of st) ≡ n)
  given_is = unless_given (file_len (heading_of st)) (write_refusal st (lent_in m) (length output)) n (sym w.answer_is)

  let_in : Sound st (lent_in m) × MarkInside st × (first_of (output_row st (length output) ∷ []) ≡ 0)
  let_in = (rows_passed st (lent_in m) (output_row st (length output) ∷ [])).0 given_is.0

  pub in_range : store_wrong st ≡ false
  in_range = ((row_passed 1 _ (store_wrong st) (omega arith)).0 given_is.0).0

  pub given_length : file_len (heading_of st) ≡ n
  given_length = given_is.1

  stored_fits : st.len * st.unit ≤ length m.samples
  stored_fits = le_trans (mul-le-mul_right st.unit let_in.0.len_most) let_in.0.samples

  pub written_filled : Filled (filed_of st m.samples)
  written_filled = store_filled st m.samples in_range stored_fits

  whole : length (file_of (filed_of st m.samples)) ≡ n
  whole = file_length written_filled ∙ given_is.1

  -- the file stands in front
  pub file_in : take n output' ≡ file_of (filed_of st m.samples)
  file_in =
      ap (take n)
      (w.output_is
      ∙ ap (λ (k : ℕ). written_to k (file_of (filed_of st m.samples)) output) (ap (λ (r : ℕ). unrefused r (file_len (heading_of st))) given_is.0 ∙ given_is.1)
      ∙ ap (λ (l : List ℕ). l ++ drop n output) (take_all n (file_of (filed_of st m.samples)) (omega (arith, whole))))
      ∙ take_at (file_of (filed_of st m.samples)) (drop n output) n whole

-- "each capture has one file"
pub same_file : {st₁ : Store} {m₁ : Memory} {output₁ : List ℕ} {n₁ : ℕ} {output₁' : List ℕ} {st₂ : Store} {m₂ : Memory} {output₂ : List ℕ} {n₂ : ℕ} {output₂' : List ℕ}
    → Wrote st₁ m₁ output₁ (given n₁) output₁' → Wrote st₂ m₂ output₂ (given n₂) output₂'
    → (take n₁ output₁' ≡ take n₂ output₂') ↔ (filed_of st₁ m₁.samples ≡ filed_of st₂ m₂.samples)
same_file one two = (
  λ e. one_capture (written_filled one) (written_filled two) (sym (file_in one) ∙ e ∙ file_in two),
  λ e. file_in one ∙ ap file_of e ∙ sym (file_in two),
)
