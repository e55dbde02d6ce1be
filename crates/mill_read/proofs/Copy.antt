-- Samples that a mill copies: the service's copy, cut down to the grant.
use Prim.Native.Nat.{ℕ, zero, suc, ◌≤◌}
use mathlib.Core.Path.{◌≡◌, refl, sym, ap, ◌∙◌, subst, subst⁻¹}
use mathlib.Core.Bool.{false}
use mathlib.Core.List.{List, [], ◌∷◌}
use Rattle.std.specs.Prelude.{Result, Ok, Err}
use native.Mathlib.Omega.{arith}
use lib.Bits.{bit_and}
use lib.Dec.{ltb}
use lib.IntN.{ℤ, pos}
use lib.ListN.{length}
use borrow.Author.Tests.{ltb-false}
use Rattle.rules.specs.Reading.{copied_to}
use Rattle.rules.specs.Sample.{sample_of}
use Rattle.rules.specs.Answer.{refused, unless, unrefused}
use Rattle.rules.specs.Refusal.{Row, copied, copy_row, samples_refusal}
use Rattle.rules.specs.Mill.{place_at, mill_samples_refusal}
use Rattle.rules.proofs.Refusal.{row_passed}
use Rattle.answer.specs.Answered.{number, told_of}
use Rattle.answer.specs.declared.Refusal.{Refusal}
use Rattle.answer.proofs.Answered.{number_least, stops}
use Rattle.node.specs.Lent.{levels_of}
use Rattle.node.specs.declared.Memory.{Memory}
use Rattle.capture.specs.declared.Capture.{Capture}
use Rattle.capture.specs.declared.stored.Stored.{Stored}
use Rattle.capture.specs.Record.{store_of, lent_in}
use Rattle.capture.specs.Calls.{Copies}
use Rattle.capture.proofs.Answer.{unless_given}
use Rattle.capture.proofs.Calls.{none_copied, all_copied, over_none, length_over}
use Rattle.capture.proofs.Opened.{rows_open}
use Rattle.mill.specs.Reader.{origin_in, Passed, Passes, cut_first}
use Rattle.mill.proofs.Under.{under_shut, under_open}
use Rattle.mill.proofs.Cut.{cut_over}
use Rattle.mill_read.specs.Read.{MillCopies}

-- a refusal copies nothing
refusal_copies : (n k m : ℕ) → refused m ≡ unless n k → unrefused n k ≡ 0
refusal_copies zero k m e = let z : ◌≡◌ {A = ℕ} 0 1 = cc in absurd (omega arith)
refusal_copies (suc n) k m e = refl

-- a call at the mill's place p
module _ (c : Capture) (m : Memory) (grant : ℕ) (p : ℤ) (count : ℕ) (output : List ℕ) where
  -- the place of the run, how many are copied from there, the service's own row, and the first row that holds
  abbrev i : ℕ
  i = place_at (origin_in c) p

  abbrev k : ℕ
  k = copied c.len i count

  abbrev own : List Row
  own = copy_row c.len i count (length output) ∷ []

  abbrev rows : ℕ
  rows = mill_samples_refusal (store_of c) (lent_in m) p count (length output)

  abbrev shown : ℕ → ℕ
  shown j = bit_and (sample_of c.unitsize m.samples.now j) grant

  pub copies_shut : (r : Refusal) → Passes c m false p (pos 0) (Err r) → MillCopies (store_of c) m.samples.now (levels_of m.levels) grant p count output (Err r) output
  copies_shut r e =
      let n : number r ≡ rows = under_shut c m false p (pos 0) r e own in
      record { answer_is = stops r rows k n; output_is = none_copied shown i k output n (λ z. omega (arith, number_least r)) }

  -- where the mill's rows pass, what the service answers and leaves; j is the place as the code has it
  module _ {s : Stored} (d : Passed c m false p (pos 0) s) (j : ℕ) (at : j ≡ i) (output' : List ℕ) where
    same : rows ≡ samples_refusal (store_of c) (lent_in m) i count (length output)
    same = under_open d own ∙ sym (rows_open d.opened own)

    placed : (r : Result ℕ Refusal) → Copies (store_of c) m.samples.now (levels_of m.levels) j count output r output' → Copies (store_of c) m.samples.now (levels_of m.levels) i count output r output'
    placed r = subst (λ (x : ℕ). Copies (store_of c) m.samples.now (levels_of m.levels) x count output r output') at

    answer : (r : Result ℕ Refusal) → Copies (store_of c) m.samples.now (levels_of m.levels) i count output r output' → told_of r ≡ unless rows k
    answer r service = service.answer_is ∙ ap (λ (x : ℕ). unless x k) (sym same)

    pub copies_none : (r : Refusal) → Copies (store_of c) m.samples.now (levels_of m.levels) j count output (Err r) output' → MillCopies (store_of c) m.samples.now (levels_of m.levels) grant p count output (Err r) output'
    copies_none r by_code = record {
      answer_is = answer (Err r) service;
      output_is =
          service.output_is
          ∙ ap (λ (x : ℕ). copied_to (sample_of c.unitsize m.samples.now) i x output) (ap (λ (x : ℕ). unrefused x k) (sym same) ∙ none)
          ∙ sym (over_none (sample_of c.unitsize m.samples.now) i output)
          ∙ over_none shown i output
          ∙ ap (λ (x : ℕ). copied_to shown i x output) (sym none);
    }
      where
        service : Copies (store_of c) m.samples.now (levels_of m.levels) i count output (Err r) output'
        service = placed (Err r) by_code

        none : unrefused rows k ≡ 0
        none = refusal_copies rows k (number r) (answer (Err r) service)

    module _ (n : ℕ) (by_code : Copies (store_of c) m.samples.now (levels_of m.levels) j count output (Ok n) output') where
      service : Copies (store_of c) m.samples.now (levels_of m.levels) i count output (Ok n) output'
      service = placed (Ok n) by_code

      passes : (rows ≡ 0) × (k ≡ n)
      passes = unless_given k rows n (sym (answer (Ok n) service))

      enough : n ≤ length output
      enough = omega (arith, passes.1, ltb-false (length output) k ((row_passed 11 0 (ltb (length output) k) (omega arith)).0 (sym (under_open d own) ∙ passes.0)).0)

      copied_is : output' ≡ copied_to (sample_of c.unitsize m.samples.now) i n output
      copied_is = service.output_is ∙ ap (λ (x : ℕ). copied_to (sample_of c.unitsize m.samples.now) i (unrefused x k) output) (sym same ∙ passes.0) ∙ ap (λ (x : ℕ). copied_to (sample_of c.unitsize m.samples.now) i x output) passes.1

      -- there is room to cut
      pub copies_room : n ≤ length output'
      copies_room = subst⁻¹ (λ (l : List ℕ). n ≤ length l) copied_is (omega (arith, length_over (sample_of c.unitsize m.samples.now) i n output enough, enough))

      pub copies_cut : (cut : List ℕ) → cut ≡ cut_first grant n output' → MillCopies (store_of c) m.samples.now (levels_of m.levels) grant p count output (Ok n) cut
      copies_cut cut is = record {
        answer_is = answer (Ok n) service;
        output_is = is ∙ ap (cut_first grant n) copied_is ∙ cut_over grant (sample_of c.unitsize m.samples.now) i n output ∙ ap (λ (x : ℕ). copied_to shown i x output) (sym passes.1) ∙ all_copied shown i k output {n = rows} refl passes.0;
      }
