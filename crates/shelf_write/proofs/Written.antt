-- What writing answers and leaves where rows 1 and 2 refuse.
use mathlib.Core.Path.{◌≡◌, sym, ap}
use mathlib.Core.List.{List, [], ◌∷◌}
use Prim.Native.Nat.{ℕ}
use native.Mathlib.Omega.{arith}
use lib.ListN.{length}
use Rattle.rules.specs.Refusal.{Store, store_refusal}
use Rattle.rules.specs.Shelf.{heading_of, filed_of, file_of, file_len}
use Rattle.rules.specs.ShelfCalls.{write_refusal, written_to, output_row}
use Rattle.capture.specs.Record.{lent_of}
use Rattle.capture.proofs.Calls.{unrefused_none}
use Rattle.shelf_write.specs.Write.{Writes}
use Rattle.std.specs.Prelude.{Err}
use Rattle.answer.specs.declared.Refusal.{Refusal}
use Rattle.answer.specs.Answered.{number}
use Rattle.answer.proofs.Answered.{number_least, stops}
use Rattle.capture.proofs.Answer.{rows_refuse}

-- 1 or 2 comes first, and nothing is written
module _ (st : Store) (samples : List ℕ) (levels : ℕ → List ℕ) (output : List ℕ) (r : Refusal) (e : number r ≡ store_refusal st (lent_of samples levels)) where
  refuses : number r ≡ write_refusal st (lent_of samples levels) (length output)
  refuses = rows_refuse st (lent_of samples levels) (output_row st (length output) ∷ []) e (λ z. omega (arith, number_least r))

  pub writes_shut : Writes st samples levels output (Err r) output
  writes_shut = record {
    answer_is = stops r _ (file_len (heading_of st)) refuses;
    output_is = ap (λ (k : ℕ). written_to k (file_of (filed_of st samples)) output) (sym (unrefused_none refuses (λ z. omega (arith, number_least r)) (file_len (heading_of st))));
  }
