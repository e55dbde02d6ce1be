-- What the exports of shelf files say. 02: CR 7 and 8.
use Rattle.std.specs.Prelude.{◌≡◌, List, ℕ, length}
use Rattle.rules.specs.Refusal.{Store}
use Rattle.rules.specs.Shelf.{heading_in, bytes_in}
use Rattle.rules.specs.ShelfCalls.{write_answer, write_output, read_answer, read_count}
use Rattle.rules.specs.Salvage.{salvaged_bytes, salvage_answer, salvage_count, salvage_list}
use Rattle.store.specs.Stored.{Stored}
use Rattle.capture.specs.Record.{lent_of}
use Rattle.codes.specs.Code.{plain, Out}
use Rattle.codes.specs.Record.{number, store_numbers}
use Rattle.shelf_codes.specs.Salvaged.{SalvagedOut}

-- writing: the code, the length behind a pointer, and the output
pub record WritesOut (st : Store) (samples : List ℕ) (levels : ℕ → List ℕ) (output : List ℕ) (code old new : ℕ) (output' : List ℕ) : Type 0 where
  pub length_is : Out number (plain (write_answer st (lent_of samples levels) (length output))) code old new
  pub output_is : output' ≡ write_output st (lent_of samples levels) samples output

-- reading: the code, the record's numbers, and the memory
pub record ReadsOut (capacity : ℕ) (file samples : List ℕ) (levels : ℕ → List ℕ) (code : ℕ) (numbers numbers' samples' : List ℕ) (levels' : ℕ → List ℕ) : Type 0 where
  pub record_is : Out store_numbers (plain (read_answer capacity (lent_of samples levels) file)) code numbers numbers'
  pub memory : Stored (heading_in file).unit 0 (read_count capacity (lent_of samples levels) file) (bytes_in file) samples levels samples' levels'

-- salvaging: the code, the record's numbers and the two counts, the memory, and the list
pub record SalvagesOut (capacity : ℕ) (file samples : List ℕ) (levels : ℕ → List ℕ) (list : List ℕ) (code : ℕ) (numbers numbers' counts counts' samples' : List ℕ) (levels' : ℕ → List ℕ) (list' : List ℕ) : Type 0 where
  pub answer_is : SalvagedOut (salvage_answer capacity (lent_of samples levels) (length list) file) code numbers numbers' counts counts'
  pub memory : Stored (heading_in file).unit 0 (salvage_count capacity (lent_of samples levels) (length list) file) (salvaged_bytes file) samples levels samples' levels'
  pub list_is : list' ≡ salvage_list capacity (lent_of samples levels) list file
