-- What writing answers and leaves. 02: CR 7.
use Rattle.std.specs.Prelude.{◌≡◌, List, ℕ, ◌^◌, ◌<◌, length, Result}
use Rattle.rules.specs.Refusal.{Store}
use Rattle.rules.specs.Shelf.{Filed, bytes_for, file_len}
use Rattle.rules.specs.ShelfCalls.{write_answer, write_output}
use Rattle.answer.specs.declared.Refusal.{Refusal}
use Rattle.capture.specs.Record.{lent_of}
use Rattle.shelf_head.specs.declared.Heading.{Heading}
use Rattle.shelf_head.specs.Head.{heading_as, length_of}

-- the code's heading and sample bytes, as what is filed
abbrev pub filed_as : Heading → List ℕ → Filed
filed_as h bytes = record { heading = heading_as h; bytes = bytes }

-- room for a file, and its bytes
pub record FileRoom (h : Heading) (room n : ℕ) : Type 0 where
  pub unit : h.unitsize < 256
  pub few : n < 2 ^ 32
  pub fills : n ≡ bytes_for (heading_as h)
  pub size : room ≡ file_len (heading_as h)

-- a call of write, over any memory: its answer, and the output that it leaves
pub record Writes (st : Store) (samples : List ℕ) (levels : ℕ → List ℕ) (output : List ℕ) (r : Result ℕ Refusal) (output' : List ℕ) : Type 0 where
  pub answer_is : length_of r ≡ write_answer st (lent_of samples levels) (length output)
  pub output_is : output' ≡ write_output st (lent_of samples levels) samples output
