-- How a mill's answers are written behind pointers.
use Rattle.std.specs.Prelude.{List, [], ◌∷◌, ℕ, ℤ}
use Rattle.std.proofs.lemmas.List.Edits.{sets}
use Rattle.rules.specs.Answer.{Answer}
use Rattle.rules.specs.Walk.{Counted}
use Rattle.rules.specs.Mill.{MillBurst}
use Rattle.codes.specs.Code.{Out}
use Rattle.codes.specs.Sought.{found_reply, Sought}
use Rattle.codes.specs.Record.{flag_number}
use Rattle.mill_read.specs.Read.{Extent}

-- a place behind a pointer of its own
abbrev pub place : ℤ → ℤ → ℤ
place p old = p

abbrev pub first_place : Extent → ℤ → ℤ
first_place e old = e.first

abbrev pub end_place : Extent → ℤ → ℤ
end_place e old = e.end

abbrev pub marked_number : Extent → ℕ → ℕ
marked_number e old = flag_number e.marked

abbrev pub burst_first : MillBurst → ℤ → ℤ
burst_first b old = b.first

abbrev pub burst_last : MillBurst → ℤ → ℤ
burst_last b old = b.last

-- the jumps at the end, and at the start
abbrev pub jump_numbers : MillBurst → List ℕ → List ℕ
jump_numbers b old = sets old 0 (b.jumps_end ∷ b.jumps_start ∷ [])

-- a burst: its code, its two places behind pointers of their own, its jumps, and the nodes read
pub record BurstOut (answer : Answer (Counted MillBurst)) (code : ℕ) (first first' last last' : ℤ) (jumps jumps' : List ℕ) (read read' : ℕ) : Type 0 where
  pub first_is : Out burst_first (found_reply answer) code first first'
  pub last_is : Out burst_last (found_reply answer) code last last'
  pub jumps_are : Sought jump_numbers answer code jumps jumps' read read'
