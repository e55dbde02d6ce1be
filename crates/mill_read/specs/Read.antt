-- What a mill's extent, samples and summary answer, and the memory that samples leaves. 02: CR 1.
use Rattle.std.specs.Prelude.{◌≡◌, Bool, true, false, List, ℕ, ℤ, length}
use Rattle.std.specs.Prelude.{Option, None, Some, Result}
use Rattle.std.specs.Option.{option_map}
use Rattle.rules.specs.Reading.{copied_to}
use Rattle.rules.specs.Sample.{sample_of, cut_lines}
use Rattle.rules.specs.Node as rule
use Rattle.rules.specs.Answer.{Answer, unless, unrefused}
use Rattle.rules.specs.Refusal.{Store, copied}
use Rattle.rules.specs.Mill.{origin_of, mill_place, place_at, mill_samples_refusal}
use Rattle.answer.specs.Answered.{answer_of, told_of}
use Rattle.answer.specs.declared.Refusal.{Refusal}
use Rattle.capture.specs.Record.{lent_of}
use Rattle.mill_read.specs.declared.Bounds.{Bounds}
use Rattle.mill_read.specs.declared.Lines.{Lines}

-- ---- extent
-- a run's length and mark, as a mill counts: its first place, the one past its last, and whether place 0 is a mark
pub record Extent : Type 0 where
  pub first : ℤ
  pub end : ℤ
  pub marked : Bool

abbrev pub is_marked : Option ℕ → Bool
is_marked None = false
is_marked (Some mark) = true

abbrev pub extent_for : Option ℕ → ℕ → Extent
extent_for mark len = record { first = mill_place (origin_of mark) 0; end = mill_place (origin_of mark) len; marked = is_marked mark }

abbrev pub extent_of : Store → Extent
extent_of st = extent_for st.mark st.len

abbrev pub extent_as : Bounds → Extent
extent_as b = record { first = b.first; end = b.end; marked = b.marked }

abbrev pub bounded_of : Result Bounds Refusal → Answer Extent
bounded_of r = answer_of extent_as r

-- ---- samples
-- the granted lines of the samples from place p of the mill on, as many as are copied, and after them what output had
pub record MillCopies (st : Store) (bytes : List ℕ) (levels : ℕ → List ℕ) (grant : ℕ) (p : ℤ) (count : ℕ) (output : List ℕ) (r : Result ℕ Refusal) (output' : List ℕ) : Type 0 where
  pub answer_is : told_of r ≡ unless (mill_samples_refusal st (lent_of bytes levels) p count (length output)) (copied st.len (place_at (origin_of st.mark) p) count)
  pub output_is : output' ≡ copied_to (cut_lines grant (sample_of st.unit bytes)) (place_at (origin_of st.mark) p) (unrefused (mill_samples_refusal st (lent_of bytes levels) p count (length output)) (copied st.len (place_at (origin_of st.mark) p) count)) output

-- ---- summary
-- the code's three numbers as the rule's
abbrev pub as_lines : Lines → rule.Lines
as_lines n = record { first = n.first; last = n.last; toggles = n.mask }

abbrev pub shown_of : Result (Option Lines) Refusal → Answer (Option rule.Lines)
shown_of r = answer_of (option_map as_lines) r
