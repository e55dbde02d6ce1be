-- What each call under the boundary answers, over the record's numbers and the lent lists.
use Rattle.std.specs.Prelude.{◌≡◌, List, ℕ, ◌+◌, Float, length}
use Rattle.std.specs.Prelude.{Option}
use Rattle.rules.specs.Sample.{sample_of}
use Rattle.rules.specs.Node.{Node}
use Rattle.rules.specs.Search.{count_in}
use Rattle.rules.specs.Pixel.{View, pixel_range}
use Rattle.rules.specs.Answer.{Answer, unless, unrefused}
use Rattle.rules.specs.Refusal.{Store, Lent, fresh, store_refusal, samples_refusal, render_refusal, copied}
use Rattle.capture.specs.declared.Capture.{Capture}
use Rattle.capture.specs.Record.{store_of, lent_of}
use Rattle.capture.specs.Calls.{need_refusal, memory_need}
use Rattle.append.specs.Append.{refusal_of, taken_of}
use Rattle.store.specs.Stored.{Stored}
use Rattle.summary.specs.Summary.{summary_of, summed}
use Rattle.rules.specs.Reading.{get_answer, samples_answer, copied_to}
use Rattle.rules.specs.Wrong.{NodeAt, whole_answer}
use Rattle.whole.specs.Wrong.{held_in}
use Rattle.render.specs.Render.{drawn}
use Rattle.codes.specs.Code.{plain, Out}
use Rattle.codes.specs.Record.{number, len_number}

abbrev pub needed_for : ℕ → ℕ → Answer Lent
needed_for channels capacity = unless (need_refusal (fresh channels capacity)) (memory_need (fresh channels capacity))

abbrev pub started_for : ℕ → ℕ → List ℕ → (ℕ → List ℕ) → Answer Store
started_for channels capacity samples levels = unless (store_refusal (fresh channels capacity) (lent_of samples levels)) (fresh channels capacity)

abbrev pub view_of : Float → Float → View
view_of start spp = record { start = start; spp = spp }

module _ (c : Capture) (samples : List ℕ) (levels : ℕ → List ℕ) where
  abbrev pub got_for : ℕ → Answer ℕ
  got_for i = get_answer (store_of c) (lent_of samples levels) (sample_of c.unitsize samples) i

  abbrev pub copy_refusal : ℕ → ℕ → List ℕ → ℕ
  copy_refusal start count output = samples_refusal (store_of c) (lent_of samples levels) start count (length output)

  abbrev pub copied_for : ℕ → ℕ → List ℕ → Answer ℕ
  copied_for start count output = samples_answer (store_of c) (lent_of samples levels) start count (length output)

  abbrev pub summed_for : ℕ → ℕ → Answer (Option Node)
  summed_for a b = unless (store_refusal (store_of c) (lent_of samples levels)) (summary_of levels (sample_of c.unitsize samples) c.len a b)

  abbrev pub changes_for : ℕ → ℕ → Answer ℕ
  changes_for a b = unless (store_refusal (store_of c) (lent_of samples levels)) (count_in (summary_of levels (sample_of c.unitsize samples) c.len a b))

  abbrev pub draw_refusal : Float → Float → ℕ → List ℕ → ℕ
  draw_refusal start spp width output = render_refusal (store_of c) (lent_of samples levels) (view_of start spp) width (length output)

  abbrev pub wrong_for : Answer (Option NodeAt)
  wrong_for = unless (store_refusal (store_of c) (lent_of samples levels)) (whole_answer (sample_of c.unitsize samples) c.len (held_in levels))

-- samples: the count behind a pointer, and the output
pub record CopiesOut (c : Capture) (samples : List ℕ) (levels : ℕ → List ℕ) (start count : ℕ) (output : List ℕ) (code old new : ℕ) (output' : List ℕ) : Type 0 where
  pub count_is : Out number (plain (copied_for c samples levels start count output)) code old new
  pub output_is : output' ≡ copied_to (sample_of c.unitsize samples) start (unrefused (copy_refusal c samples levels start count output) (copied c.len start count)) output

-- append: the code, the record's numbers, of which only len changes, and the memory
pub record AppendsOut (c : Capture) (bytes samples : List ℕ) (levels : ℕ → List ℕ) (code : ℕ) (numbers numbers' samples' : List ℕ) (levels' : ℕ → List ℕ) : Type 0 where
  pub code_is : code ≡ refusal_of c samples levels bytes
  pub numbers_are : numbers' ≡ len_number (c.len + taken_of c samples levels bytes) numbers
  pub memory : Stored c.unitsize c.len (taken_of c samples levels bytes) bytes samples levels samples' levels'

-- render: the code, and the output
pub record DrawsOut (c : Capture) (samples : List ℕ) (levels : ℕ → List ℕ) (start spp : Float) (width : ℕ) (output : List ℕ) (code : ℕ) (output' : List ℕ) : Type 0 where
  pub code_is : code ≡ draw_refusal c samples levels start spp width output
  pub output_is : output' ≡ drawn (summed levels (sample_of c.unitsize samples)) (pixel_range (view_of start spp) c.len) (unrefused (draw_refusal c samples levels start spp width output) width) output
