-- What a mill's calls under the boundary answer, over the record's numbers and the lent lists.
use Rattle.std.specs.Prelude.{◌≡◌, List, ℕ, Float, ℤ, length}
use Rattle.std.specs.Prelude.{Option}
use Rattle.std.specs.Int.Bits.{bit_and}
use Rattle.rules.specs.Reading.{copied_to}
use Rattle.rules.specs.Sample.{sample_of, cut_lines}
use Rattle.rules.specs.Node.{Lines}
use Rattle.rules.specs.Search.{cut_summary}
use Rattle.rules.specs.Pixel.{range_from}
use Rattle.rules.specs.Answer.{Answer, unless, unrefused}
use Rattle.rules.specs.Refusal.{store_refusal, copied}
use Rattle.rules.specs.Mill.{place_at, mill_get_refusal, mill_samples_refusal, mill_summary_refusal}
use Rattle.capture.specs.declared.Capture.{Capture}
use Rattle.capture.specs.Record.{store_of, lent_of}
use Rattle.summary.specs.Summary.{summary_of, summed}
use Rattle.mill.specs.Reader.{origin_in}
use Rattle.mill_read.specs.Read.{Extent, extent_of}
use Rattle.mill_render.specs.Render.{mill_drawn}
use Rattle.codes.specs.Code.{plain, Out}
use Rattle.codes.specs.Record.{number}
use Rattle.logic_core.specs.Asked.{view_of, draw_refusal}

module _ (c : Capture) (samples : List ℕ) (levels : ℕ → List ℕ) where
  abbrev pub bounded_for : Answer Extent
  bounded_for = unless (store_refusal (store_of c) (lent_of samples levels)) (extent_of (store_of c))

  module _ (grant : ℕ) where
    abbrev pub got_for : ℤ → Answer ℕ
    got_for p = unless (mill_get_refusal (store_of c) (lent_of samples levels) p) (bit_and (sample_of c.unitsize samples (place_at (origin_in c) p)) grant)

    abbrev pub copy_refusal : ℤ → ℕ → List ℕ → ℕ
    copy_refusal start count output = mill_samples_refusal (store_of c) (lent_of samples levels) start count (length output)

    abbrev pub copied_for : ℤ → ℕ → List ℕ → Answer ℕ
    copied_for start count output = unless (copy_refusal start count output) (copied c.len (place_at (origin_in c) start) count)

    abbrev pub shown_for : ℤ → ℤ → Answer (Option Lines)
    shown_for a b =
        unless (mill_summary_refusal (store_of c) (lent_of samples levels) a b)
        (cut_summary grant (summary_of levels (sample_of c.unitsize samples) c.len (place_at (origin_in c) a) (place_at (origin_in c) b)))

-- samples: the count behind a pointer, and the output
pub record CopiesOut (c : Capture) (samples : List ℕ) (levels : ℕ → List ℕ) (grant : ℕ) (start : ℤ) (count : ℕ) (output : List ℕ) (code old new : ℕ) (output' : List ℕ) : Type 0 where
  pub count_is : Out number (plain (copied_for c samples levels grant start count output)) code old new
  pub output_is : output' ≡ copied_to (cut_lines grant (sample_of c.unitsize samples)) (place_at (origin_in c) start) (unrefused (copy_refusal c samples levels grant start count output) (copied c.len (place_at (origin_in c) start) count)) output

-- render: the code, and the output
pub record DrawsOut (c : Capture) (samples : List ℕ) (levels : ℕ → List ℕ) (grant : ℕ) (start spp : Float) (width : ℕ) (output : List ℕ) (code : ℕ) (output' : List ℕ) : Type 0 where
  pub code_is : code ≡ draw_refusal c samples levels start spp width output
  pub output_is : output' ≡ mill_drawn grant (summed levels (sample_of c.unitsize samples)) (range_from (origin_in c) (view_of start spp) c.len) (unrefused (draw_refusal c samples levels start spp width output) width) output
