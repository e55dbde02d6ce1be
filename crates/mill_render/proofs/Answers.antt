-- What `render` promises a mill, on right levels: the rule's pixels, cut down to the grant. Over the call's own contract, for any memory that it was lent.
use Prim.Native.Nat.{ℕ, zero, suc, ◌*◌}
use mathlib.Core.Path.{◌≡◌, refl, sym, ap, ◌∙◌}
use mathlib.Core.List.{List, ◌++◌}
use Rattle.std.specs.Prelude.{Option, Result}
use lib.ListN.{length, drop}
use contract.Lifetimes.{Lfts}
use denote.Ref.{MutBor, at_last}
use Rattle.rules.specs.Sample.{sample_of}
use Rattle.rules.specs.Node.{node_of}
use Rattle.rules.specs.Pixel.{Range, row_by, cut_pixels, range_from}
use Rattle.rules.specs.Refusal.{render_refusal}
use Rattle.rules.proofs.Row.{from_stored}
use Rattle.answer.specs.declared.Refusal.{Refusal}
use Rattle.node.specs.Memory.{Right}
use Rattle.node.specs.Lent.{levels_of}
use Rattle.node.specs.declared.Memory.{Memory}
use Rattle.capture.specs.declared.Capture.{Capture}
use Rattle.capture.specs.Record.{store_of, lent_in}
use Rattle.rules.specs.Answer.{unrefused}
use Rattle.capture.proofs.Calls.{unrefused_none}
use Rattle.pixel.specs.declared.View.{View}
use Rattle.pixel.specs.Ranges.{view_as}
use Rattle.summary.specs.Summary.{summed}
use Rattle.summary.proofs.Laws.{summed_right}
use Rattle.mill.specs.Reader.{origin_in}
use Rattle.mill_render.specs.Render.{mill_drawn, MillDraws}
use Rattle.mill_render.proofs.Drawing.{shown_none, shown_rest, shown_same}
use Rattle.mill_render.proofs.render.Reads as reads

-- a call with these arguments, its answer r, and what it leaves in output
module _ (κs : Lfts 2) (c : Capture) (memory : Memory) (grant : ℕ) (view : View) (width : ℕ) (output : MutBor (List ℕ)) (r : Result Unit Refusal) (output' : List ℕ) where
  abbrev pub levels : ℕ → List ℕ
  levels = levels_of memory.levels

  abbrev pub s : ℕ → ℕ
  s = sample_of c.unitsize memory.samples.now

  -- the places that a pixel covers, counted from the mark
  abbrev pub range : ℕ → Option Range
  range = range_from (origin_in c) (view_as view) c.len

  abbrev pub number : ℕ
  number = render_refusal (store_of c) (lent_in memory) (view_as view) width (length output.now)

  abbrev pub Answered : Type 0
  Answered = reads.Post κs (c, (memory, (grant, (view, (width, (output, tt)))))) r (c, (memory, (grant, (view, (width, (at_last output output', tt))))))

  -- where levels are right, the answer and all of output are the rule's
  pub render_right : Answered → Right s c.len levels → MillDraws (node_of s) (store_of c) (lent_in memory) grant (view_as view) width output.now r output'
  render_right p h = record { answer_is = p.answer_is; output_is = p.output_is ∙ shown_same grant (summed levels s) (node_of s) range c.len (from_stored (origin_in c) (view_as view) c.len) (summed_right levels s c.len h) (unrefused number width) output.now }

  -- where no row refuses, that is the row of the stored samples' pixels, of granted lines only, and after it what output had
  pub render_row : Answered → Right s c.len levels → number ≡ 0 → output' ≡ cut_pixels grant (row_by (node_of s) range 0 width) ++ drop (2 * width) output.now
  unfolding mill_drawn
  render_row p h e = (render_right p h).output_is ∙ ap (λ (n : ℕ). mill_drawn grant (node_of s) range (unrefused n width) output.now) e

  -- whatever memory holds, a refusal leaves output as it was,
  pub render_refused : Answered → (number ≡ 0 → ⊥) → output' ≡ output.now
  render_refused p h =
      p.output_is
      ∙ ap (λ (n : ℕ). mill_drawn grant (summed levels s) range n output.now) (unrefused_none {n = number} refl h width)
      ∙ sym (shown_none grant (summed levels s) range output.now)

  -- and what stands past 2 × width stays
  pub render_rest : Answered → drop (2 * width) output' ≡ drop (2 * width) output.now
  render_rest p = ap (drop (2 * width)) p.output_is ∙ go number
    where
      go : (n : ℕ) → drop (2 * width) (mill_drawn grant (summed levels s) range (unrefused n width) output.now) ≡ drop (2 * width) output.now
      go zero = shown_rest grant (summed levels s) range width output.now
      go (suc n) = ap (drop (2 * width)) (sym (shown_none grant (summed levels s) range output.now))
