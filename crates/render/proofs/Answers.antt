-- What `render` promises, on right levels: 01's render. Over the call's own contract, for any memory that it was lent.
use Prim.Native.Nat.{ℕ, zero, suc, ◌*◌}
use mathlib.Core.Path.{◌≡◌, refl, sym, ap, ◌∙◌}
use mathlib.Core.List.{List, ◌++◌}
use lib.ListN.{length, drop}
use contract.Lifetimes.{Lfts}
use Rattle.std.specs.Prelude.{Result}
use denote.Ref.{MutBor, at_last}
use Rattle.rules.specs.Sample.{sample_of}
use Rattle.rules.specs.Node.{node_of}
use Rattle.rules.specs.Pixel.{pixel_range, render}
use Rattle.rules.specs.Refusal.{render_refusal}
use Rattle.rules.proofs.Row.{pixels_stored}
use Rattle.answer.specs.declared.Refusal.{Refusal}
use Rattle.node.specs.Memory.{Right}
use Rattle.node.specs.Lent.{levels_of}
use Rattle.node.specs.declared.Memory.{Memory}
use Rattle.capture.specs.declared.Capture.{Capture}
use Rattle.capture.specs.Record.{store_of, lent_in}
use Rattle.rules.specs.Answer.{unrefused}
use Rattle.capture.proofs.Calls.{unrefused_none}
use Rattle.pixel.specs.declared.View.{View}
use Rattle.pixel.specs.Ranges.{view_as}
use Rattle.summary.specs.Summary.{summed}
use Rattle.summary.proofs.Laws.{summed_right}
use Rattle.render.specs.Render.{drawn, Draws}
use Rattle.render.proofs.Row.{drawn_none, drawn_rest, drawn_same}
use Rattle.render.proofs.render.Reads as reads

-- a call with these arguments, its answer r, and what it leaves in output
module _ (κs : Lfts 2) (c : Capture) (memory : Memory) (view : View) (width : ℕ) (output : MutBor (List ℕ)) (r : Result Unit Refusal) (output' : List ℕ) where
  abbrev pub levels : ℕ → List ℕ
  levels = levels_of memory.levels

  abbrev pub s : ℕ → ℕ
  s = sample_of c.unitsize memory.samples.now

  abbrev pub number : ℕ
  number = render_refusal (store_of c) (lent_in memory) (view_as view) width (length output.now)

  abbrev pub Answered : Type 0
  Answered = reads.Post κs (c, (memory, (view, (width, (output, tt))))) r (c, (memory, (view, (width, (at_last output output', tt)))))

  -- where levels are right, the answer and all of output are 01's
  pub render_right : Answered → Right s c.len levels → Draws (node_of s) (store_of c) (lent_in memory) (view_as view) width output.now r output'
  render_right p h = record { answer_is = p.answer_is; output_is = p.output_is ∙ drawn_same (summed levels s) (node_of s) (pixel_range (view_as view) c.len) c.len (pixels_stored (view_as view) c.len) (summed_right levels s c.len h) (unrefused number width) output.now }

  -- where no row refuses, that is the row of the stored samples' pixels, and after it what output had
  pub render_row : Answered → Right s c.len levels → number ≡ 0 → output' ≡ render s c.len (view_as view) width ++ drop (2 * width) output.now
  unfolding drawn
  render_row p h e = (render_right p h).output_is ∙ ap (λ (n : ℕ). drawn (node_of s) (pixel_range (view_as view) c.len) (unrefused n width) output.now) e

  -- whatever memory holds, a refusal leaves output as it was,
  pub render_refused : Answered → (number ≡ 0 → ⊥) → output' ≡ output.now
  render_refused p h =
      p.output_is
      ∙ ap (λ (n : ℕ). drawn (summed levels s) (pixel_range (view_as view) c.len) n output.now) (unrefused_none {n = number} refl h width)
      ∙ sym (drawn_none (summed levels s) (pixel_range (view_as view) c.len) output.now)

  -- and what stands past 2 × width stays
  pub render_rest : Answered → drop (2 * width) output' ≡ drop (2 * width) output.now
  render_rest p = ap (drop (2 * width)) p.output_is ∙ go number
    where
      go : (n : ℕ) → drop (2 * width) (drawn (summed levels s) (pixel_range (view_as view) c.len) (unrefused n width) output.now) ≡ drop (2 * width) output.now
      go zero = drawn_rest (summed levels s) (pixel_range (view_as view) c.len) width output.now
      go (suc n) = ap (drop (2 * width)) (sym (drawn_none (summed levels s) (pixel_range (view_as view) c.len) output.now))
