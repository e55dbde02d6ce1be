-- Which row answers a render, and what is drawn then. Assumes nothing.
use Prim.Native.Nat.{ℕ}
use mathlib.Core.Path.{◌≡◌, refl, sym, ap, ◌∙◌, fun_ext}
use mathlib.Core.List.{List}
use native.Mathlib.Omega.{arith}
use lib.ListN.{length}
use Rattle.std.specs.Prelude.{Option, Ok, Err}
use Rattle.rules.specs.Sample.{sample_of}
use Rattle.rules.specs.Node.{Node}
use Rattle.rules.specs.Pixel.{View, Range, pixel_range, range_from}
use Rattle.rules.specs.Refusal.{first_of, view_rows, render_refusal}
use Rattle.rules.proofs.Origin.{from_first}
use Rattle.answer.specs.Answered.{number}
use Rattle.answer.specs.declared.Refusal.{Refusal}
use Rattle.answer.proofs.Answered.{number_least, stops, goes}
use Rattle.node.specs.Lent.{levels_of}
use Rattle.node.specs.declared.Memory.{Memory}
use Rattle.capture.specs.declared.Capture.{Capture}
use Rattle.capture.specs.declared.stored.Stored.{Stored}
use Rattle.capture.specs.Record.{store_of, lent_in}
use Rattle.capture.specs.Stored.{Opened, Opens}
use Rattle.capture.proofs.Opened.{rows_shut, rows_open}
use Rattle.capture.proofs.Calls.{unrefused_none, unrefused_all}
use Rattle.summary.specs.Summary.{summed, summed_in}
use Rattle.render.specs.Render.{drawn, Draws}
use Rattle.render.proofs.Row.{drawn_none}

-- ---- the nodes are the capture's
pub summed_is : {c : Capture} {m : Memory} {s : Stored} → Opened c m s → summed_in s ≡ summed (levels_of m.levels) (sample_of c.unitsize m.samples.now)
summed_is o = λ j. summed (levels_of (o.memory_is j).levels) (sample_of (o.unit_is j) (o.memory_is j).samples.now)

-- ---- the promise
module _ (c : Capture) (m : Memory) (v : View) (width : ℕ) (output : List ℕ) where
  abbrev node : ℕ → ℕ → Node
  node = summed (levels_of m.levels) (sample_of c.unitsize m.samples.now)

  abbrev rows : ℕ
  rows = render_refusal (store_of c) (lent_in m) v width (length output)

  -- nothing is drawn where a row refuses,
  draws_refused : (r : Refusal) → number r ≡ rows → Draws node (store_of c) (lent_in m) v width output (Err r) output
  draws_refused r e = record {
    answer_is = stops r rows tt e;
    output_is = drawn_none node (pixel_range v c.len) output ∙ ap (λ (n : ℕ). drawn node (pixel_range v c.len) n output) (sym (unrefused_none e (λ z. omega (arith, number_least r)) width));
  }

  -- 1 or 2,
  pub draws_shut : (r : Refusal) → Opens c m (Err r) → Draws node (store_of c) (lent_in m) v width output (Err r) output
  draws_shut r e = draws_refused r (rows_shut c m r e (view_rows v width (length output)))

  module _ {s : Stored} (o : Opened c m s) where
    -- 10 or 11,
    pub draws_unseen : (r : Refusal) → number r ≡ first_of (view_rows v width (length output)) → Draws node (store_of c) (lent_in m) v width output (Err r) output
    draws_unseen r e = draws_refused r (e ∙ sym (rows_open o (view_rows v width (length output))))

    -- and every pixel where none does
    pub draws_all : 0 ≡ first_of (view_rows v width (length output)) → (output' : List ℕ) → output' ≡ drawn (summed_in s) (range_from 0 v s.len) width output → Draws node (store_of c) (lent_in m) v width output (Ok tt) output'
    draws_all e output' d =
        let z : rows ≡ 0 = rows_open o (view_rows v width (length output)) ∙ sym e in
        record {
          answer_is = goes rows tt tt z refl;
          output_is =
              d
              ∙ (λ j. drawn (summed_is o j) (range_from 0 v (o.len_is j)) width output)
              ∙ ap (λ (range : ℕ → Option Range). drawn node range width output) (fun_ext (from_first v c.len))
              ∙ ap (λ (n : ℕ). drawn node (pixel_range v c.len) n output) (sym (unrefused_all {n = rows} refl z width));
        }
