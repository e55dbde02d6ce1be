-- The service's drawing, cut down, is the mill's; and what is promised where a row refuses and where none does. Assumes nothing.
use Prim.Native.Nat.{ℕ, ◌*◌, ◌≤◌, ◌<◌}
use mathlib.Core.Path.{◌≡◌, refl, sym, ap, ap₂, ◌∙◌}
use mathlib.Core.List.{List, ◌++◌, map}
use Rattle.std.specs.Prelude.{Option, Ok, Err}
use native.Mathlib.Omega.{arith}
use lib.Bits.{bit_and}
use lib.ListN.{length, drop, length-map}
use lib.Seq.{take_at, drop_at}
use Rattle.rules.specs.Node.{Node}
use Rattle.rules.specs.Pixel.{View, Range, row_by, cut_pixels, range_from}
use Rattle.rules.specs.Sample.{sample_of}
use Rattle.rules.specs.Refusal.{first_of, view_rows, render_refusal}
use Rattle.rules.proofs.Row.{Stored, row_length, row_same}
use Rattle.answer.specs.Answered.{number}
use Rattle.answer.specs.declared.Refusal.{Refusal}
use Rattle.answer.proofs.Answered.{number_least, stops, goes}
use Rattle.node.specs.Lent.{levels_of}
use Rattle.node.specs.declared.Memory.{Memory}
use Rattle.capture.specs.declared.Capture.{Capture}
use Rattle.capture.specs.declared.stored.Stored as opened
use Rattle.capture.specs.Record.{store_of, lent_in}
use Rattle.capture.specs.Stored.{Opened, Opens}
use Rattle.capture.proofs.Opened.{rows_shut, rows_open}
use Rattle.capture.proofs.Calls.{unrefused_none, unrefused_all}
use Rattle.summary.specs.Summary.{summed, summed_in}
use Rattle.render.specs.Render.{drawn}
use Rattle.render.proofs.Refusals.{summed_is}
use Rattle.mill.specs.Reader.{origin_in, cut_first}
use Rattle.mill_render.specs.Render.{mill_drawn, MillDraws}

-- ---- pixels
module _ (grant : ℕ) (node : ℕ → ℕ → Node) (range : ℕ → Option Range) where
  pub drawn_cut : (k : ℕ) (output : List ℕ) → cut_first grant (2 * k) (drawn node range k output) ≡ mill_drawn grant node range k output
  unfolding cut_first drawn mill_drawn
  drawn_cut k output =
      let row = row_by node range 0 k in
      ap₂ (λ (a b : List ℕ). map (λ x. bit_and x grant) a ++ b) (take_at row (drop (2 * k) output) (2 * k) (row_length node range 0 k)) (drop_at row (drop (2 * k) output) (2 * k) (row_length node range 0 k))

  pub shown_none : (output : List ℕ) → output ≡ mill_drawn grant node range 0 output
  unfolding mill_drawn row_by
  shown_none output = refl

  -- past the pixels
  pub shown_rest : (k : ℕ) (output : List ℕ) → drop (2 * k) (mill_drawn grant node range k output) ≡ drop (2 * k) output
  unfolding mill_drawn
  shown_rest k output = drop_at (cut_pixels grant (row_by node range 0 k)) (drop (2 * k) output) (2 * k) (length-map (row_by node range 0 k) (λ x. bit_and x grant) ∙ row_length node range 0 k)

pub shown_same : (grant : ℕ) (node node' : ℕ → ℕ → Node) (range : ℕ → Option Range) (len : ℕ) → Stored range len → ((a b : ℕ) → a < b → b ≤ len → node a b ≡ node' a b) → (k : ℕ) (output : List ℕ) → mill_drawn grant node range k output ≡ mill_drawn grant node' range k output
unfolding mill_drawn
shown_same grant node node' range len stored same k output = ap (λ (a : List ℕ). cut_pixels grant a ++ drop (2 * k) output) (row_same node node' range len stored same 0 k)

-- ---- the promise
module _ (c : Capture) (m : Memory) (grant : ℕ) (v : View) (width : ℕ) (output : List ℕ) where
  abbrev node : ℕ → ℕ → Node
  node = summed (levels_of m.levels) (sample_of c.unitsize m.samples.now)

  abbrev range : ℕ → Option Range
  range = range_from (origin_in c) v c.len

  abbrev rows : ℕ
  rows = render_refusal (store_of c) (lent_in m) v width (length output)

  -- nothing is drawn where a row refuses,
  draws_refused : (r : Refusal) → number r ≡ rows → MillDraws node (store_of c) (lent_in m) grant v width output (Err r) output
  draws_refused r e = record {
    answer_is = stops r rows tt e;
    output_is = shown_none grant node range output ∙ ap (λ (n : ℕ). mill_drawn grant node range n output) (sym (unrefused_none e (λ z. omega (arith, number_least r)) width));
  }

  -- 1 or 2,
  pub draws_shut : (r : Refusal) → Opens c m (Err r) → MillDraws node (store_of c) (lent_in m) grant v width output (Err r) output
  draws_shut r e = draws_refused r (rows_shut c m r e (view_rows v width (length output)))

  module _ {s : opened.Stored} (o : Opened c m s) where
    -- 10 or 11,
    pub draws_unseen : (r : Refusal) → number r ≡ first_of (view_rows v width (length output)) → MillDraws node (store_of c) (lent_in m) grant v width output (Err r) output
    draws_unseen r e = draws_refused r (e ∙ sym (rows_open o (view_rows v width (length output))))

    -- and every pixel where none does, and then cut down
    pub draws_all : 0 ≡ first_of (view_rows v width (length output)) → (origin : ℕ) → origin ≡ origin_in c → (row output' : List ℕ) → row ≡ drawn (summed_in s) (range_from origin v s.len) width output → output' ≡ cut_first grant (2 * width) row → MillDraws node (store_of c) (lent_in m) grant v width output (Ok tt) output'
    draws_all e origin at row output' d cut =
        let z : rows ≡ 0 = rows_open o (view_rows v width (length output)) ∙ sym e in
        record {
          answer_is = goes rows tt tt z refl;
          output_is =
              cut
              ∙ ap (cut_first grant (2 * width)) (d ∙ (λ j. drawn (summed_is o j) (range_from (at j) v (o.len_is j)) width output))
              ∙ drawn_cut grant node range width output
              ∙ ap (λ (n : ℕ). mill_drawn grant node range n output) (sym (unrefused_all {n = rows} refl z width));
        }
