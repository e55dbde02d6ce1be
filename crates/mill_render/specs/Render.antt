-- What render answers a mill and what it leaves in output, whatever memory holds. 02: CR 1; 01: Where each number is checked, 1, 2, 10 and 11.
use Rattle.std.specs.Prelude.{◌≡◌, List, ◌++◌, ℕ, ◌*◌, length, drop}
use Rattle.std.specs.Prelude.{Option, Result}
use Rattle.rules.specs.Node.{Node}
use Rattle.rules.specs.Pixel.{View, Range, row_by, cut_pixels, range_from}
use Rattle.rules.specs.Answer.{unless, unrefused}
use Rattle.rules.specs.Refusal.{Store, Lent, render_refusal}
use Rattle.rules.specs.Mill.{origin_of}
use Rattle.answer.specs.declared.Refusal.{Refusal}
use Rattle.render.specs.Render.{drawn_of}

-- "pixels show granted lines only": k pixels cut down to the grant, two numbers each, and after them what output had
unfoldable pub mill_drawn : ℕ → (ℕ → ℕ → Node) → (ℕ → Option Range) → ℕ → List ℕ → List ℕ
mill_drawn grant node range k output = cut_pixels grant (row_by node range 0 k) ++ drop (2 * k) output

-- a mill's render by a summary of ranges: the service's refusals, "and 13 isn't given", and the pixels in output, counted from the mark,
-- none of them where a row refuses
pub record MillDraws (node : ℕ → ℕ → Node) (st : Store) (lent : Lent) (grant : ℕ) (v : View) (width : ℕ) (output : List ℕ) (r : Result Unit Refusal) (output' : List ℕ) : Type 0 where
  pub answer_is : drawn_of r ≡ unless (render_refusal st lent v width (length output)) tt
  pub output_is : output' ≡ mill_drawn grant node (range_from (origin_of st.mark) v st.len) (unrefused (render_refusal st lent v width (length output)) width) output
