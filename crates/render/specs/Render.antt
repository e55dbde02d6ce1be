-- What render answers and what it leaves in output, whatever memory holds. 01: Burst and render; Where each number is checked, 1, 2, 10 and 11.
use Rattle.std.specs.Prelude.{◌≡◌, List, ◌++◌, ℕ, ◌*◌, ◌≤◌, ◌<◌, length, drop}
use Rattle.std.specs.Prelude.{Option, None, Some, Result}
use Rattle.rules.specs.Node.{Node, leaf}
use Rattle.rules.specs.Pixel.{View, Range, pixel_range, row_by}
use Rattle.rules.specs.Answer.{Answer, unless, unrefused}
use Rattle.rules.specs.Refusal.{Store, Lent, most_pixels, render_refusal}
use Rattle.answer.specs.Answered.{told_of}
use Rattle.answer.specs.declared.Refusal.{Refusal}

-- 01's number of a refusal; a drawing has no value of its own
abbrev pub drawn_of : Result Unit Refusal → Answer Unit
drawn_of r = told_of r

-- "Output past what is .. drawn is unchanged": k pixels, two numbers each, and after them what output had
unfoldable pub drawn : (ℕ → ℕ → Node) → (ℕ → Option Range) → ℕ → List ℕ → List ℕ
drawn node range k output = row_by node range 0 k ++ drop (2 * k) output

-- a render by a summary of ranges: the refusal's number, and the pixels in output, none of them where a row refuses
pub record Draws (node : ℕ → ℕ → Node) (st : Store) (lent : Lent) (v : View) (width : ℕ) (output : List ℕ) (r : Result Unit Refusal) (output' : List ℕ) : Type 0 where
  pub answer_is : drawn_of r ≡ unless (render_refusal st lent v width (length output)) tt
  pub output_is : output' ≡ drawn node (pixel_range v st.len) (unrefused (render_refusal st lent v width (length output)) width) output

-- ---- one pixel
-- the node that a pixel shows the first and the toggles of
abbrev pub pixel_node : (ℕ → ℕ → Node) → Option Range → Node
pixel_node node None = leaf 0
pixel_node node (Some r) = node r.from r.to

-- a range of stored places, or none
abbrev pub Inside : Option Range → ℕ → Type 0
Inside None len = Unit
Inside (Some r) len = (r.from < r.to) × (r.to ≤ len)

-- ---- all pixels, of a view that counts from origin
pub record Drawable (len origin width output : ℕ) : Type 0 where
  pub counts : origin ≤ len
  pub most : width ≤ most_pixels
  pub room : 2 * width ≤ output
