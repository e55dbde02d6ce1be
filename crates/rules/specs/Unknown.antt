-- Changes across unknown stretches: certain and possible ones. 02: CR 9.
use Rattle.std.specs.Prelude.{◌≡◌, Bool, true, false, cond, not, ◌&&◌, ◌||◌, List, [], ◌∷◌, ℕ, ◌-◌, ◌%◌, ◌^◌, ◌≤◌, ◌<◌, eqb, length}
use Rattle.std.specs.Prelude.{Option, None, Some}
use Rattle.std.specs.Int.Bits.{bit_and}
use Rattle.rules.specs.Refusal.{Store, Lent, Row, first_of, store_rows}
use Rattle.rules.specs.Search.{changed, next_at, previous_at}
use Rattle.rules.specs.Stretches.{Stretch, covers, apart, pairs_in}

-- "Samples in an unknown stretch may have had any value that the unit holds.": t is s with such values there
pub record Filling (unit len : ℕ) (unknown : ℕ → Bool) (s t : ℕ → ℕ) : Type 0 where
  pub known : (i : ℕ) → i < len → unknown i ≡ false → t i ≡ s i
  pub small : (i : ℕ) → i < len → unknown i ≡ true → t i < 256 ^ unit

-- "certain change (there for every filling)", "possible change (there for some filling)"
abbrev pub Certain : ℕ → ℕ → (ℕ → Bool) → (ℕ → ℕ) → ℕ → ℕ → Type 0
Certain unit len unknown s mask i = (t : ℕ → ℕ) → Filling unit len unknown s t → changed t mask i ≡ true

abbrev pub Possible : ℕ → ℕ → (ℕ → Bool) → (ℕ → ℕ) → ℕ → ℕ → Type 0
Possible unit len unknown s mask i = (t : ℕ → ℕ) × Filling unit len unknown s t × (changed t mask i ≡ true)

-- computed (rules.proofs.Unknown: certain_is, possible_is)
abbrev pub certain_at : (ℕ → Bool) → (ℕ → ℕ) → ℕ → ℕ → Bool
certain_at unknown s mask i = not (unknown (i - 1) || unknown i) && changed s mask i

-- the mask has a line that the unit has
abbrev pub has_line : ℕ → ℕ → Bool
has_line unit mask = not (eqb (bit_and mask (256 ^ unit - 1)) 0)

abbrev pub possible_at : ℕ → (ℕ → Bool) → (ℕ → ℕ) → ℕ → ℕ → Bool
possible_at unit unknown s mask i = cond (unknown (i - 1) || unknown i) (has_line unit mask) (changed s mask i)

-- what a search looks for
pub data Sureness : Type 0 where
  certain : Sureness
  possible : Sureness

-- whether it is at place i
abbrev pub test_at : Sureness → ℕ → (ℕ → Bool) → (ℕ → ℕ) → ℕ → ℕ → Bool
test_at certain unit unknown s mask i = certain_at unknown s mask i
test_at possible unit unknown s mask i = possible_at unit unknown s mask i

-- the next place at which a test holds, or back the previous
abbrev pub search_at : Bool → (ℕ → Bool) → ℕ → ℕ → Option ℕ
search_at true test len from = previous_at test len from
search_at false test len from = next_at test len from

-- "the next and previous certain change .. and possible change"
abbrev pub unknown_search : Sureness → Bool → ℕ → (ℕ → ℕ) → ℕ → List Stretch → ℕ → ℕ → Option ℕ
unknown_search sure back unit s len stretches mask from = search_at back (test_at sure unit (covers stretches) s mask) len from

-- ---- what that means, by fillings (rules.proofs.Unknown.unknown_is)
abbrev pub Change : Sureness → ℕ → ℕ → (ℕ → Bool) → (ℕ → ℕ) → ℕ → ℕ → Type 0
Change certain unit len unknown s mask i = Certain unit len unknown s mask i
Change possible unit len unknown s mask i = Possible unit len unknown s mask i

-- a place that a search from `from` looks at: "from < i < len", and back "1 ≤ i ≤ from" (01, Search)
abbrev pub Asked : Bool → ℕ → ℕ → ℕ → Type 0
Asked true len from i = (1 ≤ i) × (i ≤ from) × (i < len)
Asked false len from i = (from < i) × (i < len)

-- j comes before i on its way
abbrev pub Sooner : Bool → ℕ → ℕ → Type 0
Sooner true j i = i < j
Sooner false j i = j < i

-- the answer is the first place on its way of which P holds, "with none exactly when there is none"
unfoldable pub Nearest : Bool → (ℕ → Type 0) → ℕ → ℕ → Option ℕ → Type 0
Nearest back P len from None = (i : ℕ) → Asked back len from i → P i → ⊥
Nearest back P len from (Some i) = Asked back len from i × P i × ((j : ℕ) → Asked back len from j → Sooner back j i → P j → ⊥)

-- ---- the call
-- "It refuses with 18, after 2, a list with an odd count of numbers, or whose stretches are out of order, overlap or touch, or with a stretch of no samples or one reaching past len; a list of no stretches is accepted."
abbrev pub list_wrong : ℕ → List ℕ → Bool
list_wrong len list = eqb (length list % 2) 1 || not (apart 0 len (pairs_in list))

abbrev pub list_row : ℕ → List ℕ → Row
list_row len list = record { number = 18; holds = list_wrong len list }

abbrev pub unknown_refusal : Store → Lent → List ℕ → ℕ
unknown_refusal st lent list = first_of (store_rows st lent (list_row st.len list ∷ []))
