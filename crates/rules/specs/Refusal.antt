-- The refusals 1 to 11: their conditions, and the order in which a call tries them. 01: Where each number is checked.
use Rattle.std.specs.Prelude.{Bool, false, cond, not, ◌&&◌, ◌||◌, List, [], ◌∷◌, ℕ, zero, suc, ◌+◌, ◌*◌, min, ◌-◌, ltb, leb, eqb}
use Rattle.std.specs.Prelude.{Option, None, Some}
use Rattle.std.specs.Float.Ieee.{is_nan}
use Rattle.std.specs.Float.Ieee.Scale.{finite}
use Rattle.rules.specs.Node.{nodes_for, top_level}
use Rattle.rules.specs.Sample.{unit_of}
use Rattle.rules.specs.Burst.{sum}
use Rattle.rules.specs.Pixel.{View}
use Rattle.rules.specs.Pretrigger.{Pretrigger, fraction, seconds}
use Rattle.rules.specs.Trigger.{Term, Armed}
use Rattle.rules.specs.Selection.{Settings, pre_of}

-- "Store. Unit, capacity (1 to 67,108,864 samples), len, mark (absent, or a place at most len)."
pub record Store : Type 0 where
  pub unit : ℕ
  pub capacity : ℕ
  pub len : ℕ
  pub mark : Option ℕ

abbrev pub most_samples : ℕ
most_samples = 67108864

-- a mark as two numbers: "1 if there is a mark else 0" (02, CR 7), and its place, 0 where there is none; a previous sample too
abbrev pub mark_flag : Option ℕ → ℕ
mark_flag None = 0
mark_flag (Some k) = 1

abbrev pub mark_place : Option ℕ → ℕ
mark_place None = 0
mark_place (Some k) = k

-- the lengths of the lent slices
pub record Lent : Type 0 where
  pub samples : ℕ
  pub level : ℕ → ℕ

-- a row of the table
pub record Row : Type 0 where
  pub number : ℕ
  pub holds : Bool

-- the number of the first row that holds, 0 where none does: "Rows in order"
abbrev pub first_of : List Row → ℕ
first_of [] = 0
first_of (r ∷ rows) = cond r.holds r.number (first_of rows)

-- ---- 1: "unit, capacity, len or mark outside the above"
abbrev pub mark_wrong : Option ℕ → ℕ → Bool
mark_wrong None len = false
mark_wrong (Some k) len = ltb len k

-- unit 1 or 2
abbrev pub unit_wrong : ℕ → Bool
unit_wrong unit = not (eqb unit 1 || eqb unit 2)

abbrev pub store_wrong : Store → Bool
store_wrong st =
    unit_wrong st.unit
    || eqb st.capacity 0
    || ltb most_samples st.capacity
    || ltb st.capacity st.len
    || mark_wrong st.mark st.len

-- ---- 2: "a lent sample, level or ring slice shorter than needed"
-- numbers in a node: first, last, toggles and the count's two; "a node is five numbers and refusal 2 counts five" (02, CR 5)
abbrev pub node_size : ℕ
node_size = 5

-- how much memory a store needs: bytes of samples, and numbers of level l
abbrev pub samples_need : Store → ℕ
samples_need st = st.capacity * st.unit

abbrev pub level_need : Store → ℕ → ℕ
level_need st l = nodes_for st.capacity l * node_size

-- one of the levels 1 to n is too short
unfoldable pub level_short : Store → (ℕ → ℕ) → ℕ → Bool
level_short st level zero = false
level_short st level (suc n) = level_short st level n || ltb (level (suc n)) (level_need st (suc n))

abbrev pub lent_short : Store → Lent → Bool
lent_short st lent = ltb lent.samples (samples_need st) || level_short st lent.level top_level

-- rows 1 and 2, the first of every call on a store
abbrev pub store_rows : Store → Lent → List Row → List Row
store_rows st lent rest = record { number = 1; holds = store_wrong st } ∷ record { number = 2; holds = lent_short st lent } ∷ rest

-- next, previous, summary, burst and whole have no further row
abbrev pub store_refusal : Store → Lent → ℕ
store_refusal st lent = first_of (store_rows st lent [])

-- a store's start gives a store with nothing in it
abbrev pub fresh : ℕ → ℕ → Store
fresh channels capacity = record { unit = unit_of channels; capacity = capacity; len = 0; mark = None }

-- ---- 8: "len plus the samples to store > capacity"
abbrev pub room_row : Store → ℕ → Row
room_row st n = record { number = 8; holds = ltb st.capacity (st.len + n) }

abbrev pub append_refusal : Store → Lent → ℕ → ℕ
append_refusal st lent n = first_of (store_rows st lent (room_row st n ∷ []))

-- ---- 9: "i ≥ len"
abbrev pub get_row : ℕ → ℕ → Row
get_row len i = record { number = 9; holds = leb len i }

abbrev pub get_refusal : Store → Lent → ℕ → ℕ
get_refusal st lent i = first_of (store_rows st lent (get_row st.len i ∷ []))

-- ---- 11, samples: "output under the count copied"
-- "Samples(start, count) copies s[start..min(start+count, len))": how many those are
abbrev pub copied : ℕ → ℕ → ℕ → ℕ
copied len start n = min (sum start n) len - start

abbrev pub copy_row : ℕ → ℕ → ℕ → ℕ → Row
copy_row len start n output = record { number = 11; holds = ltb output (copied len start n) }

abbrev pub samples_refusal : Store → Lent → ℕ → ℕ → ℕ → ℕ
samples_refusal st lent start n output = first_of (store_rows st lent (copy_row st.len start n output ∷ []))

-- ---- 10: "start or spp infinite or not a number"; 11: "width > 65,536 or output under 2 × width"
abbrev pub most_pixels : ℕ
most_pixels = 65536

abbrev pub view_rows : View → ℕ → ℕ → List Row
view_rows v width output =
    record { number = 10; holds = not (finite v.start) || not (finite v.spp) }
    ∷ record { number = 11; holds = ltb most_pixels width || ltb output (2 * width) }
    ∷ []

abbrev pub render_refusal : Store → Lent → View → ℕ → ℕ → ℕ
render_refusal st lent v width output = first_of (store_rows st lent (view_rows v width output))

-- ---- a recorder
-- "Recorder. A store, limit (0: none), pre .., armed .., previous sample or none, ring place, kept count"
pub record Recorder : Type 0 where
  pub store : Store
  pub limit : ℕ
  pub pre : ℕ
  pub armed : Armed
  pub previous : Option ℕ
  pub place : ℕ
  pub kept : ℕ

-- "ring place ≥ pre unless both are 0"
abbrev pub place_wrong : ℕ → ℕ → Bool
place_wrong pre place = leb pre place && not (eqb pre 0 && eqb place 0)

-- 1: "in a recorder after start also limit > capacity, pre ≥ capacity, kept > pre, ring place ≥ pre unless both are 0, len > a nonzero limit"
abbrev pub setting_wrong : Recorder → Bool
setting_wrong r =
    ltb r.store.capacity r.limit
    || leb r.store.capacity r.pre
    || ltb r.pre r.kept
    || place_wrong r.pre r.place
    || (not (eqb r.limit 0) && ltb r.limit r.store.len)

abbrev pub recorder_wrong : Recorder → Bool
recorder_wrong r = store_wrong r.store || setting_wrong r

-- "Ring memory needs pre × unit bytes"
abbrev pub ring_need : ℕ → ℕ → ℕ
ring_need pre unit = pre * unit

abbrev pub ring_short : Recorder → ℕ → Bool
ring_short r ring = ltb ring (ring_need r.pre r.store.unit)

-- rows 1 and 2 of a recorder after start, `ring` bytes of ring memory lent
abbrev pub recorder_rows : Recorder → Lent → ℕ → List Row → List Row
recorder_rows r lent ring rest =
    record { number = 1; holds = recorder_wrong r } ∷ record { number = 2; holds = lent_short r.store lent || ring_short r ring } ∷ rest

abbrev pub recorder_refusal : Recorder → Lent → ℕ → ℕ
recorder_refusal r lent ring = first_of (recorder_rows r lent ring [])

-- ---- a recorder's start
-- 3: "a term's line above 15"
abbrev pub top_line : ℕ
top_line = 15

unfoldable pub line_wrong : List Term → Bool
line_wrong [] = false
line_wrong (t ∷ ts) = ltb top_line t.line || line_wrong ts

-- 5: "Fraction with limit 0, Seconds with limit above 0"
abbrev pub wish_wrong : Pretrigger → ℕ → Bool
wish_wrong (fraction p) limit = eqb limit 0
wish_wrong (seconds t) limit = not (eqb limit 0)

-- 6: "p or t not a number, or Seconds with rate > 1,000,000,000"
abbrev pub number_wrong : Pretrigger → ℕ → Bool
number_wrong (fraction p) rate = is_nan p
number_wrong (seconds t) rate = is_nan t || ltb 1000000000 rate

-- rows 1 to 6, which come before the samples kept are worked out; `lines` says whether a line is wrong
abbrev pub settings_rows : Store → Lent → ℕ → Bool → Pretrigger → ℕ → List Row → List Row
settings_rows st lent limit lines wish rate rest =
    store_rows st lent
    (record { number = 3; holds = lines }
    ∷ record { number = 4; holds = ltb st.capacity limit }
    ∷ record { number = 5; holds = wish_wrong wish limit }
    ∷ record { number = 6; holds = number_wrong wish rate }
    ∷ rest)

-- 7: "pre ≥ capacity, or ring too short"
abbrev pub pre_row : Store → ℕ → ℕ → Row
pre_row st pre ring = record { number = 7; holds = leb st.capacity pre || ltb ring (ring_need pre st.unit) }

abbrev pub start_rows : Settings → Lent → ℕ → List Row
start_rows st lent ring =
    let store = fresh st.channels st.capacity in
    settings_rows store lent st.limit (line_wrong st.terms) st.wish st.rate (pre_row store (pre_of st) ring ∷ [])

abbrev pub start_refusal : Settings → Lent → ℕ → ℕ
start_refusal st lent ring = first_of (start_rows st lent ring)
