-- Stores that a program filled with lc_start and lc_append, to be held beside include/logic_core.h: what they hold and answer, and when two look alike. 01: Store.
-- What is asked of them is in Questions. No range is asked of channels, capacity and memory; an append is of bytes, and a record's numbers are five.
use Rattle.std.specs.Prelude.{◌≡◌, List, [], ◌∷◌, ◌↔◌, ℕ, length, None}
use contract.Lifetimes.{Lfts}
use denote.Ref.{at_last}
use Rattle.rules.specs.Sample.{unit_of}
use Rattle.rules.specs.Refusal.{fresh, store_refusal}
use Rattle.capture.specs.Record.{lent_of}
use Rattle.capture.specs.Numbers.{len_in}
use Rattle.logic_core.proofs.lc_start.Reads as lc-start
use Rattle.logic_core.proofs.lc_append.Reads as lc-append
use Rattle.claim_captures.specs.Words.{Memory, levels, Same, AreBytes, Ref, Places, lending_mut, shown_at}
use Rattle.claim_appends.specs.Claim.{stored_from, numbers_from}
use Rattle.claim_captures.specs.Turns.{Replayed, Reversed}
use Rattle.claim_exports.specs.Questions.{lending, mark_in, Answers, LookAlike, Additive, SaysTurns}

-- lc_start may give a code and leave these numbers
abbrev pub MayStore : ℕ → ℕ → Memory → List ℕ → ℕ → List ℕ → Type 0
MayStore channels capacity m numbers code numbers' =
    (κs : Lfts 3) × (p : Places) × (n : Ref)
    × lc-start.Post κs (channels, lending capacity p m (at_last n numbers, tt)) code (channels, lending capacity p m (at_last n numbers', tt))

-- lc_append may give a code and leave these numbers and this memory
abbrev pub MayAppend : List ℕ → Memory → List ℕ → ℕ → List ℕ → Memory → Type 0
MayAppend numbers m bytes code numbers' m' =
    (κs : Lfts 7) × (n : Ref) × (p : Places) × (b : Ref)
    × lc-append.Post κs (lending_mut (at_last n numbers) p m (shown_at b bytes, tt)) code (lending_mut (at_last n numbers') p m' (shown_at b bytes, tt))

-- each gets the numbers and the whole memory as the last one left them; with the code of each
pub data Appending : List ℕ → Memory → List (List ℕ) → List ℕ → List ℕ → Memory → Type 0 where
  stop : {numbers : List ℕ} {m : Memory} → Appending numbers m [] [] numbers m
  step : {numbers : List ℕ} {m : Memory} {bytes : List ℕ} {code : ℕ} {numbers' : List ℕ} {m' : Memory} {appends : List (List ℕ)} {codes numbers'' : List ℕ} {m'' : Memory}
      → MayAppend numbers m bytes code numbers' m'
      → Appending numbers' m' appends codes numbers'' m''
      → Appending numbers m (bytes ∷ appends) (code ∷ codes) numbers'' m''

-- lc_start with code 0, whatever numbers and memory held; then a list of appends, refused ones included
pub record Filling : Type 0 where
  pub channels : ℕ
  pub capacity : ℕ
  pub before : Memory
  pub blank : List ℕ
  pub five : length blank ≡ 5
  pub fresh : List ℕ
  pub started : MayStore channels capacity before blank 0 fresh
  pub appends : List (List ℕ)
  pub are_bytes : AreBytes appends
  pub codes : List ℕ
  pub numbers : List ℕ
  pub memory : Memory
  pub appended : Appending fresh before appends codes numbers memory

-- the samples of the appends that had room
abbrev pub stored : Filling → List ℕ
stored a = stored_from (unit_of a.channels) a.capacity [] a.appends

pub record Stores (a : Filling) : Type 0 where
  pub len_is : len_in a.numbers ≡ length (stored a)
  pub mark_is : mark_in a.numbers ≡ None
  -- 8 exactly when 01 says, and else 0
  pub codes_are : a.codes ≡ numbers_from (unit_of a.channels) a.capacity [] a.appends

-- ---- the claim
-- lc_start gives a store whenever 1 and 2 do not refuse it
pub record Exists (channels capacity : ℕ) (m : Memory) (blank : List ℕ) (appends : List (List ℕ)) : Type 0 where
  pub filling : Filling
  pub channels_are : filling.channels ≡ channels
  pub capacity_is : filling.capacity ≡ capacity
  pub before_is : filling.before ≡ m
  pub blank_is : filling.blank ≡ blank
  pub appends_are : filling.appends ≡ appends

abbrev pub Existence : Type 0
Existence =
    (channels capacity : ℕ) (m : Memory) → store_refusal (fresh channels capacity) (lent_of m.samples (levels m)) ≡ 0
    → (blank : List ℕ) → length blank ≡ 5 → (appends : List (List ℕ)) → AreBytes appends → Exists channels capacity m blank appends

-- what is stored, what is answered, and when two look alike
abbrev pub Filled : Type 0
Filled =
    (one two : Filling) (v : ℕ)
    → Stores one
    × Stores two
    × Answers (stored one) one.numbers one.memory
    × Answers (stored two) two.numbers two.memory
    × (LookAlike v one.numbers one.memory two.numbers two.memory ↔ Same v (stored one) None (stored two) None)

-- 02, CR 5: what lc_density gives of them adds up
abbrev pub DensitiesAdd : Type 0
DensitiesAdd = (a : Filling) → Additive (stored a) a.numbers a.memory

-- 02, CR 6: what lc_encoder gives of them, and of two of which one's samples are the other's in reverse
abbrev pub EncodersReplay : Type 0
EncodersReplay = (a : Filling) → Replayed (stored a) (SaysTurns a.numbers a.memory)

abbrev pub EncodersReverse : Type 0
EncodersReverse = (one two : Filling) → Reversed (stored one) (SaysTurns one.numbers one.memory) (stored two) (SaysTurns two.numbers two.memory)
