-- Captures that appends made: for every list of appends from a store's start, refused ones included, over any memory, the record, the samples, the levels and each
-- question's answer are 01's for the samples that were taken. It is what raw samples that the tool loads rest on. 01: Store.
-- The claim speaks of the calls' own contracts, as that of `claim_captures` does. No range is asked of channels, capacity and memory; an append is of bytes.
use Rattle.std.specs.Prelude.{◌≡◌, Bool, cond, List, [], ◌∷◌, ◌++◌, ◌↔◌, ℕ, ◌+◌, leb, length}
use Rattle.std.specs.Prelude.{None, Result, Ok}
use contract.Lifetimes.{Lfts}
use Rattle.rules.specs.Sample.{unit_of, sample_count, samples_of}
use Rattle.rules.specs.Refusal.{store_refusal, fresh}
use Rattle.answer.specs.declared.Refusal.{Refusal}
use Rattle.answer.specs.Answered.{refusal_of}
use Rattle.capture.specs.declared.Capture.{Capture}
use Rattle.capture.specs.Record.{store_of, lent_of}
use Rattle.capture.proofs.start.Reads as start
use Rattle.append.specs.Append.{record_of}
use Rattle.append.proofs.append.Reads as append
use Rattle.claim_captures.specs.Words.{Memory, levels, Same, AreBytes, Ref, Places, lending, lending_mut, shown_at}
use Rattle.claim_captures.specs.Claim.{Held, Answers, LookAlike, Additive}

-- ---- what start and append may answer, by their contracts
abbrev pub MayStart : ℕ → ℕ → Memory → Result Capture Refusal → Type 0
MayStart channels capacity m v = (κs : Lfts 1) × (p : Places) × start.Post κs (channels, lending capacity p m tt) v (channels, lending capacity p m tt)

-- append may answer v and leave m'
abbrev pub MayAppend : Capture → Memory → List ℕ → Result Capture Refusal → Memory → Type 0
MayAppend c m bytes v m' = (κs : Lfts 6) × (p : Places) × (b : Ref) × append.Post κs (lending_mut c p m (shown_at b bytes, tt)) v (lending_mut c p m' (shown_at b bytes, tt))

-- ---- lists of appends
-- each gets the record and the whole memory as the last one left them; its number is 0, or that of its refusal
pub data Appending : Capture → Memory → List (List ℕ) → List ℕ → Capture → Memory → Type 0 where
  stop : {c : Capture} {m : Memory} → Appending c m [] [] c m
  step : {c : Capture} {m : Memory} {bytes : List ℕ} {v : Result Capture Refusal} {m' : Memory} {appends : List (List ℕ)} {numbers : List ℕ} {c'' : Capture} {m'' : Memory}
      → MayAppend c m bytes v m'
      → Appending (record_of c v) m' appends numbers c'' m''
      → Appending c m (bytes ∷ appends) (refusal_of v ∷ numbers) c'' m''

-- the record that start gives, with the memory lent to it, whatever that holds; then a list of appends
pub record Filling : Type 0 where
  pub channels : ℕ
  pub capacity : ℕ
  pub before : Memory
  pub fresh : Capture
  pub started : MayStart channels capacity before (Ok fresh)
  pub appends : List (List ℕ)
  pub are_bytes : AreBytes appends
  pub numbers : List ℕ
  pub capture : Capture
  pub memory : Memory
  pub appended : Appending fresh before appends numbers capture memory

-- ---- what 01 says of it; xs are the samples so far
-- 8: "len plus the samples to store > capacity"
abbrev pub fits : ℕ → ℕ → List ℕ → List ℕ → Bool
fits unit capacity xs bytes = leb (length xs + sample_count unit bytes) capacity

-- "Append takes floor(bytes / unit) samples; a leftover byte is dropped."
abbrev pub taken : ℕ → ℕ → List ℕ → List ℕ → List ℕ
taken unit capacity xs bytes = cond (fits unit capacity xs bytes) (xs ++ samples_of unit bytes) xs

unfoldable pub stored_from : ℕ → ℕ → List ℕ → List (List ℕ) → List ℕ
stored_from unit capacity xs [] = xs
stored_from unit capacity xs (b ∷ bs) = stored_from unit capacity (taken unit capacity xs b) bs

unfoldable pub numbers_from : ℕ → ℕ → List ℕ → List (List ℕ) → List ℕ
numbers_from unit capacity xs [] = []
numbers_from unit capacity xs (b ∷ bs) = cond (fits unit capacity xs b) 0 8 ∷ numbers_from unit capacity (taken unit capacity xs b) bs

abbrev pub unit : Filling → ℕ
unit a = unit_of a.channels

abbrev pub stored : Filling → List ℕ
stored a = stored_from (unit a) a.capacity [] a.appends

pub record Stores (a : Filling) : Type 0 where
  pub record_is : store_of a.capture ≡ record { unit = unit a; capacity = a.capacity; len = length (stored a); mark = None }
  pub held : Held (stored a) None a.capture a.memory
  -- refused with 8 exactly when 01 says, and with nothing else
  pub numbers_are : a.numbers ≡ numbers_from (unit a) a.capacity [] a.appends

-- ---- the claim
-- start gives a store whenever 1 and 2 do not refuse it
pub record Exists (channels capacity : ℕ) (m : Memory) (appends : List (List ℕ)) : Type 0 where
  pub filling : Filling
  pub channels_are : filling.channels ≡ channels
  pub capacity_is : filling.capacity ≡ capacity
  pub before_is : filling.before ≡ m
  pub appends_are : filling.appends ≡ appends

abbrev pub Existence : Type 0
Existence = (channels capacity : ℕ) (m : Memory) → store_refusal (fresh channels capacity) (lent_of m.samples (levels m)) ≡ 0 → (appends : List (List ℕ)) → AreBytes appends → Exists channels capacity m appends

-- what is stored, what is answered, and when two look alike
abbrev pub AppendsStore : Type 0
AppendsStore =
    (one two : Filling) (v : ℕ)
    → Stores one
    × Stores two
    × Answers (stored one) one.capture one.memory
    × Answers (stored two) two.capture two.memory
    × (LookAlike v one.capture one.memory two.capture two.memory ↔ Same v (stored one) None (stored two) None)

-- 02, CR 5: what density answers of them adds up
abbrev pub DensitiesAdd : Type 0
DensitiesAdd = (a : Filling) → Additive (stored a) a.capture a.memory
