-- Bursts that meet: what a burst is among the changes of a capture, and two of them. 02: CR 13.
use Rattle.std.specs.Prelude.{◌≡◌, true, ◌⊎◌, ℕ, ◌+◌, ◌-◌, ◌≤◌, ◌<◌}
use Rattle.std.specs.Prelude.{Option, None, Some}
use Rattle.rules.specs.Search.{changed}
use Rattle.rules.specs.Burst.{Burst}

module _ (s : ℕ → ℕ) (len mask : ℕ) where
  -- a place at which a masked line changes (01, Search)
  pub record IsChange (i : ℕ) : Type 0 where
    pub least : 1 ≤ i
    pub most : i < len
    pub changes : changed s mask i ≡ true

  -- "every gap inside below max_gap": between neighbouring changes from first to last
  abbrev pub GapsInside : ℕ → ℕ → ℕ → Type 0
  GapsInside gap first last = (i j : ℕ) → IsChange i → IsChange j → first ≤ i → i < j → j ≤ last → ((k : ℕ) → i < k → k < j → IsChange k → ⊥) → j - i < gap

  -- a burst: its ends are changes, one behind the other, with every gap inside below max_gap
  pub record IsBurst (gap : ℕ) (b : Burst) : Type 0 where
    pub first_is : IsChange b.first
    pub last_is : IsChange b.last
    pub order : b.first < b.last
    pub gaps : GapsInside gap b.first b.last

  -- "no change outside within less than max_gap of an end"
  abbrev pub NoneBehind : ℕ → ℕ → Type 0
  NoneBehind gap last = (i : ℕ) → IsChange i → last < i → gap ≤ i - last

  abbrev pub NoneBefore : ℕ → ℕ → Type 0
  NoneBefore gap first = (i : ℕ) → IsChange i → i < first → gap ≤ first - i

  -- "share no change"
  abbrev pub Apart : Burst → Burst → Type 0
  Apart b c = (i : ℕ) → IsChange i → b.first ≤ i → i ≤ b.last → c.first ≤ i → i ≤ c.last → ⊥

-- "jumps at both ends stayed below the budget"
pub record Below (budget : ℕ) (b : Burst) : Type 0 where
  pub end : b.jumps_end < budget
  pub start : b.jumps_start < budget

-- "have the same first and last"
abbrev pub SameEnds : Burst → Burst → Type 0
SameEnds b c = (b.first ≡ c.first) × (b.last ≡ c.last)

-- "a larger budget never gives a smaller burst": none exactly when none
abbrev pub NoSmaller : Option Burst → Option Burst → Type 0
NoSmaller None None = Unit {0}
NoSmaller None (Some c) = ⊥
NoSmaller (Some b) None = ⊥
NoSmaller (Some b) (Some c) = (c.first ≤ b.first) × (b.last ≤ c.last)

-- what is promised of bursts, whatever asks for them: `Says mask q gap tolerance budget answer` is that this may be answered, in the run's places.
-- Q is how a place is named, and `place` which one of the run it is
module _ {Q : Type 0} (s : ℕ → ℕ) (len : ℕ) (place : Q → ℕ) (Says : ℕ → Q → ℕ → ℕ → ℕ → Option Burst → Type 0) where
  pub record BurstsMeet : Type 0 where
    -- 1: any burst, whatever its jumps
    pub any : (mask : ℕ) (q : Q) (gap tolerance budget : ℕ) (b : Burst) → Says mask q gap tolerance budget (Some b) → IsBurst s len mask gap b
    -- 2: each end whose jumps stayed below the budget
    pub behind : (mask : ℕ) (q : Q) (gap tolerance budget : ℕ) (b : Burst) → Says mask q gap tolerance budget (Some b) → b.jumps_end < budget → NoneBehind s len mask gap b.last
    pub before : (mask : ℕ) (q : Q) (gap tolerance budget : ℕ) (b : Burst) → Says mask q gap tolerance budget (Some b) → b.jumps_start < budget → NoneBefore s len mask gap b.first
    -- 3: "two bursts whose jumps at both ends stayed below the budget have the same first and last or share no change"; place, tolerance and budget of each are its own
    pub meet : (mask gap : ℕ) (q₁ : Q) (tolerance₁ budget₁ : ℕ) (b : Burst) (q₂ : Q) (tolerance₂ budget₂ : ℕ) (c : Burst)
        → Says mask q₁ gap tolerance₁ budget₁ (Some b) → Below budget₁ b → Says mask q₂ gap tolerance₂ budget₂ (Some c) → Below budget₂ c → SameEnds b c ⊎ Apart s len mask b c
    -- 4: "From the same place with the same tolerance, a larger budget never gives a smaller burst."
    pub larger : (mask : ℕ) (q : Q) (gap tolerance budget more : ℕ) → budget ≤ more → (o p : Option Burst)
        → Says mask q gap tolerance budget o → Says mask q gap tolerance more p → NoSmaller o p
    -- so that all bursts of a capture can be listed, each once: a budget that no jump reaches,
    pub unreached : (mask : ℕ) (q : Q) (gap tolerance budget : ℕ) (b : Burst) → Says mask q gap tolerance budget (Some b) → len ≤ budget → Below budget b
    -- a burst is no further from its place than the tolerance,
    pub around : (mask : ℕ) (q : Q) (gap tolerance budget : ℕ) (b : Burst) → Says mask q gap tolerance budget (Some b) → (b.first ≤ place q + tolerance) × (place q ≤ b.last + tolerance)
    -- and at a change with another one less than the gap away there is one
    pub there : (mask : ℕ) (q : Q) (gap tolerance budget : ℕ) (o : Option Burst) → Says mask q gap tolerance budget o
        → IsChange s len mask (place q) → (i : ℕ) → IsChange s len mask i → (i ≡ place q → ⊥) → (i - place q) + (place q - i) < gap
        → (b : Burst) × (o ≡ Some b) × (b.first ≤ place q) × (place q ≤ b.last)

-- ---- all bursts of a capture for one mask and gap, each listed once: from each change that is next, with a budget that no jump reaches; the next one is searched for behind the last
module _ {Q : Type 0} (s : ℕ → ℕ) (len : ℕ) (place : Q → ℕ) (Says : ℕ → Q → ℕ → ℕ → ℕ → Option Burst → Type 0) (mask gap : ℕ) where
  -- a burst that some question finds below its budget
  pub record IsFound (b : Burst) : Type 0 where
    pub asked_at : Q
    pub tolerance : ℕ
    pub budget : ℕ
    pub said : Says mask asked_at gap tolerance budget (Some b)
    pub below : Below budget b

  -- none of them reaches across a place
  abbrev pub Done : ℕ → Type 0
  Done from = (b : Burst) → IsFound b → b.first ≤ from → b.last ≤ from

  pub record IsNext (from c : ℕ) : Type 0 where
    pub change : IsChange s len mask c
    pub behind : from < c
    pub soonest : (i : ℕ) → IsChange s len mask i → from < i → c ≤ i

  pub record ListsOnce : Type 0 where
    pub start : Done 0
    -- the burst at the next change begins there, and it is the only one that begins before the list goes on
    pub listed : (from : ℕ) → Done from → (q : Q) → IsNext from (place q) → (budget : ℕ) → len ≤ budget → (b : Burst) → Says mask q gap 0 budget (Some b)
        → (b.first ≡ place q) × Done b.last × ((c : Burst) → IsFound c → from < c.first → c.first ≤ b.last → SameEnds c b)
    -- where there is none at it, none begins up to it
    pub passed : (from : ℕ) → Done from → (q : Q) → IsNext from (place q) → (budget : ℕ) → Says mask q gap 0 budget None
        → Done (place q) × ((c : Burst) → IsFound c → from < c.first → c.first ≤ place q → ⊥)
    -- behind the last change none begins
    pub ended : (from : ℕ) → ((i : ℕ) → IsChange s len mask i → i ≤ from) → (c : Burst) → IsFound c → c.first ≤ from
