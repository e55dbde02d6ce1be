-- What a mill's searches answer: 02's refusals, else the service's walk over memory's own nodes, its places as the mill counts them.
use Rattle.std.specs.Prelude.{◌≡◌, Bool, true, false, List, ℕ, ◌<◌, ℤ}
use Rattle.std.specs.Prelude.{Some, Result, Ok, Err}
use Rattle.std.specs.Option.{option_map}
use Rattle.rules.specs.Answer.{Answer, unless}
use Rattle.rules.specs.Burst as rule
use Rattle.rules.specs.Walk as walk
use Rattle.rules.specs.Walk.{Walked, through}
use Rattle.rules.specs.Mill.{place_at, shown_place, MillBurst, shown_burst, mill_search_refusal}
use Rattle.answer.specs.Answered.{number, answer_of, counted_of}
use Rattle.answer.specs.declared.Counted.{Counted}
use Rattle.answer.specs.declared.Refusal.{Refusal}
use Rattle.node.specs.declared.Memory.{Memory}
use Rattle.capture.specs.declared.Capture.{Capture}
use Rattle.capture.specs.Record.{store_of, lent_of, lent_in}
use Rattle.capture.specs.Stored.{Opened}
use Rattle.burst.specs.declared.Burst as service
use Rattle.burst.specs.Answer.{back, fore}
use Rattle.mill.specs.Reader.{origin_in}
use Rattle.mill_search.specs.declared.asked.Asked.{Asked}
use Rattle.mill_search.specs.declared.Burst.{Burst}

-- the number, or the place or burst with the nodes read
abbrev pub found_of : Result (Counted ℤ) Refusal → Answer (walk.Counted ℤ)
found_of = answer_of counted_of

abbrev pub as_burst : Burst → MillBurst
as_burst b = record { first = b.first; last = b.last; jumps_end = b.jumps_end; jumps_start = b.jumps_start }

abbrev pub bursts_as : Counted Burst → walk.Counted MillBurst
bursts_as c = through (option_map as_burst) (counted_of c)

abbrev pub burst_as : Result (Counted Burst) Refusal → Answer (walk.Counted MillBurst)
burst_as = answer_of bursts_as

-- ---- the answers
-- what is asked, unless row 1, 2, 12 or 13 refuses
abbrev pub asked : {A : Type 0} → Capture → List ℕ → (ℕ → List ℕ) → ℕ → ℕ → ℤ → A → Answer A
asked c samples levels grant mask p a = unless (mill_search_refusal (store_of c) (lent_of samples levels) grant mask p) a

-- the service's search, the one back or the other
abbrev pub sought : Bool → ℕ → ℕ → List ℕ → (ℕ → List ℕ) → ℕ → ℕ → Walked
sought true = back
sought false = fore

unfoldable pub change_of : Bool → Capture → List ℕ → (ℕ → List ℕ) → ℕ → ℕ → ℤ → Answer (walk.Counted ℤ)
change_of backward c samples levels grant mask from =
    asked c samples levels grant mask from (through (shown_place (origin_in c)) (sought backward c.unitsize c.len samples levels mask (place_at (origin_in c) from)))

abbrev pub next_of : Capture → List ℕ → (ℕ → List ℕ) → ℕ → ℕ → ℤ → Answer (walk.Counted ℤ)
next_of = change_of false

abbrev pub previous_of : Capture → List ℕ → (ℕ → List ℕ) → ℕ → ℕ → ℤ → Answer (walk.Counted ℤ)
previous_of = change_of true

unfoldable pub burst_of : Capture → List ℕ → (ℕ → List ℕ) → ℕ → ℕ → ℤ → ℕ → ℕ → ℕ → Answer (walk.Counted MillBurst)
burst_of c samples levels grant mask sample gap tolerance budget =
    asked c samples levels grant mask sample
    (through (shown_burst (origin_in c)) (rule.bursted_by (back c.unitsize c.len samples levels mask) (fore c.unitsize c.len samples levels mask) c.len (place_at (origin_in c) sample) gap tolerance budget))

-- ---- the way to them
-- no row refuses a question, and this is what it asks
pub record Placed (c : Capture) (m : Memory) (grant mask : ℕ) (p : ℤ) (a : Asked) : Type 0 where
  pub passes : mill_search_refusal (store_of c) (lent_in m) grant mask p ≡ 0
  pub opened : Opened c m a.stored
  pub origin_is : a.origin ≡ origin_in c
  pub place_is : a.place ≡ place_at (origin_in c) p

-- or the first that does
abbrev pub Asks : Capture → Memory → ℕ → ℕ → ℤ → Result Asked Refusal → Type 0
Asks c m grant mask p (Ok a) = Placed c m grant mask p a
Asks c m grant mask p (Err r) = number r ≡ mill_search_refusal (store_of c) (lent_in m) grant mask p

-- what is found lies among the first len samples
pub record EachPlace (len : ℕ) (found : Counted ℕ) : Type 0 where
  pub inside : (i : ℕ) → found.found ≡ Some i → i < len

pub record EachBurst (len : ℕ) (found : Counted service.Burst) : Type 0 where
  pub inside : (b : service.Burst) → found.found ≡ Some b → (b.first < len) × (b.last < len)
