-- One push as the recorder does it, over samples: what it answers and what it leaves in the record, the ring and the store. 01: Selection and recorder.
use Rattle.std.specs.Prelude.{cond, List, [], ◌∷◌, ◌++◌, ℕ, ◌+◌, min, ltb, leb, length, take, drop, get_or}
use Rattle.std.specs.Prelude.{Option, None, Some}
use Rattle.rules.specs.Ring.{place_after}
use Rattle.rules.specs.Push.{room_for}
use Rattle.rules.specs.Sample.{samples_of}
use Rattle.rules.specs.Trigger.{Armed, unarmed, waiting, first_fire, last_of}
use Rattle.rules.specs.Selection.{Rule, Reply, refused, going_on, reply_of}
use Rattle.feeder_lists.specs.Ring.{ending, ring_after, read_out}

-- what changes from push to push
pub record State : Type 0 where
  pub armed : Armed
  pub previous : Option ℕ
  pub ring : List ℕ
  pub place : ℕ
  pub kept : ℕ
  pub stored : List ℕ
  pub mark : Option ℕ

pub record Done : Type 0 where
  pub reply : Reply
  pub state : State

-- ---- to the store
abbrev pub with_more : State → List ℕ → State
with_more s xs = record { armed = s.armed; previous = s.previous; ring = s.ring; place = s.place; kept = s.kept; stored = s.stored ++ xs; mark = s.mark }

abbrev pub more_of : Rule → State → List ℕ → List ℕ
more_of r s xs = take (room_for r.limit (length s.stored) (length xs)) xs

-- the store's length with what the limit leaves of n samples
abbrev pub len_with : Rule → ℕ → ℕ → ℕ
len_with r len n = len + room_for r.limit len n

-- xs goes to the store of s; where it has no room the answer is 8, and `back` is left
unfoldable pub storing : Rule → State → State → List ℕ → Done
storing r back s xs =
    cond (leb (len_with r (length s.stored) (length xs)) r.capacity)
    (record { reply = reply_of s.armed r.limit (len_with r (length s.stored) (length xs)); state = with_more s (more_of r s xs) })
    (record { reply = refused 8; state = back })

-- ---- an armed recorder
-- "Firing keeps the firing sample as the previous one and sets kept count and ring place to 0"; i is its place in the push
abbrev pub fired : Rule → State → List ℕ → ℕ → State
fired r s p i = record { armed = unarmed; previous = Some (get_or p i 0); ring = s.ring; place = 0; kept = 0; stored = s.stored; mark = Some (min r.pre (s.kept + i)) }

-- the samples before the firing one
abbrev pub head_of : Rule → State → List ℕ → ℕ → List ℕ
head_of r s p i = ending r.pre (read_out r.pre s.ring s.place s.kept ++ take i p)

-- not fired: every sample goes to the ring
abbrev pub waited : Rule → State → List ℕ → State
waited r s p = record {
  armed = s.armed;
  previous = last_of s.previous p;
  ring = ring_after r.pre s.ring s.place p;
  place = place_after r.pre s.place (length p);
  kept = min r.pre (s.kept + length p);
  stored = s.stored;
  mark = s.mark;
}

abbrev pub firing : Rule → State → List ℕ → ℕ → Done
firing r s p i = cond (ltb i (length p)) (storing r s (fired r s p i) (head_of r s p i ++ drop i p)) (record { reply = going_on; state = waited r s p })

-- "a push on an unarmed recorder goes straight to the store"
abbrev pub taken : Armed → Rule → State → List ℕ → Done
taken unarmed r s p = storing r s s p
taken (waiting m) r s p = firing r s p (first_fire m s.previous p)

unfoldable pub step : Rule → State → List ℕ → Done
step r s p = taken s.armed r s p

-- ---- lists of pushes of bytes
abbrev pub pushed : Rule → State → List ℕ → Done
pushed r s push = step r s (samples_of r.unit push)

unfoldable pub steps : Rule → State → List (List ℕ) → State
steps r s [] = s
steps r s (push ∷ pushes) = steps r (pushed r s push).state pushes

unfoldable pub replies : Rule → State → List (List ℕ) → List Reply
replies r s [] = []
replies r s (push ∷ pushes) = (pushed r s push).reply ∷ replies r (pushed r s push).state pushes

-- what start gives, with a ring that holds anything
abbrev pub fresh : Rule → List ℕ → State
fresh r g = record { armed = r.armed; previous = None; ring = g; place = 0; kept = 0; stored = []; mark = None }
